-- Made numbers are accepted.
use Rattle.declared_types.specs.Declarations.{number_file}
use Rattle.table_checker.specs.Answer.{OneAnswer}
use Rattle.table_checker.specs.Declarations.{NumberIsChecked}
use Rattle.type_table.specs.declared.kind.Kind.TheVariants.{Escrow}
use Rattle.table_families.specs.Number.{amounts_number}
use Rattle.table_families.proofs.NumberFacts.{is_number}
use Rattle.made_answers.specs.Laws.{NumbersAreAccepted}
use Rattle.made_answers.proofs.Yeses.{answered}

pub numbers_are_accepted : OneAnswer → NumberIsChecked → NumbersAreAccepted
numbers_are_accepted one checked = λ max amounts max_fits good fits.
    let is = checked (amounts_number max amounts) (is_number max amounts max_fits good fits) in
    record { yes = (answered one Escrow (number_file (amounts_number max amounts))).1 is.0; strong = is.1 }
