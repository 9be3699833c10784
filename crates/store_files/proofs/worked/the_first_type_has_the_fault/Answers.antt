use Rattle.std.proofs.Common.{[], codes, refl}
use Rattle.std.proofs.lemmas.Option.{none-some}
use Rattle.command_files.specs.Examples.{endless_bytes}
use Rattle.store_files.specs.Types.{AreDeclaredAt}
use Rattle.store_files.specs.Examples.{everywhere}
use Rattle.store_files.proofs.worked.the_first_type_has_the_fault.Goals as goal

-- no word comes before the first
none-before : AreDeclaredAt (everywhere endless_bytes) [] []
none-before = record { as_many = refl; each = λ k path file at is. absurd (none-some path at) }

pub returns-clause-first : goal.returns-clause-first
returns-clause-first c =
    record { k = 0; path = codes "a"; there = refl; values = []; before = none-before; faulty = c.a_text_with_a_fault.ensures.undeclared }
