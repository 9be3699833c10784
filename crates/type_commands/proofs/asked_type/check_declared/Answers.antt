use Rattle.std.proofs.Common.{◌≡◌, sym, subst, Ok}
use Rattle.number_types.specs.Number.{Number}
use Rattle.table_checker.specs.Answer.{IsAnswer}
use Rattle.table_checker.specs.Checked.{Checked, IsChecked}
use Rattle.declared_types.specs.Declarations.{IsDeclaredFor, file_of, number_file}
use Rattle.declared_types.specs.declared.declared_type.Declaration.{Declaration}
use Rattle.type_table.specs.declared.kind.Kind.{Kind}
use Rattle.type_table.specs.declared.kind.Kind.TheVariants.{Escrow}
use Rattle.type_commands.proofs.asked_type.check_declared.Goals as goal

-- a number that is accepted for escrow is the checker's answer
number_answer : (kind : Kind) (number : Number) (checked : Checked) → kind ≡ Escrow → checked ≡ record { kind = Escrow; file = number_file number }
    → IsChecked checked → IsAnswer kind (number_file number) (Ok checked)
number_answer kind number checked fits exact tested =
    let K : Kind → Type 0 = λ k. checked ≡ record { kind = k; file = number_file number } in
    let same : checked ≡ record { kind = kind; file = number_file number } = subst K (sym fits) exact in
    (same, subst IsChecked same tested)

pub returns-in-Number-clause-exact : goal.returns-in-Number-clause-exact
returns-in-Number-clause-exact g c =
    let P : Declaration → Type 0 = λ declaration. IsAnswer c.args.kind (file_of declaration) (Ok c.check_number-checked.result) in
    let Q : Declaration → Type 0 = λ declaration. IsDeclaredFor c.args.kind declaration in
    subst P (sym c.in-Number.is)
    (number_answer c.args.kind c.in-Number.number c.check_number-checked.result (subst Q c.in-Number.is c.requires) c.check_number-checked.ensures.exact c.initial-initial.ensures.checked)
