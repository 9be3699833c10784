use Rattle.std.proofs.Common.{refl, ap, subst, ◌∙◌, inl, inr}
use Rattle.table_checker.specs.Checked.{IsChecked}
use Rattle.declared_types.specs.Declarations.{number_file}
use Rattle.library_calls.specs.Codes.{number}
use Rattle.library_calls.specs.Holding.{type_at}
use Rattle.colock_c.specs.Types.{accepted, memory_refused}
use Rattle.colock_c.proofs.held_types.hold_number.Goals as goal

pub returns-in-Ok : goal.returns-in-Ok
returns-in-Ok c = λ was.
    elim c.hold.ensures [
      | inl done ↦ accepted (number_file c.args.file) c.in-Ok.checked.value refl
          (record { is = c.in-Ok.ensures.ok ∙ c.check_number-checked.ensures.exact; checked = subst IsChecked c.check_number-checked.ensures.exact c.declared-declared.ensures.checked })
          (ap number done.0) refl (ap type_at done.1)
      | inr none ↦ memory_refused (ap number none.0) refl none.1
    ]
