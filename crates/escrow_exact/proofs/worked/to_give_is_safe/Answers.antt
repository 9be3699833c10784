use Rattle.std.proofs.Common.{[], ◌∷◌, refl, sym, subst}
use Rattle.std.proofs.lemmas.Option.{same_Some}
use Rattle.type_table.specs.Table.{next}
use Rattle.escrow_laws.specs.Bounds.{steps_of}
use Rattle.escrow_laws.specs.Firm.{with_op}
use Rattle.escrow_laws.specs.Safe.{IsSafe}
use Rattle.serial_order.specs.Examples.{number_object}
use Rattle.serial_order.specs.Machine.{IsRun, MayFollow}
use Rattle.escrow_exact.specs.Ends.{open_own}
use Rattle.escrow_exact.specs.Examples.{give, taken_history}
use Rattle.escrow_exact.proofs.Numbers.{number-covered}
use Rattle.escrow_exact.proofs.worked.to_give_is_safe.Goals as goal

pub returns-clause-covered : goal.returns-clause-covered
returns-clause-covered c = number-covered c.numbers_have_tables.ensures c.bounds_are_numeric.ensures

-- by the law
pub returns-clause-safe : goal.returns-clause-safe
unfolding next steps_of
returns-clause-safe c =
    let covered = number-covered c.numbers_have_tables.ensures c.bounds_are_numeric.ensures in
    let may : MayFollow (number_object ∷ []) taken_history give = (refl, (refl, refl, (refl, tt))) in
    let is_run : IsRun (number_object ∷ []) taken_history = (refl, (refl, ((refl, (refl, refl, tt)), tt))) in
    let known = c.escrow_admits_the_safe.ensures (number_object ∷ []) taken_history 0 number_object 1 is_run refl covered refl refl in
    subst (λ base. IsSafe number_object.table base (with_op (open_own 0 taken_history) 1 2)) (same_Some known.base 5 (sym known.committed)) ((known.safe 0 2).0 may).1
