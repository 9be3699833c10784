-- What the audits of small histories say, where it takes more than computing.
use Rattle.std.proofs.Common.{◌≡◌, ℕ, zero, suc, List, [], ◌∷◌, Some, slice_get, refl, subst, ◌∙◌, inl, inr, arith}
use Rattle.std.proofs.lemmas.Option.{none-some, same_Some}
use Rattle.type_table.specs.Table.{Table, next}
use Rattle.type_table.specs.Run.{run}
use Rattle.type_table.specs.Examples.{counter_table, one_way}
use Rattle.object_trait.specs.declared.event.Event.{Event}
use Rattle.serial_order.specs.Operations.{ops}
use Rattle.serial_order.specs.History.{commits}
use Rattle.serial_order.specs.Serial.{serial_at}
use Rattle.serial_order.specs.Examples.{one_way_history, unlocked_history, two_objects_history}
use Rattle.history_judge.specs.Audit.{IsAudit, IsIllegalAt, IsFirstIllegal, ComesBefore}
use Rattle.history_judge.specs.Examples.{two_counters}

-- the state at an object of a known table
pub state-at : (H : List Event) (x : ℕ) (known T : Table) (before s : ℕ) → run known (Some known.initial) (ops (serial_at x H)) ≡ Some before
    → Some known ≡ Some T → Some before ≡ Some s → run T (Some T.initial) (ops (serial_at x H)) ≡ Some s
state-at H x known T before s reached table at =
    let P : Table → Type 0 = λ U. run U (Some U.initial) (ops (serial_at x H)) ≡ Some s in
    subst P (same_Some known T table) (reached ∙ at)

one_way-states : (x : ℕ) (T : Table) (s : ℕ) → slice_get (one_way ∷ []) x ≡ Some T → slice_get (4 ∷ []) x ≡ Some s
    → run T (Some T.initial) (ops (serial_at x one_way_history)) ≡ Some s
unfolding next
one_way-states zero T s table at = state-at one_way_history 0 one_way T 4 s refl table at
one_way-states (suc x) T s table at = absurd (none-some T table)

pub one_way-audit : IsAudit (one_way ∷ []) one_way_history (1 ∷ 0 ∷ []) (4 ∷ [])
one_way-audit = record { order_is = refl; leads = record { as_many = refl; states = one_way-states } }

struck-states : (x : ℕ) (T : Table) (s : ℕ) → slice_get two_counters x ≡ Some T → slice_get (1 ∷ 0 ∷ []) x ≡ Some s
    → run T (Some T.initial) (ops (serial_at x two_objects_history)) ≡ Some s
unfolding next
struck-states zero T s table at = state-at two_objects_history 0 counter_table T 1 s refl table at
struck-states (suc zero) T s table at = state-at two_objects_history 1 counter_table T 0 s refl table at
struck-states (suc (suc x)) T s table at = absurd (none-some T table)

pub struck-audit : IsAudit two_counters two_objects_history (0 ∷ []) (1 ∷ 0 ∷ [])
struck-audit = record { order_is = refl; leads = record { as_many = refl; states = struck-states } }

-- the transaction that commits first counts down at 0
down-illegal : IsIllegalAt (counter_table ∷ []) unlocked_history (commits unlocked_history) 0 0 0
unfolding next
down-illegal = record { t = 1; table = counter_table; transaction = refl; object = refl; there = omega arith; illegal = refl }

-- nothing comes before the first numbers
pub none-before : (k y l : ℕ) → ComesBefore k y l 0 0 0 → ⊥
none-before k y l (inl less) = omega (arith, less)
none-before k y l (inr (same, inl less)) = omega (arith, less)
none-before k y l (inr (same, inr (here, less))) = omega (arith, less)

pub down-first : IsFirstIllegal (counter_table ∷ []) unlocked_history (commits unlocked_history) 0 0 0
down-first = record { illegal = down-illegal; first = λ k y l before wrong. none-before k y l before }
