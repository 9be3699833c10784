-- A family of numbers of which each operation has bounds is numeric.
use Rattle.std.proofs.Common.{◌≡◌, ℕ, ◌+◌, ◌-◌, ◌<◌, ◌≤◌, List, length, map, Option, Some, None, slice_get, inl, inr, refl, sym, ap, subst, ◌∙◌, arith}
use Rattle.std.specs.List.{range_with_len}
use Rattle.std.proofs.lemmas.Bool.{cases_lt}
use Rattle.std.proofs.lemmas.List.FromFn.{length-map-range_with_len}
use Rattle.std.proofs.lemmas.Option.{slice_get_past}
use Rattle.type_table.specs.Laws.{StepsWithin}
use Rattle.type_table.specs.Table.{Table, IsTable, next}
use Rattle.type_table.specs.declared.kind.Kind.TheVariants as kinds
use Rattle.type_table.specs.declared.table_kind.TableKind.TheVariants as tabled
use Rattle.escrow_laws.specs.Bounds.{AreBounds, ArePlain, AreWithin, IsOneWay, IsWithinBounds, amounts_of, bounds_of, moved, moved_by}
use Rattle.escrow_laws.specs.Laws.{BoundsAreNumeric, BoundsAreTold}
use Rattle.escrow_laws.specs.declared.bounded.Bounded.{Bounded}
use Rattle.escrow_laws.proofs.Numbers.{none-above}
use Rattle.number_types.proofs.Tables.{at_place, found_by}
use Rattle.table_checker.specs.Answer.{OneAnswer}
use Rattle.table_checker.specs.Checked.{IsNumericType}
use Rattle.table_maker.specs.Made.{Family, IsTableOfFamily}
use Rattle.made_answers.specs.Laws.{FamiliesAreAccepted, FamiliesHaveClosedSets, IsForEachKind, MadeIsExact, MadeIsStrong, NumericIsStrong}
use Rattle.made_answers.proofs.Yeses.{answered}

-- of the numbers from 0 to top: the steps of an operation, which is legal from one of them to another, and moves each of these as far
pub record AreBoundsOf (top : ℕ) (step : ℕ → Option ℕ) (b : Bounded) : Type 0 where
  pub steps : (s : ℕ) → s ≤ top → step s ≡ moved b s
  pub within : IsWithinBounds top b
  pub one_way : IsOneWay b

-- these numbers are the family's states, and each operation has such bounds
pub record IsBoundedFamily (f : Family) (top : ℕ) (bounds : ℕ → Bounded) : Type 0 where
  pub states : f.states ≡ top + 1
  pub each : (k : ℕ) → k < length f.ops → AreBoundsOf top (λ s. f.step s k) (bounds k)

-- the bounds of its operations
abbrev listed : Family → (ℕ → Bounded) → List Bounded
listed f bounds = map bounds (range_with_len 0 (length f.ops))

listed_within : (f : Family) (top : ℕ) (bounds : ℕ → Bounded) → IsBoundedFamily f top bounds → AreWithin top (listed f bounds)
listed_within f top bounds is = λ k b at.
    let here = found_by bounds (length f.ops) k b at in
    subst (IsWithinBounds top) here.1 (is.each k here.0).within

listed_plain : (f : Family) (top : ℕ) (bounds : ℕ → Bounded) → IsBoundedFamily f top bounds → ArePlain (listed f bounds)
listed_plain f top bounds is = λ k b at.
    let here = found_by bounds (length f.ops) k b at in
    inl (subst IsOneWay here.1 (is.each k here.0).one_way)

-- ---- its table

-- what is no state is none
none_is : (o : Option ℕ) → ((t : ℕ) → o ≡ Some t → ⊥) → o ≡ None
none_is None no_state = refl
none_is (Some t) no_state = absurd (no_state t refl)

-- its steps are those of its bounds, also past its states and its operations
steps_are : StepsWithin → (f : Family) (top : ℕ) (bounds : ℕ → Bounded) (T : Table) → IsBoundedFamily f top bounds → IsTable T → IsTableOfFamily f T
    → (s k : ℕ) → next T s k ≡ moved_by (slice_get (listed f bounds) k) s
steps_are steps_within f top bounds T is table of_family s k =
    let count : length T.ops ≡ length f.ops = ap length of_family.ops in
    elim (cases_lt k (length f.ops)) [
      | inl k_in ↦ elim (cases_lt s (top + 1)) [
        | inl s_in ↦
            of_family.steps s k (omega (arith, s_in, is.states)) k_in ∙ (is.each k k_in).steps s (omega (arith, s_in))
            ∙ sym (ap (λ o. moved_by o s) (at_place bounds (length f.ops) k k_in))
        | inr s_out ↦
            none_is (next T s k) (λ t step. omega (arith, (steps_within T s k t table step).0, s_out, is.states, of_family.states))
            ∙ sym (none-above (slice_get (listed f bounds) k) top s (listed_within f top bounds is k) (omega (arith, s_out)))
      ]
      | inr k_out ↦
          none_is (next T s k) (λ t step. omega (arith, (steps_within T s k t table step).1, k_out, count))
          ∙ sym (ap (λ o. moved_by o s) (slice_get_past (listed f bounds) k (omega (arith, k_out, length-map-range_with_len bounds 0 (length f.ops)))))
    ]

-- so the table is numeric
numeric : StepsWithin → BoundsAreTold → (f : Family) (top : ℕ) (bounds : ℕ → Bounded) (T : Table) → IsBoundedFamily f top bounds → IsTable T → IsTableOfFamily f T → IsNumericType T
numeric steps_within told f top bounds T is table of_family =
    let same : top ≡ T.states - 1 = omega (arith, is.states, of_family.states) in
    let are : AreBounds T top (listed f bounds) = record { steps = steps_are steps_within f top bounds T is table of_family; within = listed_within f top bounds is } in
    let here : AreBounds T (T.states - 1) (listed f bounds) = subst (λ m. AreBounds T m (listed f bounds)) same are in
    let as_many : length T.ops ≡ length (listed f bounds) = ap length of_family.ops ∙ sym (length-map-range_with_len bounds 0 (length f.ops)) in
    record {
      states_fit = omega (arith, table.states_fit);
      initial_inside = table.initial_inside;
      bounds = subst (λ (ops : List Bounded). AreBounds T (T.states - 1) ops) (sym (told T (listed f bounds) table.some_states as_many (listed_plain f top bounds is) here)) here;
    }

-- ---- the answers to its files

-- what is known of files of families
pub record AreAnswered : Type 0 where
  pub one : OneAnswer
  pub bounds : BoundsAreNumeric
  pub exact : MadeIsExact
  pub strong : MadeIsStrong
  pub sets : FamiliesHaveClosedSets
  pub families : FamiliesAreAccepted
  pub numeric : NumericIsStrong

-- the answer to each is a strong yes for each kind
pub for_each_kind : AreAnswered → StepsWithin → BoundsAreTold → (f : Family) (top : ℕ) (bounds : ℕ → Bounded) → IsBoundedFamily f top bounds → IsForEachKind f
for_each_kind known steps_within told f top bounds is kinds.Undo file of_family =
    let type_is = numeric steps_within told f top bounds file.table is of_family.made.table of_family.table in
    known.numeric file (amounts_of (bounds_of file.table)) (known.exact file of_family.made (known.sets f file of_family))
    (known.bounds file.table (file.table.states - 1) (bounds_of file.table) type_is.bounds) (known.families f tabled.Undo file of_family)
for_each_kind known steps_within told f top bounds is kinds.Intentions file of_family = known.strong file of_family.made (known.sets f file of_family)
for_each_kind known steps_within told f top bounds is kinds.Escrow file of_family = record {
  yes = (answered known.one kinds.Escrow file).1 (numeric steps_within told f top bounds file.table is of_family.made.table of_family.table);
  strong = tt;
}
