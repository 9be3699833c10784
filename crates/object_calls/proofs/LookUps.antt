-- What is looked at to answer a call, of a table and of a number.
use Rattle.std.proofs.Common.{◌≡◌, ℕ, ◌+◌, ◌*◌, ◌/◌, ◌<◌, ◌≤◌, true, nat_lt, List, length, slice_get, Option, Some, None, IsSome, refl, sym, ap, subst, ◌∙◌, arith}
use Rattle.std.specs.Int.{bit_at}
use Rattle.std.proofs.lemmas.Bool.{false≢true, and_parts, and_from, eq-eqb, eqb-true, lt-ltb, ltb-true}
use Rattle.std.proofs.lemmas.List.FromFn.{length-map-range_with_len}
use Rattle.std.proofs.lemmas.Slice.Eq.{bytes_eq-Decides}
use Rattle.type_table.specs.Limits.{most_ops}
use Rattle.type_table.specs.Operation.{operation_at, place_of, amount_of, operation-again, place-of-operation, amount-of-operation}
use Rattle.type_table.specs.Run.{next_of}
use Rattle.type_table.specs.Table.{Table, next, call_of, has_op, is_same_call}
use Rattle.number_types.proofs.FirstNamed.{first_named}
use Rattle.number_types.specs.Called.{IsCalled}
use Rattle.number_types.specs.declared.number_call.NumberCall.TheVariants.{Value}
use Rattle.number_types.proofs.Called.{called_itself}
use Rattle.number_types.specs.Number.{Number, IsNumber}
use Rattle.number_types.specs.Operations.{op_at, op_count, names_or_none, number_table, NumberHasTable}
use Rattle.declared_types.proofs.TableOps.{op_below}
use Rattle.object_trait.specs.Meaning.{Meaning, view_of}
use Rattle.object_trait.specs.Steps.{IsLegalFor}
use Rattle.object_calls.specs.Asked.{beside, AreLookedAt, IsAskedCall}
use Rattle.object_calls.specs.Calls.{IsCall}
use Rattle.object_calls.specs.declared.call.Call.{Call}
use Rattle.object_calls.proofs.NumberCalls.{first_place, many_ops}

-- the call of a first operation has a name
named_call : (T : Table) (call : Call) → IsCall T call → has_op T call.first ≡ true
named_call T call h = (first_named T (call_of T call.first) call.first h.least).1

-- so whatever is of one call with it is an operation
pub named_as : (T : Table) (c k : ℕ) → has_op T c ≡ true → call_of T k ≡ call_of T c → has_op T k ≡ true
named_as T c k named same = ap (λ (name : List ℕ). nat_lt 0 (length name)) same ∙ named

-- ---- of a table

module _ (T : Table) (call : Call) (h : IsCall T call) (few : length T.ops ≤ most_ops) where
  -- its operations have no amounts, and are at their numbers
  no_amount : (k : ℕ) → k < length T.ops → amount_of k ≡ None
  no_amount k below = amount-of-operation k None (omega (arith, below, few))

  at_itself : (place : ℕ) → beside call.first place ≡ place
  at_itself place = ap (operation_at place) (no_amount call.first (op_below T call.first (named_call T call h)))

  -- what its word has is of the call
  of_word : (place : ℕ) → place < 64 → bit_at call.operations place ≡ 1 → (nat_lt place (length T.ops) ≡ true) × (is_same_call T place call.first ≡ true)
  of_word place low has =
      and_parts (nat_lt place (length T.ops)) (is_same_call T place call.first) (sym (h.operations few place low) ∙ eq-eqb (bit_at call.operations place) 1 has)

  pub table_inside : AreLookedAt T call
  table_inside = λ place low has. omega (arith, at_itself place, ltb-true place (length T.ops) (of_word place low has).0)

pub table_asked : (m : Meaning) (t : ℕ) (call : Call) → IsCall m.checked.file.table call → length m.checked.file.table.ops ≤ most_ops → IsAskedCall m t call.first call
table_asked m t call h few = record {
  same = refl;
  covers = λ k same legal.
      let T = m.checked.file.table in
      let below = op_below T k (named_as T call.first k (named_call T call h) ((bytes_eq-Decides (call_of T k) (call_of T call.first)).0 same)) in
      let place : place_of k ≡ k = place-of-operation k None (omega (arith, below, few)) in
      let low : k < 64 = omega (arith, below, few) in
      let has = eqb-true (bit_at call.operations k) 1 (h.operations few k low ∙ and_from (nat_lt k (length T.ops)) (is_same_call T k call.first) (lt-ltb k (length T.ops) below) same) in (
        no_amount T call h few k below ∙ sym (no_amount T call h few call.first (op_below T call.first (named_call T call h))),
        omega (arith, place, low),
        ap (bit_at call.operations) place ∙ has,
      );
  of_call = λ place low has legal.
      let T = m.checked.file.table in
      ap (λ k. is_same_call T k call.first) (at_itself T call h few place) ∙ (of_word T call h few place low has).1;
}

-- ---- of a number

module _ (v : Number) (call : Call) (h : IsCall (number_table v) call) where
  -- its word has the two places of its line
  in_line : (place : ℕ) → place < 64 → bit_at call.operations place ≡ 1 → place / 2 ≡ place_of call.first / 2
  in_line place low has =
      eqb-true (place / 2) (place_of call.first / 2) (sym (h.line (many_ops v) place low) ∙ eq-eqb (bit_at call.operations place) 1 has)

  has_line : IsNumber v → (place : ℕ) → place / 2 ≡ place_of call.first / 2 → (place < 64) × (bit_at call.operations place ≡ 1)
  has_line known place same =
      let low : place < 64 = omega (arith, same, first_place v call.first known h.least) in
      (low, eqb-true (bit_at call.operations place) 1 (h.line (many_ops v) place low ∙ eq-eqb (place / 2) (place_of call.first / 2) same))

  -- it has 256 numbers for each amount, and none
  count : length (number_table v).ops ≡ 256 * (v.max + 2)
  count = length-map-range_with_len (λ q. names_or_none (op_at v q)) 0 (op_count v)

  -- so with an amount that an operation has there is a number for each place
  module _ (called : ℕ) (same : call_of (number_table v) called ≡ call_of (number_table v) call.first) where
    called_below : called < 256 * (v.max + 2)
    called_below =
        omega (arith, count, op_below (number_table v) called (named_as (number_table v) call.first called (named_call (number_table v) call h) same))

    number_inside : AreLookedAt (number_table v) (record { first = called; operations = call.operations })
    number_inside = λ place low has. omega (arith, count, by place low (amount_of called) (operation-again called))
      where
        by : (place : ℕ) → place < 64 → (amount : Option ℕ) → operation_at (place_of called) amount ≡ called → operation_at place amount < 256 * (v.max + 2)
        by place low None is = omega (arith, low)
        by place low (Some n) is = omega (arith, low, is, called_below)

-- what is looked at in place of a call of a number
abbrev pub in_place : Call → ℕ → Call
in_place call called = record { first = called; operations = call.operations }

-- where the table of an object is a number's, what is legal for t is legal at the number that it sees
pub legal_at : (m : Meaning) (t : ℕ) (v : Number) → m.checked.file.table ≡ number_table v → (seen : ℕ) → view_of m t ≡ Some seen → (k : ℕ) → IsLegalFor m t k
    → IsSome (next (number_table v) seen k)
legal_at m t v is seen sees k legal = subst (λ T. IsSome (next T seen k)) is (subst (λ s. IsSome (next_of m.checked.file.table s k)) sees legal)

-- and what is looked at in place of a call is what may be legal
module _ (m : Meaning) (t : ℕ) (v : Number) (known : IsNumber v) (is : m.checked.file.table ≡ number_table v)
    (call : Call) (h : IsCall m.checked.file.table call)
    (seen : ℕ) (sees : view_of m t ≡ Some seen) (called : ℕ) (stands : IsCalled (number_table v) seen call.first called) where
  of_number : IsCall (number_table v) call
  of_number = subst (λ T. IsCall T call) is h

  pub called_inside : AreLookedAt m.checked.file.table (in_place call called)
  called_inside = subst (λ T. AreLookedAt T (in_place call called)) (sym is) (number_inside v call of_number called stands.same)

  pub called_asked : IsAskedCall m t call.first (in_place call called)
  called_asked = record {
    same = subst (λ T. call_of T called ≡ call_of T call.first) (sym is) stands.same;
    covers = λ k same legal.
        let at = stands.covers k (subst (λ T. is_same_call T k call.first ≡ true) is same) (legal_at m t v is seen sees k legal) in
        let has = has_line v call of_number known (place_of k) at.1 in
        (at.0, has.0, has.1);
    of_call = λ place low has legal.
        subst (λ T. is_same_call T (beside called place) call.first ≡ true) (sym is)
        (stands.of_call place (in_line v call of_number place low has) (legal_at m t v is seen sees (beside called place) legal));
  }

-- of a number's call that doesn't read the value what is looked at is the call itself
module _ (m : Meaning) (t : ℕ) (v : Number) (known : IsNumber v) (is : m.checked.file.table ≡ number_table v)
    (call : Call) (h : IsCall m.checked.file.table call) (tables : NumberHasTable) (other : slice_get v.calls (place_of call.first / 2) ≡ Some Value → ⊥) where
  its_call : IsCall (number_table v) call
  its_call = subst (λ T. IsCall T call) is h

  pub other_inside : AreLookedAt m.checked.file.table call
  other_inside = subst (λ T. AreLookedAt T call) (sym is) (number_inside v call its_call call.first refl)

  pub other_asked : IsAskedCall m t call.first call
  other_asked = go (view_of m t) refl
    where
      none : view_of m t ≡ None → (k : ℕ) → IsLegalFor m t k → ⊥
      none sees k legal = false≢true (subst (λ s. IsSome (next_of m.checked.file.table s k)) sees legal)

      go : (o : Option ℕ) → view_of m t ≡ o → IsAskedCall m t call.first call
      go (Some seen) sees = called_asked m t v known is call h seen sees call.first (called_itself tables v seen call.first known its_call.least other)
      go None sees = record {
        same = refl;
        covers = λ k same legal. absurd (none sees k legal);
        of_call = λ place low has legal. absurd (none sees (beside call.first place) legal);
      }
