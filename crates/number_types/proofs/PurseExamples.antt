-- The purse of the examples.
use Rattle.std.proofs.Common.{◌≡◌, ℕ, ◌≤◌, Some, IsSome, is_some, refl, sym, ap, subst, ◌∙◌, arith}
use Rattle.std.proofs.lemmas.Slice.Eq.{bytes_eq-Decides}
use Rattle.type_table.specs.Operation.{place_of, amount_of}
use Rattle.type_table.specs.Table.{HasPlace, call_of}
use Rattle.escrow_laws.specs.Bounds.{moved}
use Rattle.number_types.specs.declared.number_op.NumberOp.{NumberOp}
use Rattle.number_types.specs.Number.{IsNumber}
use Rattle.number_types.specs.Operations.{op_at, op_done, op_bounds, number_table, NumberHasTable}
use Rattle.number_types.specs.Called.{IsCalled, IsOneLegal, NumbersAnswer}
use Rattle.number_types.specs.Examples.{purse}
use Rattle.number_types.proofs.Tables.{done_is, next_of_op, has_what_is_there}
use Rattle.number_types.proofs.SameCall.{asked}
use Rattle.number_types.proofs.Called.{of_same_call}

pub purse_is : IsNumber purse
purse_is = record {
  some_max = omega arith;
  max_fits = omega arith;
  initial_inside = omega arith;
  amounts = refl;
  ascending = refl;
  some_call = omega arith;
  calls_fit = omega arith;
}

-- an operation that is there has its place
pub purse_has : (p : ℕ) (op : NumberOp) → op_at purse p ≡ Some op → HasPlace (number_table purse) (place_of p)
purse_has p op is = (p, refl, sym (has_what_is_there purse p purse_is) ∙ ap is_some is)

-- what stands for a call has the amount of each operation of that call that is legal
pub legal_amount : NumberHasTable → (number c called k : ℕ) (op other : NumberOp) → op_at purse c ≡ Some op → op_done purse k ≡ Some other → asked other ≡ asked op → IsSome (moved (op_bounds purse.max other) number) →
    IsCalled (number_table purse) number c called → amount_of k ≡ amount_of called
legal_amount tables number c called k op other is done asks legal h =
    let same = (bytes_eq-Decides (call_of (number_table purse) k) (call_of (number_table purse) c)).1 (of_same_call purse k c other op purse_is (done_is purse k other done) is asks) in
    (h.covers k same (ap is_some (next_of_op tables purse number k other purse_is done) ∙ legal)).0

-- what is done for a call and legal is what answers it
pub purse_answers : NumberHasTable → NumbersAnswer → (number c k : ℕ) (op other : NumberOp) → number ≤ purse.max → op_at purse c ≡ Some op → op_done purse k ≡ Some other → asked other ≡ asked op
    → IsSome (moved (op_bounds purse.max other) number) → IsOneLegal (number_table purse) (Some number) c k
purse_answers tables answers number c k op other inside is done asks legal =
    let one = answers purse purse_is number c inside (sym (has_what_is_there purse c purse_is) ∙ ap is_some is) in
    let same = (bytes_eq-Decides (call_of (number_table purse) k) (call_of (number_table purse) c)).1 (of_same_call purse k c other op purse_is (done_is purse k other done) is asks) in
    subst (λ j. IsOneLegal (number_table purse) (Some number) c j) (sym (one.1.only k same (ap is_some (next_of_op tables purse number k other purse_is done) ∙ legal))) one.1

-- so no other operation does
pub one_answer : (number c k j : ℕ) → IsOneLegal (number_table purse) (Some number) c k → IsOneLegal (number_table purse) (Some number) c j → j ≡ k
one_answer number c k j is other = is.only j other.same other.legal
