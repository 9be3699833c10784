-- Where the first operation of a number's call is, and what is legal of that call.
use Rattle.std.proofs.Common.{◌≡◌, ℕ, ◌+◌, ◌*◌, ◌/◌, ◌%◌, ◌<◌, ◌⊎◌, true, Option, Some, None, IsSome, is_some, refl, sym, ap, subst, ◌∙◌, inl, inr, arith}
use Rattle.std.specs.Prelude.{slice_get}
use Rattle.std.proofs.lemmas.Bool.{cases_eq}
use Rattle.std.proofs.lemmas.Option.{none-some, same_Some}
use Rattle.std.proofs.lemmas.Slice.Eq.{bytes_eq-Decides}
use Rattle.type_table.specs.Operation.{operation_at, place_of, amount_of, operation-again, place-of-operation, amount-of-operation}
use Rattle.type_table.specs.Table.{call_of, first_op, is_same_call, next}
use Rattle.type_table.proofs.Elements.{element_at}
use Rattle.number_types.specs.declared.number_call.NumberCall.{NumberCall}
use Rattle.number_types.specs.declared.number_call.NumberCall.TheVariants as calls
use Rattle.number_types.specs.declared.number_op.NumberOp.{NumberOp}
use Rattle.number_types.specs.Number.{Number, IsNumber}
use Rattle.number_types.specs.Operations.{amount_for, ops_of_call, op_at, number_table, NumberHasTable}
use Rattle.number_types.proofs.Tables.{found, done_is, has_what_is_there}
use Rattle.number_types.proofs.LinePlaces.{op_by_parts, ops_within}
use Rattle.number_types.proofs.SameCall.{asked, asked_there, same_line}
use Rattle.number_types.proofs.Called.{IsFirst, of_same_call, asks_same, legal_done, first_there, none_earlier, first_done}
use Rattle.number_types.proofs.FirstNamed.{first_named, first_again, first_exists}

-- ---- the two operations of a line

-- a later place is a greater number
pub operation-ascends : (p q : ℕ) (amount : Option ℕ) → p < q → operation_at p amount < operation_at q amount
operation-ascends p q None less = less
operation-ascends p q (Some n) less = omega (arith, less)

-- the first of the line of an operation, with the same amount, asks the same
pub first_beside : (v : Number) (p : ℕ) (op : NumberOp) → op_at v p ≡ Some op
    → (first : NumberOp) × (op_at v (operation_at (place_of p / 2 * 2) (amount_of p)) ≡ Some first) × (asked first ≡ asked op)
first_beside v p op is =
    let f = found v p op is in
    let there = element_at (ops_of_call f.call f.n) 0 (ops_within f.call f.n 0 (omega arith) (λ same. refl)) in
    let place = place_of p / 2 * 2 in
    let half : place_of p / 2 ≡ place / 2 = omega arith in
    let even : 0 ≡ place % 2 = omega arith in
    let at = subst (λ i. slice_get v.calls i ≡ Some f.call) half f.at in
    let first_is = subst (λ i. slice_get (ops_of_call f.call f.n) i ≡ Some there.0) even there.1 in (
      there.0,
      op_by_parts v place (amount_of p) f.call f.n there.0 (omega arith) at f.amount first_is,
      (asked_there f.call f.n 0 there.0 there.1).0 ∙ sym (asked_there f.call f.n (place_of p % 2) op f.op_is).0,
    )

-- so the first of a call is the first of its line
pub first_even : (v : Number) (c : ℕ) → IsNumber v → IsFirst v c → place_of c % 2 ≡ 0
first_even v c known first = elim (cases_eq (place_of c % 2) 0) [
  | inl even ↦ even
  | inr odd ↦
      let there = first_there v c known first in
      let beside = first_beside v c there.0 there.1 in
      let e = operation_at (place_of c / 2 * 2) (amount_of c) in
      let before : e < c = omega (arith, operation-ascends (place_of c / 2 * 2) (place_of c) (amount_of c) (omega (arith, odd)), operation-again c) in
      absurd (none_earlier v c e there.0 beside.0 known there.1 first before beside.1 beside.2)
]

-- a line is told an amount, or lists one
told_or_listed : (max : ℕ) (call : NumberCall) (n a b : ℕ) → amount_for max call (Some n) ≡ Some a → amount_for max call None ≡ Some b → ⊥
told_or_listed max (calls.Take k) n a b told listed = none-some a told
told_or_listed max (calls.Give k) n a b told listed = none-some a told
told_or_listed max (calls.AtLeast k) n a b told listed = none-some a told
told_or_listed max calls.TakeAny n a b told listed = none-some b listed
told_or_listed max calls.GiveAny n a b told listed = none-some b listed
told_or_listed max calls.Value n a b told listed = none-some b listed

-- so of its operations all have an amount or none
amounts_alike : (v : Number) (p q n : ℕ) (a b : NumberOp) → op_at v p ≡ Some a → op_at v q ≡ Some b → place_of p / 2 ≡ place_of q / 2 → amount_of p ≡ Some n → (m : ℕ) × (amount_of q ≡ Some m)
amounts_alike v p q n a b is other line told = go (amount_of q) refl
  where
    go : (o : Option ℕ) → amount_of q ≡ o → (m : ℕ) × (amount_of q ≡ Some m)
    go (Some m) said = (m, said)
    go None none =
        let f = found v p a is in
        let g = found v q b other in
        let call = same_Some f.call g.call (sym f.at ∙ ap (slice_get v.calls) line ∙ g.at) in
        let here = subst (λ x. amount_for v.max x (Some n) ≡ Some f.n) call (subst (λ o. amount_for v.max f.call o ≡ Some f.n) told f.amount) in
        absurd (told_or_listed v.max g.call n f.n g.n here (subst (λ o. amount_for v.max g.call o ≡ Some g.n) none g.amount))

-- ---- what is legal of a call

-- where it is, by the call's first operation
pub record IsAtLine (c k : ℕ) : Type 0 where
  pub even : place_of c % 2 ≡ 0
  pub line : place_of k / 2 ≡ place_of c / 2
  pub amount : (n : ℕ) → amount_of c ≡ Some n → (m : ℕ) × (amount_of k ≡ Some m)

pub legal_at_line : NumberHasTable → (v : Number) (number c k : ℕ) → IsNumber v → IsFirst v c → is_same_call (number_table v) k c ≡ true → IsSome (next (number_table v) number k) → IsAtLine c k
legal_at_line tables v number c k known first same legal =
    let there = first_there v c known first in
    let done = first_done v c there.0 known there.1 first in
    let other = legal_done tables v number k known legal in
    let other_is = done_is v k other.op other.done in
    let line = same_line v k c other.op there.0 known other.done done (asks_same v k c other.op there.0 known other_is there.1 same) in
    record { even = first_even v c known first; line = line; amount = λ n told. amounts_alike v c k n there.0 other.op there.1 other_is (sym line) told }

-- and the first operation of its call, by its place and its amount
pub record IsFirstWith (v : Number) (place n k : ℕ) : Type 0 where
  pub c : ℕ
  pub named : first_op (number_table v) (call_of (number_table v) (operation_at place (Some n))) ≡ Some c
  pub first : IsFirst v c
  pub place_is : place_of c ≡ place
  pub same : is_same_call (number_table v) k c ≡ true

-- an operation at one of the two places of a line
parts_at : (place n k : ℕ) → place < 256 → place % 2 ≡ 0 → (k ≡ operation_at place (Some n)) ⊎ (k ≡ operation_at (place + 1) (Some n)) → (place_of k / 2 * 2 ≡ place) × (amount_of k ≡ Some n)
parts_at place n k small even (inl is) = (omega (arith, ap place_of is, place-of-operation place (Some n) small, even), ap amount_of is ∙ amount-of-operation place (Some n) small)
parts_at place n k small even (inr is) =
    let low : place + 1 < 256 = omega (arith, small, even) in
    (omega (arith, ap place_of is, place-of-operation (place + 1) (Some n) low, even), ap amount_of is ∙ amount-of-operation (place + 1) (Some n) low)

pub first_with : NumberHasTable → (v : Number) (number place n k : ℕ) → IsNumber v → place < 256 → place % 2 ≡ 0 → (k ≡ operation_at place (Some n)) ⊎ (k ≡ operation_at (place + 1) (Some n))
    → IsSome (next (number_table v) number k) → IsFirstWith v place n k
first_with tables v number place n k known small even at legal =
    let T = number_table v in
    let parts = parts_at place n k small even at in
    let e = operation_at place (Some n) in
    let done = legal_done tables v number k known legal in
    let is = done_is v k done.op done.done in
    let beside = first_beside v k done.op is in
    let e_is : op_at v e ≡ Some beside.0 = subst (λ o. op_at v (operation_at place o) ≡ Some beside.0) parts.1 (subst (λ p. op_at v (operation_at p (amount_of k)) ≡ Some beside.0) parts.0 beside.1) in
    let found = first_exists T e (sym (has_what_is_there v e known) ∙ ap is_some e_is) in
    let c = found.0 in
    let name = (first_named T (call_of T e) c found.1).0 in
    let first = first_again T (call_of T e) c found.1 in
    let same : is_same_call T k c ≡ true = (bytes_eq-Decides (call_of T k) (call_of T c)).1 (of_same_call v k e done.op beside.0 known is e_is (sym beside.2) ∙ sym name) in
    let line = legal_at_line tables v number c k known first same legal in
    record { c = c; named = found.1; first = first; place_is = omega (arith, line.line, line.even, parts.0); same = same }
