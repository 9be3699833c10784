-- Of each call of a number exactly one operation is legal at each of its values.
use Rattle.std.proofs.Common.{◌≡◌, ℕ, zero, suc, ◌+◌, ◌-◌, ◌*◌, ◌/◌, ◌%◌, ◌<◌, ◌≤◌, Bool, true, false, cond, leb, List, [], ◌∷◌, Option, Some, None, IsSome, is_some, refl, sym, ap, subst, ◌∙◌, arith}
use Rattle.std.specs.Prelude.{slice_get}
use Rattle.std.proofs.lemmas.Bool.{false≢true, cond-true, cond-false, le-leb, lt-leb, leb-true, leb-false}
use Rattle.std.proofs.lemmas.Option.{none-some, same_Some}
use Rattle.std.proofs.lemmas.Slice.Eq.{bytes_eq-Decides}
use Rattle.type_table.specs.Operation.{operation_at, place_of, amount_of, operation-again, place-of-operation, amount-of-operation}
use Rattle.type_table.specs.Table.{call_of, has_op}
use Rattle.escrow_laws.specs.Bounds.{moved}
use Rattle.escrow_laws.specs.declared.bounded.Bounded.{Bounded}
use Rattle.escrow_laws.proofs.Numbers.{within, inside_is}
use Rattle.number_types.specs.declared.number_call.NumberCall.{NumberCall}
use Rattle.number_types.specs.declared.number_call.NumberCall.TheVariants as calls
use Rattle.number_types.specs.declared.number_op.NumberOp.{NumberOp}
use Rattle.number_types.specs.declared.number_op.NumberOp.TheVariants.{Take, Short, Give, Full, AtLeast, Below, Value}
use Rattle.number_types.specs.Number.{Number, IsNumber}
use Rattle.number_types.specs.Operations.{is_elsewhere, call_is_elsewhere, amount_for, ops_of_call, op_at, op_done, op_bounds, number_table, IsAmountOf, NumberHasTable}
use Rattle.number_types.specs.Called.{NumbersAnswer}
use Rattle.number_types.proofs.Tables.{found, amounts_fit, done_is, next_of_op, has_what_is_there}
use Rattle.number_types.proofs.LinePlaces.{op_by_parts}
use Rattle.number_types.proofs.SameCall.{asked, asked_of, asked_there, done_here, done_line, same_line}
use Rattle.number_types.proofs.Called.{IsFirst, of_same_call, asks_same, legal_done, first_done}
use Rattle.number_types.proofs.FirstNamed.{first_named, first_again, first_exists}

-- ---- the operation that answers

-- of the operations that ask the same the one that is legal at a number
abbrev answer : ℕ → ℕ → NumberCall → NumberOp
answer max number (calls.Take n) = cond (leb n number) (Take n) (Short n)
answer max number (calls.Give n) = cond (leb number (max - n)) (Give n) (Full n)
answer max number (calls.AtLeast n) = cond (leb n number) (AtLeast n) (Below n)
answer max number call = Value number

-- what is legal there is that
legal_answers : (max number : ℕ) (op : NumberOp) → IsAmountOf max op → IsSome (moved (op_bounds max op) number) → op ≡ answer max number (asked op)
legal_answers max number (Take n) fits legal =
    let between = within (op_bounds max (Take n)) number legal in
    sym (cond-true (leb n number) (Take n) (Short n) (le-leb n number between.0))
legal_answers max number (Short n) fits legal =
    let between = within (op_bounds max (Short n)) number legal in
    sym (cond-false (leb n number) (Take n) (Short n) (lt-leb n number (omega (arith, between.1, fits.0))))
legal_answers max number (Give n) fits legal =
    let between = within (op_bounds max (Give n)) number legal in
    sym (cond-true (leb number (max - n)) (Give n) (Full n) (le-leb number (max - n) between.1))
legal_answers max number (Full n) fits legal =
    let between = within (op_bounds max (Full n)) number legal in
    sym (cond-false (leb number (max - n)) (Give n) (Full n) (lt-leb number (max - n) (omega (arith, between.0))))
legal_answers max number (AtLeast n) fits legal =
    let between = within (op_bounds max (AtLeast n)) number legal in
    sym (cond-true (leb n number) (AtLeast n) (Below n) (le-leb n number between.0))
legal_answers max number (Below n) fits legal =
    let between = within (op_bounds max (Below n)) number legal in
    sym (cond-false (leb n number) (AtLeast n) (Below n) (lt-leb n number (omega (arith, between.1, fits.0))))
legal_answers max number (Value n) fits legal =
    let between = within (op_bounds max (Value n)) number legal in
    ap Value (omega (arith, between.0, between.1))

-- ---- it is legal

-- what is legal between two numbers leads somewhere
leads : (b : Bounded) (number : ℕ) → b.low ≤ number → number ≤ b.high → IsSome (moved b number)
leads b number above below = ap is_some (inside_is b number above below)

-- one of two that ask the same: which of them, that it is legal, and that it is there
record IsAnswer (max number : ℕ) (ops : List NumberOp) (op : NumberOp) : Type 0 where
  second : ℕ
  low : second < 2
  at : slice_get ops second ≡ Some op
  legal : IsSome (moved (op_bounds max op) number)

one_answers : (max number : ℕ) (a b : NumberOp) (so : Bool) → (so ≡ true → IsSome (moved (op_bounds max a) number)) → (so ≡ false → IsSome (moved (op_bounds max b) number)) → IsAnswer max number (a ∷ b ∷ []) (cond so a b)
one_answers max number a b true first other = record { second = 0; low = omega arith; at = refl; legal = first refl }
one_answers max number a b false first other = record { second = 1; low = omega arith; at = refl; legal = other refl }

-- enough, and too little
at_least : (max number n : ℕ) (a b : NumberOp) → number ≤ max → ((n ≤ number) → IsSome (moved (op_bounds max a) number)) → ((number < n) → IsSome (moved (op_bounds max b) number)) →
    IsAnswer max number (a ∷ b ∷ []) (cond (leb n number) a b)
at_least max number n a b inside first other = one_answers max number a b (leb n number) (λ so. first (leb-true n number so)) (λ so. other (leb-false n number so))

taken : (max number n : ℕ) → number ≤ max → IsAnswer max number (Take n ∷ Short n ∷ []) (answer max number (calls.Take n))
taken max number n inside =
    at_least max number n (Take n) (Short n) inside (λ enough. leads (op_bounds max (Take n)) number enough inside)
    (λ less. leads (op_bounds max (Short n)) number (omega arith) (omega (arith, less)))

given : (max number n : ℕ) → number ≤ max → IsAnswer max number (Give n ∷ Full n ∷ []) (answer max number (calls.Give n))
given max number n inside =
    one_answers max number (Give n) (Full n) (leb number (max - n)) (λ so. leads (op_bounds max (Give n)) number (omega arith) (leb-true number (max - n) so))
    (λ so. let past = leb-false number (max - n) so in leads (op_bounds max (Full n)) number (omega (arith, past)) inside)

compared : (max number n : ℕ) → number ≤ max → IsAnswer max number (AtLeast n ∷ Below n ∷ []) (answer max number (calls.AtLeast n))
compared max number n inside =
    at_least max number n (AtLeast n) (Below n) inside (λ enough. leads (op_bounds max (AtLeast n)) number enough inside)
    (λ less. leads (op_bounds max (Below n)) number (omega arith) (omega (arith, less)))

-- so a line has it, of `value` with that number as amount
answered : (max number n : ℕ) (call : NumberCall) → number ≤ max → (call ≡ calls.Value → n ≡ number) → IsAnswer max number (ops_of_call call n) (answer max number (asked_of call n))
answered max number n (calls.Take k) inside value = taken max number n inside
answered max number n calls.TakeAny inside value = taken max number n inside
answered max number n (calls.Give k) inside value = given max number n inside
answered max number n calls.GiveAny inside value = given max number n inside
answered max number n (calls.AtLeast k) inside value = compared max number n inside
answered max number n calls.Value inside value =
    record { second = 0; low = omega arith; at = ap (λ m. Some (Value m)) (value refl); legal = leads (op_bounds max (Value number)) number (omega arith) (omega arith) }

-- what is said of a line at a number in place of what is said of one of its operations
record IsSaid (v : Number) (number : ℕ) (call : NumberCall) (told : Option ℕ) (n : ℕ) : Type 0 where
  said : Option ℕ
  m : ℕ
  amount : amount_for v.max call said ≡ Some m
  alike : asked_of call m ≡ asked_of call n
  elsewhere : is_elsewhere v said call ≡ is_elsewhere v told call
  value : call ≡ calls.Value → m ≡ number

said_at_line : (v : Number) (number : ℕ) (call : NumberCall) (told : Option ℕ) (n : ℕ) → number ≤ v.max → amount_for v.max call told ≡ Some n → IsSaid v number call told n
said_at_line v number calls.Value told n inside is = record {
  said = Some number;
  m = number;
  amount = cond-true (leb number v.max) (Some number) None (le-leb number v.max inside);
  alike = refl;
  elsewhere = elsewhere told;
  value = λ same. refl;
}
  where
    elsewhere : (o : Option ℕ) → is_elsewhere v (Some number) calls.Value ≡ is_elsewhere v o calls.Value
    elsewhere None = refl
    elsewhere (Some m) = refl
said_at_line v number call told n inside is = record { said = told; m = n; amount = is; alike = refl; elsewhere = refl; value = λ same. cc }

-- ---- and there is one alone

-- the second operation of a line is the other reply
abbrev second_of : NumberOp → ℕ
second_of (Short n) = 1
second_of (Full n) = 1
second_of (Below n) = 1
second_of op = 0

of_two : (a b : NumberOp) (second : ℕ) (op : NumberOp) → second_of a ≡ 0 → second_of b ≡ 1 → slice_get (a ∷ b ∷ []) second ≡ Some op → second ≡ second_of op
of_two a b zero op first other is = sym first ∙ ap second_of (same_Some a op is)
of_two a b (suc zero) op first other is = sym other ∙ ap second_of (same_Some b op is)
of_two a b (suc (suc second)) op first other is = absurd (none-some op is)

second_is : (call : NumberCall) (n second : ℕ) (op : NumberOp) → slice_get (ops_of_call call n) second ≡ Some op → second ≡ second_of op
second_is (calls.Take k) n second op is = of_two (Take n) (Short n) second op refl refl is
second_is calls.TakeAny n second op is = of_two (Take n) (Short n) second op refl refl is
second_is (calls.Give k) n second op is = of_two (Give n) (Full n) second op refl refl is
second_is calls.GiveAny n second op is = of_two (Give n) (Full n) second op refl refl is
second_is (calls.AtLeast k) n second op is = of_two (AtLeast n) (Below n) second op refl refl is
second_is calls.Value n zero op is = ap second_of (same_Some (Value n) op is)
second_is calls.Value n (suc second) op is = absurd (none-some op is)

-- what is done has one number
one_number : (v : Number) (p q : ℕ) (op : NumberOp) → IsNumber v → op_done v p ≡ Some op → op_done v q ≡ Some op → p ≡ q
one_number v p q op known is other =
    let f = found v p op (done_is v p op is) in
    let g = found v q op (done_is v q op other) in
    let line = same_line v p q op op known is other refl in
    let second = second_is f.call f.n (place_of p % 2) op f.op_is ∙ sym (second_is g.call g.n (place_of q % 2) op g.op_is) in
    let amount : amount_of p ≡ amount_of q = (done_line v p op is f).1 ∙ sym (done_line v q op other g).1 in
    let place : place_of p ≡ place_of q = omega (arith, line, second) in
    sym (operation-again p) ∙ ap (λ place. operation_at place (amount_of p)) place ∙ ap (operation_at (place_of q)) amount ∙ operation-again q

-- ---- the law

-- what is done at a number for a call of which one operation is done
record IsAnsweredAt (v : Number) (number : ℕ) (op : NumberOp) (k : ℕ) : Type 0 where
  here : NumberOp
  done : op_done v k ≡ Some here
  alike : asked here ≡ asked op
  legal : IsSome (moved (op_bounds v.max here) number)

answered_at : (v : Number) (number e : ℕ) (op : NumberOp) → number ≤ v.max → op_done v e ≡ Some op → (k : ℕ) × IsAnsweredAt v number op k
answered_at v number e op inside is =
    let f = found v e op (done_is v e op is) in
    let asks = (asked_there f.call f.n (place_of e % 2) op f.op_is).0 in
    let said = said_at_line v number f.call (amount_of e) f.n inside f.amount in
    let there = answered v.max number said.m f.call inside said.value in
    let here = answer v.max number (asked_of f.call said.m) in
    let second = there.second in
    let below = there.low in
    let place = place_of e / 2 * 2 + second in
    let small : place < 256 = omega (arith, below) in
    let half : place_of e / 2 ≡ place / 2 = omega (arith, below) in
    let odd : second ≡ place % 2 = omega (arith, below) in
    let at = subst (λ i. slice_get v.calls i ≡ Some f.call) half f.at in
    let op_is = op_by_parts v place said.said f.call said.m here small at said.amount (subst (λ i. slice_get (ops_of_call f.call said.m) i ≡ Some here) odd there.at) in
    let k = operation_at place said.said in
    let elsewhere : is_elsewhere v (amount_of e) f.call ≡ false = ap (call_is_elsewhere v (amount_of e)) (sym f.at) ∙ done_here v e op is in
    let not_elsewhere : call_is_elsewhere v (amount_of k) (slice_get v.calls (place_of k / 2)) ≡ false =
    rw (amount-of-operation place said.said small, place-of-operation place said.said small, at) (said.elsewhere ∙ elsewhere) in (
      k,
      record {
        here = here;
        done = cond-false (call_is_elsewhere v (amount_of k) (slice_get v.calls (place_of k / 2))) None (op_at v k) not_elsewhere ∙ op_is;
        alike = (asked_there f.call said.m second here there.at).0 ∙ said.alike ∙ sym asks;
        legal = there.legal;
      },
    )

-- some operation of a call is done
some_done : (v : Number) (c : ℕ) → IsNumber v → has_op (number_table v) c ≡ true → (e : ℕ) × (op : NumberOp) × (op_done v e ≡ Some op) × (call_of (number_table v) e ≡ call_of (number_table v) c)
some_done v c known there =
    let T = number_table v in
    let first = first_exists T c there in
    let named = first_named T (call_of T c) first.0 first.1 in
    go first.0 (op_at v first.0) refl (has_what_is_there v first.0 known ∙ named.1) (first_again T (call_of T c) first.0 first.1) named.0
  where
    go : (e : ℕ) (o : Option NumberOp) → op_at v e ≡ o → is_some o ≡ true → IsFirst v e → call_of (number_table v) e ≡ call_of (number_table v) c
        → (e : ℕ) × (op : NumberOp) × (op_done v e ≡ Some op) × (call_of (number_table v) e ≡ call_of (number_table v) c)
    go e None is some first named = absurd (false≢true some)
    go e (Some op) is some first named = (e, op, first_done v e op known is first, named)

pub numbers_answer : NumberHasTable → NumbersAnswer
numbers_answer tables v known number c inside there =
    let T = number_table v in
    let some = some_done v c known there in
    let op = some.1 in
    let op_is = done_is v some.0 op some.2 in
    let answers = answered_at v number some.0 op inside some.2 in
    let k = answers.0 in
    let is = answers.1 in
    let here_is = done_is v k is.here is.done in
    let one = of_same_call v k some.0 is.here op known here_is op_is is.alike in (
      k,
      record {
        same = (bytes_eq-Decides (call_of T k) (call_of T c)).1 (one ∙ some.3);
        legal = ap is_some (next_of_op tables v number k is.here known is.done) ∙ is.legal;
        only = λ j same legal.
            let other = legal_done tables v number j known legal in
            let other_is = done_is v j other.op other.done in
            let names = (bytes_eq-Decides (call_of T j) (call_of T c)).0 same ∙ sym some.3 in
            let alike = asks_same v j some.0 other.op op known other_is op_is ((bytes_eq-Decides (call_of T j) (call_of T some.0)).1 names) ∙ sym is.alike in
            let one_op : other.op ≡ is.here =
            legal_answers v.max number other.op (amounts_fit v j other.op known other_is) other.legal ∙ ap (answer v.max number) alike
            ∙ sym (legal_answers v.max number is.here (amounts_fit v k is.here known here_is) is.legal) in
            one_number v j k is.here known (other.done ∙ ap Some one_op) is.done;
      },
    )
