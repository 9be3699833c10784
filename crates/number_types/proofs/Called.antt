-- The operation of a call that may be legal at a number.
use Rattle.std.proofs.Common.{◌≡◌, ℕ, zero, suc, ◌*◌, ◌/◌, ◌%◌, ◌<◌, ◌≤◌, Bool, true, false, cond, leb, ltb, List, [], ◌∷◌, length, get_or, Option, Some, None, IsSome, is_some, refl, sym, ap, subst, ◌∙◌, arith}
use Rattle.std.specs.Prelude.{slice_get}
use Rattle.std.specs.List.{list_any, position}
use Rattle.std.specs.Str.{bytes_eq}
use Rattle.std.proofs.lemmas.Bool.{false≢true, eqb-true, le-leb, cond-true, cond-false}
use Rattle.std.proofs.lemmas.List.Folds.{Any-from_list_any}
use Rattle.std.proofs.lemmas.List.Quantifiers.{position-Some}
use Rattle.std.proofs.lemmas.Option.{none-some, same_Some, slice_get_within, slice_get-get_or, get_or_from_slice_get}
use Rattle.std.proofs.lemmas.Slice.Eq.{bytes_eq-Decides}
use Rattle.type_table.specs.Operation.{operation_at, place_of, amount_of, amount_by, place-of-operation, amount-of-operation}
use Rattle.type_table.specs.Table.{next, call_of, first_op, is_same_call}
use Rattle.type_table.specs.declared.op.Op.{Op}
use Rattle.type_table.proofs.Elements.{element_at}
use Rattle.escrow_laws.specs.Bounds.{moved}
use Rattle.escrow_laws.proofs.Numbers.{within}
use Rattle.number_types.specs.declared.number_call.NumberCall.{NumberCall}
use Rattle.number_types.specs.declared.number_call.NumberCall.TheVariants as calls
use Rattle.number_types.specs.declared.number_op.NumberOp.{NumberOp}
use Rattle.number_types.specs.declared.number_op.NumberOp.TheVariants.{Value}
use Rattle.number_types.specs.Calls.{is_amount}
use Rattle.number_types.specs.Number.{Number, IsNumber}
use Rattle.number_types.specs.Operations.{takes, gives, is_elsewhere, call_is_elsewhere, amount_for, ops_of_call, op_at, op_done, op_with, op_names, op_bounds, names_or_none, number_ops, number_table, NumberHasTable}
use Rattle.number_types.specs.Called.{IsCalled}
use Rattle.number_types.proofs.Tables.{where_found, IsFound, found, amounts_fit, done_is, next_of_op, next_of_none, names_of_op, call_name, has_what_is_there}
use Rattle.number_types.proofs.LinePlaces.{op_by_parts, ops_within, only_of_value}
use Rattle.number_types.proofs.SameCall.{asked, asked_of, amount_in, asked_there, same_asked, same_name, line_for, said_for, done_line, same_line}

-- ---- names

-- the name of an operation's call
name_of : (v : Number) (p : ℕ) (op : NumberOp) → IsNumber v → op_at v p ≡ Some op → call_of (number_table v) p ≡ (op_names op).call
name_of v p op known is = call_name v p known ∙ ap (λ o. (names_or_none o).call) is

-- operations that ask the same are of one call, and the other way round
pub of_same_call : (v : Number) (p q : ℕ) (a b : NumberOp) → IsNumber v → op_at v p ≡ Some a → op_at v q ≡ Some b → asked a ≡ asked b → call_of (number_table v) p ≡ call_of (number_table v) q
of_same_call v p q a b known is other same = name_of v p a known is ∙ same_name a b same ∙ sym (name_of v q b known other)

pub asks_same : (v : Number) (p q : ℕ) (a b : NumberOp) → IsNumber v → op_at v p ≡ Some a → op_at v q ≡ Some b → is_same_call (number_table v) p q ≡ true → asked a ≡ asked b
asks_same v p q a b known is other same =
    let names = (bytes_eq-Decides (call_of (number_table v) p) (call_of (number_table v) q)).0 same in
    same_asked v.max a b known.max_fits (amounts_fit v p a known is) (amounts_fit v q b known other) (sym (name_of v p a known is) ∙ names ∙ name_of v q b known other)

-- ---- what is legal at a number

-- what is legal there is done
pub record IsDoneAt (v : Number) (number p : ℕ) : Type 0 where
  pub op : NumberOp
  pub done : op_done v p ≡ Some op
  pub legal : IsSome (moved (op_bounds v.max op) number)

pub legal_done : NumberHasTable → (v : Number) (number p : ℕ) → IsNumber v → IsSome (next (number_table v) number p) → IsDoneAt v number p
legal_done tables v number p known legal = go (op_done v p) refl
  where
    go : (o : Option NumberOp) → op_done v p ≡ o → IsDoneAt v number p
    go None is = absurd (false≢true (sym (ap is_some (next_of_none tables v number p known is)) ∙ legal))
    go (Some op) is = record { op = op; done = is; legal = subst (λ o. IsSome o) (next_of_op tables v number p op known is) legal }

-- what is said of `value` is the number; of any other call it is the same at each number
said_at : (cs : List NumberCall) (op : NumberOp) (number : ℕ) → (asked op ≡ calls.Value → amount_in op ≡ number) → said_for cs (amount_in op) (asked op) ≡ said_for cs number (asked op)
said_at cs (Value n) number value = ap Some (value refl)
said_at cs op number value = refl

-- a value is legal where the number is that value
value_legal : (max : ℕ) (op : NumberOp) (number : ℕ) → IsSome (moved (op_bounds max op) number) → asked op ≡ calls.Value → amount_in op ≡ number
value_legal max (Value n) number legal is = let between = within (op_bounds max (Value n)) number legal in omega (arith, between.0, between.1)
value_legal max op number legal is = cc

-- ---- one operation that stands for its call

-- an operation of the call of c that is done, at the place of c, with what is said of that call at the number
pub stands : NumberHasTable → (v : Number) (number c called : ℕ) (op stand : NumberOp) → IsNumber v → op_at v c ≡ Some op → op_done v called ≡ Some stand → asked stand ≡ asked op → place_of called ≡ place_of c →
    amount_of called ≡ said_for v.calls number (asked stand) → IsCalled (number_table v) number c called
stands tables v number c called op stand known is done asks place says = record {
  same = of_same_call v called c stand op known stand_is is asks;
  place = place;
  covers = λ k same legal.
      let other = legal_done tables v number k known legal in
      let other_is = done_is v k other.op other.done in
      let alike = asks_same v k c other.op op known other_is is same ∙ sym asks in
      let line = done_line v k other.op other.done (found v k other.op other_is) in
      let said = said_at v.calls other.op number (value_legal v.max other.op number other.legal) in
      (line.1 ∙ said ∙ ap (said_for v.calls number) alike ∙ sym says, same_line v k called other.op stand known other.done done alike ∙ ap (λ p. p / 2) place);
  of_call = λ p line legal.
      let k = operation_at p (amount_of called) in
      let small : p < 256 = omega (arith, line) in
      let other = legal_done tables v number k known legal in
      let other_is = done_is v k other.op other.done in
      let here = found v called stand stand_is in
      let there = found v k other.op other_is in
      let at = subst (λ q. slice_get v.calls (q / 2) ≡ Some there.call) (place-of-operation p (amount_of called) small) there.at in
      let call = same_Some there.call here.call (sym at ∙ ap (slice_get v.calls) (line ∙ ap (λ q. q / 2) (sym place)) ∙ here.at) in
      let told = subst (λ a. amount_for v.max there.call a ≡ Some there.n) (amount-of-operation p (amount_of called) small) there.amount in
      let n = same_Some there.n here.n (sym told ∙ ap (λ x. amount_for v.max x (amount_of called)) call ∙ here.amount) in
      let asked_here = (asked_there here.call here.n (place_of called % 2) stand here.op_is).0 in
      let asked_other = (asked_there there.call there.n (place_of k % 2) other.op there.op_is).0 in
      let alike : asked other.op ≡ asked op = asked_other ∙ ap (λ x. asked_of x there.n) call ∙ ap (asked_of here.call) n ∙ sym asked_here ∙ asks in
      (bytes_eq-Decides (call_of (number_table v) k) (call_of (number_table v) c)).1 (of_same_call v k c other.op op known other_is is alike);
}
  where
    stand_is : op_at v called ≡ Some stand
    stand_is = done_is v called stand done

-- ---- the first operation of a call

abbrev pub IsFirst : Number → ℕ → Type 0
IsFirst v c = first_op (number_table v) (call_of (number_table v) c) ≡ Some c

-- the call has a name, and no operation before the first has this name
first_is : (v : Number) (c : ℕ) (name : List ℕ) (d : Op) → first_op (number_table v) name ≡ Some c →
    (ltb 0 (length name) ≡ true) × ((k : ℕ) → k < c → bytes_eq (get_or (number_ops v) k d).call name ≡ false)
first_is v c name d = go (ltb 0 (length name)) refl
  where
    go : (b : Bool) → ltb 0 (length name) ≡ b → cond b (position (λ (o : Op). bytes_eq o.call name) (number_ops v)) None ≡ Some c →
        (ltb 0 (length name) ≡ true) × ((k : ℕ) → k < c → bytes_eq (get_or (number_ops v) k d).call name ≡ false)
    go true is first = (is, (position-Some (λ (o : Op). bytes_eq o.call name) (number_ops v) c d first).2)
    go false is first = absurd (none-some c first)

-- so the first one is an operation
pub first_there : (v : Number) (c : ℕ) → IsNumber v → IsFirst v c → (op : NumberOp) × (op_at v c ≡ Some op)
first_there v c known first = go (op_at v c) refl (has_what_is_there v c known ∙ (first_is v c (call_of (number_table v) c) (op_with [] []) first).0)
  where
    go : (o : Option NumberOp) → op_at v c ≡ o → is_some o ≡ true → (op : NumberOp) × (op_at v c ≡ Some op)
    go None is there = absurd (false≢true there)
    go (Some op) is there = (op, is)

-- and none before it asks the same
pub none_earlier : (v : Number) (c k : ℕ) (op earlier : NumberOp) → IsNumber v → op_at v c ≡ Some op → IsFirst v c → k < c → op_at v k ≡ Some earlier → asked earlier ≡ asked op → ⊥
none_earlier v c k op earlier known is first below there same =
    let name = call_of (number_table v) c in
    let at = get_or_from_slice_get (number_ops v) k (op_names earlier) (op_with [] []) (names_of_op v k earlier known there) in
    let other = subst (λ (o : Op). bytes_eq o.call name ≡ false) at ((first_is v c name (op_with [] []) first).1 k below) in
    let equal = (bytes_eq-Decides (op_names earlier).call name).1 (same_name earlier op same ∙ sym (name_of v c op known is)) in
    false≢true (sym other ∙ equal)

-- ---- it is done by no other line

-- the line that lists an amount
listed_take : (n : ℕ) (call : NumberCall) → takes n call ≡ true → call ≡ calls.Take n
listed_take n (calls.Take k) is = ap calls.Take (eqb-true k n is)
listed_take n call is = cc

listed_give : (n : ℕ) (call : NumberCall) → gives n call ≡ true → call ≡ calls.Give n
listed_give n (calls.Give k) is = ap calls.Give (eqb-true k n is)
listed_give n call is = cc

listed_at : (p : NumberCall → Bool) (cs : List NumberCall) → list_any p cs ≡ true → (j : ℕ) × (call : NumberCall) × (slice_get cs j ≡ Some call) × (p call ≡ true)
listed_at p cs any =
    let found = Any-from_list_any p cs any in
    (found.0, found.1, slice_get-get_or cs found.0 found.1 found.2 ∙ ap Some found.3, found.4)

-- the line that lists the amount of a call of any amount
record IsListed (v : Number) (told : Option ℕ) (call : NumberCall) (n : ℕ) : Type 0 where
  m : ℕ
  said : told ≡ Some m
  j : ℕ
  line : NumberCall
  at : slice_get v.calls j ≡ Some line
  amount : amount_for v.max line None ≡ Some n
  alike : asked_of line n ≡ asked_of call n

elsewhere_listed : (v : Number) (told : Option ℕ) (call : NumberCall) (n : ℕ) → amount_for v.max call told ≡ Some n → is_elsewhere v told call ≡ true → IsListed v told call n
elsewhere_listed v (Some m) calls.TakeAny n is there =
    let same = (where_found (is_amount v.max m) m n is).1 in
    let found = listed_at (takes n) v.calls (subst (λ k. list_any (takes k) v.calls ≡ true) same there) in
    record { m = m; said = refl; j = found.0; line = calls.Take n; at = found.2 ∙ ap Some (listed_take n found.1 found.3); amount = refl; alike = refl }
elsewhere_listed v (Some m) calls.GiveAny n is there =
    let same = (where_found (is_amount v.max m) m n is).1 in
    let found = listed_at (gives n) v.calls (subst (λ k. list_any (gives k) v.calls ≡ true) same there) in
    record { m = m; said = refl; j = found.0; line = calls.Give n; at = found.2 ∙ ap Some (listed_give n found.1 found.3); amount = refl; alike = refl }
elsewhere_listed v told call n is there = cc

-- operations with an amount come after those without
after_places : (p m : ℕ) → amount_of p ≡ Some m → 256 ≤ p
after_places p m is = go (p / 256) refl is
  where
    go : (q : ℕ) → p / 256 ≡ q → amount_by q ≡ Some m → 256 ≤ p
    go zero eq said = absurd (none-some m said)
    go (suc q) eq said = omega (arith, eq)

-- so the first operation of its call isn't one of `any` with an amount that is listed
not_listed : (v : Number) (c : ℕ) (op : NumberOp) (f : IsFound v c op) → IsNumber v → op_at v c ≡ Some op → IsFirst v c → IsListed v (amount_of c) f.call f.n → ⊥
not_listed v c op f known is first listed =
    let j = listed.j in
    let inside = slice_get_within v.calls j listed.line listed.at in
    let few = known.calls_fit in
    let earlier = element_at (ops_of_call listed.line f.n) 0 (ops_within listed.line f.n 0 (omega arith) (λ _. refl)) in
    let half : j ≡ 2 * j / 2 = omega arith in
    let even : 0 ≡ 2 * j % 2 = omega arith in
    let at = subst (λ i. slice_get v.calls i ≡ Some listed.line) half listed.at in
    let there = subst (λ i. slice_get (ops_of_call listed.line f.n) i ≡ Some earlier.0) even earlier.1 in
    let same = (asked_there listed.line f.n 0 earlier.0 earlier.1).0 ∙ listed.alike ∙ sym (asked_there f.call f.n (place_of c % 2) op f.op_is).0 in
    let late = after_places c listed.m listed.said in
    none_earlier v c (2 * j) op earlier.0 known is first (omega (arith, inside, few, late))
    (op_by_parts v (2 * j) None listed.line f.n earlier.0 (omega (arith, inside, few)) at listed.amount there) same

pub first_done : (v : Number) (c : ℕ) (op : NumberOp) → IsNumber v → op_at v c ≡ Some op → IsFirst v c → op_done v c ≡ Some op
first_done v c op known is first = go (call_is_elsewhere v (amount_of c) (slice_get v.calls (place_of c / 2))) refl
  where
    go : (b : Bool) → call_is_elsewhere v (amount_of c) (slice_get v.calls (place_of c / 2)) ≡ b → op_done v c ≡ Some op
    go true there =
        let f = found v c op is in
        let elsewhere = ap (call_is_elsewhere v (amount_of c)) (sym f.at) ∙ there in
        absurd (not_listed v c op f known is first (elsewhere_listed v (amount_of c) f.call f.n f.amount elsewhere))
    go false here = cond-false (call_is_elsewhere v (amount_of c) (slice_get v.calls (place_of c / 2))) None (op_at v c) here ∙ is

-- ---- which operation stands for the call of c

-- c itself, where the call doesn't read the value
pub called_itself : NumberHasTable → (v : Number) (number c : ℕ) → IsNumber v → IsFirst v c → (slice_get v.calls (place_of c / 2) ≡ Some calls.Value → ⊥) →
    IsCalled (number_table v) number c c
called_itself tables v number c known first other =
    let there = first_there v c known first in
    let done = first_done v c there.0 known there.1 first in
    let line = done_line v c there.0 done (found v c there.0 there.1) in
    let said = said_at v.calls there.0 number (λ is. absurd (other (line.0 ∙ ap (λ x. Some (line_for v.calls x)) is))) in
    stands tables v number c c there.0 there.0 known there.1 done refl refl (line.1 ∙ said)

-- where it does, the one with that value
pub called_value : NumberHasTable → (v : Number) (number c : ℕ) → IsNumber v → IsFirst v c → number ≤ v.max → slice_get v.calls (place_of c / 2) ≡ Some calls.Value →
    IsCalled (number_table v) number c (operation_at (place_of c) (Some number))
called_value tables v number c known first inside value =
    let there = first_there v c known first in
    let op = there.0 in
    let f = found v c op there.1 in
    let call = same_Some f.call calls.Value (sym f.at ∙ value) in
    let only = only_of_value f.n (place_of c % 2) op (subst (λ x. slice_get (ops_of_call x f.n) (place_of c % 2) ≡ Some op) call f.op_is) in
    let small : place_of c < 256 = omega arith in
    let place = place-of-operation (place_of c) (Some number) small in
    let said = amount-of-operation (place_of c) (Some number) small in
    let k = operation_at (place_of c) (Some number) in
    let amount = cond-true (leb number v.max) (Some number) None (le-leb number v.max inside) in
    let is = op_by_parts v (place_of c) (Some number) calls.Value number (Value number) small value amount (ap (slice_get (Value number ∷ [])) only) in
    let here : call_is_elsewhere v (amount_of k) (slice_get v.calls (place_of k / 2)) ≡ false = rw (said, place, value) refl in
    let done = cond-false (call_is_elsewhere v (amount_of k) (slice_get v.calls (place_of k / 2))) None (op_at v k) here ∙ is in
    let asks = (asked_there f.call f.n (place_of c % 2) op f.op_is).0 ∙ ap (λ x. asked_of x f.n) call in
    stands tables v number c k op (Value number) known there.1 done (sym asks) place said
