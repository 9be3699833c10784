-- A number has a table, and its operations have bounds.
use Rattle.std.proofs.Common.{◌≡◌, ℕ, zero, suc, ◌+◌, ◌-◌, ◌/◌, ◌%◌, ◌<◌, ◌≤◌, ◌⊎◌, Bool, true, false, leb, ltb, cond, List, [], ◌∷◌, map, length, get_or, Option, Some, None, is_some, IfSome, refl, sym, ap, ◌∙◌, subst, inl, inr, arith}
use Rattle.std.specs.List.{list_all, range_with_len}
use Rattle.std.specs.Prelude.{slice_get, option_and_then}
use Rattle.std.proofs.lemmas.Bool.{cases_lt, lt-ltb, leb-true, and_parts}
use Rattle.std.proofs.lemmas.Option.{slice_get-get_or}
use Rattle.std.proofs.lemmas.List.FromFn.{get_or-map-range_with_len, length-map-range_with_len}
use Rattle.type_table.specs.Operation.{place_of, amount_of, amount_by}
use Rattle.type_table.specs.Table.{next, call_of, has_op}
use Rattle.type_table.specs.declared.op.Op.{Op}
use Rattle.std.proofs.Math.ListN.{get_or-map}
use Rattle.std.proofs.lemmas.List.{get_or_past}
use Rattle.type_table.proofs.Legal.{is_there}
use Rattle.escrow_laws.specs.Bounds.{moved, moved_by, IsWithinBounds, AreWithin, AreBounds, IsPlainOperation, ArePlain, nowhere}
use Rattle.escrow_laws.specs.declared.bounded.Bounded.{Bounded}
use Rattle.escrow_laws.proofs.Numbers.{within, moves_by, moved-nowhere}
use Rattle.escrow_laws.specs.Laws.{NumbersHaveTables, BoundsAreTold}
use Rattle.number_types.specs.declared.number_call.NumberCall.{NumberCall}
use Rattle.number_types.specs.declared.number_call.NumberCall.TheVariants as calls
use Rattle.number_types.specs.declared.number_op.NumberOp.{NumberOp}
use Rattle.number_types.specs.declared.number_op.NumberOp.TheVariants.{Take, Short, Give, Full, AtLeast, Below, Value}
use Rattle.number_types.specs.Calls.{is_amount, is_within}
use Rattle.number_types.specs.Number.{Number, IsNumber}
use Rattle.number_types.specs.Operations.{where_so, call_is_elsewhere, amount_for, ops_of_call, op_in, op_at, op_done, op_with, op_bounds, op_count, IsAmountOf, IsAmountFor, op_names, names_or_none, bounds_or_none, number_bounds, number_ops, number_table, NumberHasTable, NumberTellsBounds}

-- ---- amounts

-- an amount in range is 1 to the greatest value
amount : (max k : ℕ) → is_amount max k ≡ true → (1 ≤ k) × (k ≤ max)
amount max k h = let both = and_parts (leb 1 k) (leb k max) h in (leb-true 1 k both.0, leb-true k max both.1)

-- what a test says of each call it says of one that is found
pub passes : (p : NumberCall → Bool) (cs : List NumberCall) (i : ℕ) (c : NumberCall) → list_all p cs ≡ true → slice_get cs i ≡ Some c → p c ≡ true
passes p [] i c h at = absurd cc
passes p (d ∷ cs) zero c h at =
    let same : d ≡ c = cc in
    subst (λ x. p x ≡ true) same (and_parts (p d) (list_all p cs) h).0
passes p (d ∷ cs) (suc i) c h at = passes p cs i c (and_parts (p d) (list_all p cs) h).1 at

-- where it is so, the amount is this, and it is so
pub where_found : (so : Bool) (n m : ℕ) → where_so so n ≡ Some m → (so ≡ true) × (n ≡ m)
where_found true n m is = (refl, let same : n ≡ m = cc in same)
where_found false n m is = absurd cc

-- each amount that a call may have is in range
pub in_range : (max : ℕ) (call : NumberCall) (told : Option ℕ) (n : ℕ) → is_within max call ≡ true → amount_for max call told ≡ Some n → IsAmountFor max call n
in_range max (calls.Take k) None n h is = let same : k ≡ n = cc in subst (λ m. (1 ≤ m) × (m ≤ max)) same (amount max k h)
in_range max (calls.Take k) (Some m) n h is = absurd cc
in_range max (calls.Give k) None n h is = let same : k ≡ n = cc in subst (λ m. (1 ≤ m) × (m ≤ max)) same (amount max k h)
in_range max (calls.Give k) (Some m) n h is = absurd cc
in_range max (calls.AtLeast k) None n h is = let same : k ≡ n = cc in subst (λ m. (1 ≤ m) × (m ≤ max)) same (amount max k h)
in_range max (calls.AtLeast k) (Some m) n h is = absurd cc
in_range max calls.TakeAny None n h is = absurd cc
in_range max calls.TakeAny (Some m) n h is =
    let found = where_found (is_amount max m) m n is in
    subst (λ k. (1 ≤ k) × (k ≤ max)) found.1 (amount max m found.0)
in_range max calls.GiveAny None n h is = absurd cc
in_range max calls.GiveAny (Some m) n h is =
    let found = where_found (is_amount max m) m n is in
    subst (λ k. (1 ≤ k) × (k ≤ max)) found.1 (amount max m found.0)
in_range max calls.Value None n h is = absurd cc
in_range max calls.Value (Some m) n h is =
    let found = where_found (leb m max) m n is in
    subst (λ k. k ≤ max) found.1 (leb-true m max found.0)

-- and so are those of its operations
pub ops_in_range : (max : ℕ) (call : NumberCall) (n second : ℕ) (op : NumberOp) → IsAmountFor max call n → slice_get (ops_of_call call n) second ≡ Some op → IsAmountOf max op
ops_in_range max (calls.Take k) n zero op h is = let same : Take n ≡ op = cc in subst (IsAmountOf max) same h
ops_in_range max (calls.Take k) n (suc zero) op h is = let same : Short n ≡ op = cc in subst (IsAmountOf max) same h
ops_in_range max (calls.Take k) n (suc (suc i)) op h is = absurd cc
ops_in_range max calls.TakeAny n zero op h is = let same : Take n ≡ op = cc in subst (IsAmountOf max) same h
ops_in_range max calls.TakeAny n (suc zero) op h is = let same : Short n ≡ op = cc in subst (IsAmountOf max) same h
ops_in_range max calls.TakeAny n (suc (suc i)) op h is = absurd cc
ops_in_range max (calls.Give k) n zero op h is = let same : Give n ≡ op = cc in subst (IsAmountOf max) same h
ops_in_range max (calls.Give k) n (suc zero) op h is = let same : Full n ≡ op = cc in subst (IsAmountOf max) same h
ops_in_range max (calls.Give k) n (suc (suc i)) op h is = absurd cc
ops_in_range max calls.GiveAny n zero op h is = let same : Give n ≡ op = cc in subst (IsAmountOf max) same h
ops_in_range max calls.GiveAny n (suc zero) op h is = let same : Full n ≡ op = cc in subst (IsAmountOf max) same h
ops_in_range max calls.GiveAny n (suc (suc i)) op h is = absurd cc
ops_in_range max (calls.AtLeast k) n zero op h is = let same : AtLeast n ≡ op = cc in subst (IsAmountOf max) same h
ops_in_range max (calls.AtLeast k) n (suc zero) op h is = let same : Below n ≡ op = cc in subst (IsAmountOf max) same h
ops_in_range max (calls.AtLeast k) n (suc (suc i)) op h is = absurd cc
ops_in_range max calls.Value n zero op h is = let same : Value n ≡ op = cc in subst (IsAmountOf max) same h
ops_in_range max calls.Value n (suc i) op h is = absurd cc

-- what is found by two steps is found by the first
two_steps : {A B : Type 0} (f : A → Option B) (o : Option A) (b : B) → option_and_then f o ≡ Some b → (a : A) × (o ≡ Some a) × (f a ≡ Some b)
two_steps f None b is = absurd cc
two_steps f (Some a) b is = (a, refl, is)

-- an operation's call, and its amount
pub record IsFound (v : Number) (p : ℕ) (op : NumberOp) : Type 0 where
  pub call : NumberCall
  pub at : slice_get v.calls (place_of p / 2) ≡ Some call
  pub n : ℕ
  pub amount : amount_for v.max call (amount_of p) ≡ Some n
  pub op_is : slice_get (ops_of_call call n) (place_of p % 2) ≡ Some op

pub found : (v : Number) (p : ℕ) (op : NumberOp) → op_at v p ≡ Some op → IsFound v p op
found v p op is =
    let first = two_steps (op_in v.max (place_of p % 2) (amount_of p)) (slice_get v.calls (place_of p / 2)) op is in
    let then = two_steps (λ n. slice_get (ops_of_call first.0 n) (place_of p % 2)) (amount_for v.max first.0 (amount_of p)) op first.2 in
    record { call = first.0; at = first.1; n = then.0; amount = then.1; op_is = then.2 }

-- each operation's amount is in range
pub amounts_fit : (v : Number) (p : ℕ) (op : NumberOp) → IsNumber v → op_at v p ≡ Some op → IsAmountOf v.max op
amounts_fit v p op known is =
    let f = found v p op is in
    ops_in_range v.max f.call f.n (place_of p % 2) op
    (in_range v.max f.call (amount_of p) f.n (passes (is_within v.max) v.calls (place_of p / 2) f.call known.amounts f.at) f.amount) f.op_is

-- ---- bounds

-- an operation leads nowhere below 0 or above the greatest value
pub bounds_within : (max : ℕ) (op : NumberOp) → IsAmountOf max op → IsWithinBounds max (op_bounds max op)
bounds_within max (Take n) a = record { enough = omega arith; legal = omega arith; room = omega (arith, a.0, a.1) }
bounds_within max (Short n) a = record { enough = omega arith; legal = omega (arith, a.0, a.1); room = omega (arith, a.0, a.1) }
bounds_within max (Give n) a = record { enough = omega arith; legal = omega (arith, a.0, a.1); room = omega (arith, a.0, a.1) }
bounds_within max (Full n) a = record { enough = omega arith; legal = omega arith; room = omega arith }
bounds_within max (AtLeast n) a = record { enough = omega arith; legal = omega arith; room = omega arith }
bounds_within max (Below n) a = record { enough = omega arith; legal = omega (arith, a.0, a.1); room = omega (arith, a.0, a.1) }
bounds_within max (Value n) a = record { enough = omega arith; legal = a; room = omega (arith, a) }

-- it is legal somewhere, and doesn't both give and take
bounds_plain : (max : ℕ) (op : NumberOp) → IsAmountOf max op → IsPlainOperation (op_bounds max op)
bounds_plain max (Take n) a = inl (record { somewhere = a.1; one_way = inl refl })
bounds_plain max (Short n) a = inl (record { somewhere = omega arith; one_way = inl refl })
bounds_plain max (Give n) a = inl (record { somewhere = omega arith; one_way = inr refl })
bounds_plain max (Full n) a = inl (record { somewhere = omega (arith, a.0, a.1); one_way = inl refl })
bounds_plain max (AtLeast n) a = inl (record { somewhere = a.1; one_way = inl refl })
bounds_plain max (Below n) a = inl (record { somewhere = omega arith; one_way = inl refl })
bounds_plain max (Value n) a = inl (record { somewhere = omega arith; one_way = inl refl })

-- what is done with a number is the operation that has it
pub done_is : (v : Number) (p : ℕ) (op : NumberOp) → op_done v p ≡ Some op → op_at v p ≡ Some op
done_is v p op is = go (call_is_elsewhere v (amount_of p) (slice_get v.calls (place_of p / 2))) is
  where
    go : (b : Bool) → cond b None (op_at v p) ≡ Some op → op_at v p ≡ Some op
    go true none = absurd cc
    go false found = found

-- so it is with each number, whether an operation is done with it or none
pub any_within : (v : Number) (p : ℕ) → IsNumber v → (o : Option NumberOp) → op_done v p ≡ o → IsWithinBounds v.max (bounds_or_none v.max o)
any_within v p known None is = record { enough = omega arith; legal = omega arith; room = omega arith }
any_within v p known (Some op) is = bounds_within v.max op (amounts_fit v p op known (done_is v p op is))

any_plain : (v : Number) (p : ℕ) → IsNumber v → (o : Option NumberOp) → op_done v p ≡ o → IsPlainOperation (bounds_or_none v.max o)
any_plain v p known None is = inr refl
any_plain v p known (Some op) is = bounds_plain v.max op (amounts_fit v p op known (done_is v p op is))

-- ---- lists by number

-- what is found in a list that is made by places
pub found_by : {A : Type 0} (f : ℕ → A) (n k : ℕ) (a : A) → slice_get (map f (range_with_len 0 n)) k ≡ Some a → (k < n) × (f k ≡ a)
found_by f n k a is = elim (cases_lt k n) [
  | inl below ↦
      let at = slice_get-get_or (map f (range_with_len 0 n)) k a (omega (arith, below, length-map-range_with_len f 0 n)) in
      let same : f k ≡ get_or (map f (range_with_len 0 n)) k a = sym (get_or-map-range_with_len f 0 n k k a below (omega arith)) in
      let equal : get_or (map f (range_with_len 0 n)) k a ≡ a = cc in
      (below, same ∙ equal)
  | inr past ↦ absurd (none_past (map f (range_with_len 0 n)) k a (omega (arith, past, length-map-range_with_len f 0 n)) is)
]
  where
    none_past : {A : Type 0} (V : List A) (k : ℕ) (a : A) → length V ≤ k → slice_get V k ≡ Some a → ⊥
    none_past [] k a past is = cc
    none_past (x ∷ V) zero a past is = omega (arith, past)
    none_past (x ∷ V) (suc k) a past is = none_past V k a (omega (arith, past)) is

pub at_place : {A : Type 0} (f : ℕ → A) (n k : ℕ) → k < n → slice_get (map f (range_with_len 0 n)) k ≡ Some (f k)
at_place f n k below =
    slice_get-get_or (map f (range_with_len 0 n)) k (f k) (omega (arith, below, length-map-range_with_len f 0 n))
    ∙ ap Some (get_or-map-range_with_len f 0 n k k (f k) below (omega arith))

-- ---- which numbers operations have

-- an amount that is told is that of the call
told_is : (max : ℕ) (call : NumberCall) (m n : ℕ) → amount_for max call (Some m) ≡ Some n → m ≡ n
told_is max (calls.Take k) m n is = absurd cc
told_is max (calls.Give k) m n is = absurd cc
told_is max (calls.AtLeast k) m n is = absurd cc
told_is max calls.TakeAny m n is = (where_found (is_amount max m) m n is).1
told_is max calls.GiveAny m n is = (where_found (is_amount max m) m n is).1
told_is max calls.Value m n is = (where_found (leb m max) m n is).1

-- it is at most the greatest value
at_most : (max : ℕ) (call : NumberCall) (n : ℕ) → IsAmountFor max call n → n ≤ max
at_most max (calls.Take k) n h = h.1
at_most max (calls.Give k) n h = h.1
at_most max (calls.AtLeast k) n h = h.1
at_most max calls.TakeAny n h = h.1
at_most max calls.GiveAny n h = h.1
at_most max calls.Value n h = h

-- each operation's number is below the count
pub below_count : (v : Number) (p : ℕ) (op : NumberOp) → IsNumber v → op_at v p ≡ Some op → p < op_count v
below_count v p op known is =
    let f = found v p op is in
    go f (p / 256) refl (amount_of p) refl
  where
    go : IsFound v p op → (q : ℕ) → p / 256 ≡ q → (told : Option ℕ) → amount_of p ≡ told → p < op_count v
    go f zero eq told amount = omega (arith, eq)
    go f (suc m) eq None amount = absurd (let none : Some m ≡ None = sym (ap amount_by eq) ∙ amount in cc)
    go f (suc m) eq (Some told) amount =
        let same : Some m ≡ Some told = sym (ap amount_by eq) ∙ amount in
        let equal : m ≡ told = cc in
        let call_amount : amount_for v.max f.call (Some told) ≡ Some f.n = sym (ap (amount_for v.max f.call) amount) ∙ f.amount in
        let inside = in_range v.max f.call (Some told) f.n (passes (is_within v.max) v.calls (place_of p / 2) f.call known.amounts f.at) call_amount in
        let most = at_most v.max f.call f.n inside in
        omega (arith, eq, equal, told_is v.max f.call told f.n call_amount, most)

-- ---- the table

-- it has as many operations as bounds
as_many : (v : Number) → length (number_ops v) ≡ length (number_bounds v)
as_many v = length-map-range_with_len _ 0 (op_count v) ∙ sym (length-map-range_with_len _ 0 (op_count v))

pub has_table : NumbersHaveTables → NumberHasTable
has_table tables v known =
    let f : ℕ → Bounded = λ p. bounds_or_none v.max (op_done v p) in
    let within : AreWithin v.max (number_bounds v) = λ k b at. let here = found_by f (op_count v) k b at in subst (IsWithinBounds v.max) here.1 (any_within v k known (op_done v k) refl) in
    tables (number_table v) v.max (number_bounds v) refl (as_many v) within

pub tells_bounds : BoundsAreTold → NumberHasTable → NumberTellsBounds
tells_bounds told tables v known =
    let f : ℕ → Bounded = λ p. bounds_or_none v.max (op_done v p) in
    let plain : ArePlain (number_bounds v) = λ k b at. let here = found_by f (op_count v) k b at in subst IsPlainOperation here.1 (any_plain v k known (op_done v k) refl) in
    let top : v.max ≡ v.max + 1 - 1 = omega arith in
    told (number_table v) (number_bounds v) (omega arith) (as_many v) plain
    (subst (λ m. AreBounds (number_table v) m (number_bounds v)) top (tables v known))

-- the steps of an operation that a number has, and of one that it hasn't
pub next_of_op : NumberHasTable → (v : Number) (s p : ℕ) (op : NumberOp) → IsNumber v → op_done v p ≡ Some op → next (number_table v) s p ≡ moved (op_bounds v.max op) s
next_of_op tables v s p op known is =
    let steps = (tables v known).steps in
    steps s p ∙ ap (λ o. moved_by o s) (at_place (λ q. bounds_or_none v.max (op_done v q)) (op_count v) p (below_count v p op known (done_is v p op is))) ∙ ap (λ o. moved (bounds_or_none v.max o) s) is

pub next_of_none : NumberHasTable → (v : Number) (s p : ℕ) → IsNumber v → op_done v p ≡ None → next (number_table v) s p ≡ None
next_of_none tables v s p known is =
    let steps = (tables v known).steps in
    steps s p ∙ none (slice_get (number_bounds v) p) refl
  where
    none : (o : Option Bounded) → slice_get (number_bounds v) p ≡ o → moved_by o s ≡ None
    none None at = refl
    none (Some b) at =
        let here = found_by (λ q. bounds_or_none v.max (op_done v q)) (op_count v) p b at in
        let same : nowhere ≡ b = sym (ap (bounds_or_none v.max) is) ∙ here.1 in
        ap (λ c. moved c s) (sym same) ∙ moved-nowhere s

-- so it is with each number
pub next_is : NumberHasTable → (v : Number) (s p : ℕ) → IsNumber v → next (number_table v) s p ≡ moved (bounds_or_none v.max (op_done v p)) s
next_is tables v s p known = go (op_done v p) refl
  where
    go : (o : Option NumberOp) → op_done v p ≡ o → next (number_table v) s p ≡ moved (bounds_or_none v.max o) s
    go None is = next_of_none tables v s p known is ∙ sym (moved-nowhere s)
    go (Some op) is = next_of_op tables v s p op known is

-- where an operation leads there is a number
pub moved_inside : (top : ℕ) (b : Bounded) (s : ℕ) → IsWithinBounds top b → (o : Option ℕ) → o ≡ moved b s → IfSome o (λ t. t < top + 1)
moved_inside top b s fits None is = tt
moved_inside top b s fits (Some t) is =
    let between = within b s (is_there (moved b s) t (sym is)) in
    let moves = moves_by b s t fits.enough (sym is) in
    let room = fits.room in
    omega (arith, between.1, moves, room)

-- ---- what is at a number

-- a number that is one of the table's has these names and these bounds
pub bounds_at_number : (v : Number) (p : ℕ) → p < length (number_ops v) → slice_get (number_bounds v) p ≡ Some (bounds_or_none v.max (op_done v p))
bounds_at_number v p below =
    let count = length-map-range_with_len (λ q. names_or_none (op_at v q)) 0 (op_count v) in
    at_place (λ q. bounds_or_none v.max (op_done v q)) (op_count v) p (omega (arith, below, count))

pub names_of_op : (v : Number) (p : ℕ) (op : NumberOp) → IsNumber v → op_at v p ≡ Some op → slice_get (number_ops v) p ≡ Some (op_names op)
names_of_op v p op known is = at_place (λ q. names_or_none (op_at v q)) (op_count v) p (below_count v p op known is) ∙ ap (λ o. Some (names_or_none o)) is

-- the name of the call with a number
pub call_name : (v : Number) (p : ℕ) → IsNumber v → call_of (number_table v) p ≡ (names_or_none (op_at v p)).call
call_name v p known = get_or-map (λ (o : Op). o.call) (number_ops v) p (op_with [] []) ∙ ap (λ (o : Op). o.call) (at_number (cases_lt p (op_count v)))
  where
    count : length (number_ops v) ≡ op_count v
    count = length-map-range_with_len (λ q. names_or_none (op_at v q)) 0 (op_count v)

    none : (o : Option NumberOp) → op_at v p ≡ o → op_count v ≤ p → o ≡ None
    none None is past = refl
    none (Some op) is past = absurd (omega (arith, past, below_count v p op known is))

    at_number : (p < op_count v) ⊎ (op_count v ≤ p) → get_or (number_ops v) p (op_with [] []) ≡ names_or_none (op_at v p)
    at_number (inl below) = get_or-map-range_with_len (λ q. names_or_none (op_at v q)) 0 (op_count v) p p (op_with [] []) below (omega arith)
    at_number (inr past) = get_or_past (number_ops v) p (op_with [] []) (omega (arith, past, count)) ∙ sym (ap names_or_none (none (op_at v p) refl past))

-- each operation has a name
op_is_named : (op : NumberOp) → ltb 0 (length (op_names op).call) ≡ true
op_is_named (Take n) = lt-ltb 0 (length (op_names (Take n)).call) (omega arith)
op_is_named (Short n) = lt-ltb 0 (length (op_names (Short n)).call) (omega arith)
op_is_named (Give n) = lt-ltb 0 (length (op_names (Give n)).call) (omega arith)
op_is_named (Full n) = lt-ltb 0 (length (op_names (Full n)).call) (omega arith)
op_is_named (AtLeast n) = lt-ltb 0 (length (op_names (AtLeast n)).call) (omega arith)
op_is_named (Below n) = lt-ltb 0 (length (op_names (Below n)).call) (omega arith)
op_is_named (Value n) = lt-ltb 0 (length (op_names (Value n)).call) (omega arith)

-- so the table has exactly the operations that the number has
pub has_what_is_there : (v : Number) (p : ℕ) → IsNumber v → is_some (op_at v p) ≡ has_op (number_table v) p
has_what_is_there v p known = by (op_at v p) ∙ ap (λ name. ltb 0 (length name)) (sym (call_name v p known))
  where
    by : (o : Option NumberOp) → is_some o ≡ ltb 0 (length (names_or_none o).call)
    by None = refl
    by (Some op) = sym (op_is_named op)
