-- Operations whose calls have one name: the lines that they are of, and the amounts that are said.
use Rattle.std.proofs.Common.{◌≡◌, ℕ, zero, suc, ◌/◌, ◌%◌, ◌≤◌, Bool, true, false, cond, eqb, leb, List, [], ◌∷◌, drop, get_or, Option, Some, None, option_map, refl, sym, ap, subst, ◌∙◌, arith}
use Rattle.std.specs.List.{AllByRecursion, list_all, list_any, slice_get}
use Rattle.std.proofs.lemmas.Bool.{and_parts, cond-true, cond-false, eq-eqb, ltb-true}
use Rattle.std.proofs.lemmas.Map.Keys.{any_passes_from_place}
use Rattle.std.proofs.lemmas.Option.{none-some, same_Some}
use Rattle.type_table.specs.Operation.{place_of, amount_of}
use Rattle.type_table.proofs.Elements.{each-found}
use Rattle.number_types.specs.declared.number_call.NumberCall.{NumberCall}
use Rattle.number_types.specs.declared.number_call.NumberCall.TheVariants as calls
use Rattle.number_types.specs.declared.number_op.NumberOp.{NumberOp}
use Rattle.number_types.specs.declared.number_op.NumberOp.TheVariants.{Take, Short, Give, Full, AtLeast, Below, Value}
use Rattle.decimals.specs.Decimals.{long_number_of}
use Rattle.number_types.specs.Calls.{is_amount, is_below, are_ascending}
use Rattle.number_types.specs.Number.{Number, IsNumber}
use Rattle.number_types.specs.Operations.{takes, gives, is_elsewhere, call_is_elsewhere, amount_for, ops_of_call, op_at, op_done, op_names, row_name, IsAmountOf}
use Rattle.decimals.proofs.Decimals.{read_long}
use Rattle.number_types.proofs.Tables.{passes, where_found, IsFound, found, done_is}

-- ---- what a call asks

-- what the call of an operation asks, as a line that lists the amount has it
abbrev pub asked : NumberOp → NumberCall
asked (Take n) = calls.Take n
asked (Short n) = calls.Take n
asked (Give n) = calls.Give n
asked (Full n) = calls.Give n
asked (AtLeast n) = calls.AtLeast n
asked (Below n) = calls.AtLeast n
asked (Value n) = calls.Value

-- the same of a line and an amount
abbrev pub asked_of : NumberCall → ℕ → NumberCall
asked_of (calls.Take k) n = calls.Take n
asked_of calls.TakeAny n = calls.Take n
asked_of (calls.Give k) n = calls.Give n
asked_of calls.GiveAny n = calls.Give n
asked_of (calls.AtLeast k) n = calls.AtLeast n
asked_of calls.Value n = calls.Value

-- the amount of an operation, or the value
abbrev pub amount_in : NumberOp → ℕ
amount_in (Take n) = n
amount_in (Short n) = n
amount_in (Give n) = n
amount_in (Full n) = n
amount_in (AtLeast n) = n
amount_in (Below n) = n
amount_in (Value n) = n

-- each operation of a line asks what the line and the amount ask, and has that amount
pub asked_there : (call : NumberCall) (n second : ℕ) (op : NumberOp) → slice_get (ops_of_call call n) second ≡ Some op → (asked op ≡ asked_of call n) × (amount_in op ≡ n)
asked_there call n second op is = each-found (λ o. (asked o ≡ asked_of call n) × (amount_in o ≡ n)) (ops_of_call call n) second op (all call) is
  where
    all : (call : NumberCall) → AllByRecursion (λ o. (asked o ≡ asked_of call n) × (amount_in o ≡ n)) (ops_of_call call n)
    all (calls.Take k) = ((refl, refl), ((refl, refl), tt))
    all calls.TakeAny = ((refl, refl), ((refl, refl), tt))
    all (calls.Give k) = ((refl, refl), ((refl, refl), tt))
    all calls.GiveAny = ((refl, refl), ((refl, refl), tt))
    all (calls.AtLeast k) = ((refl, refl), ((refl, refl), tt))
    all calls.Value = ((refl, refl), tt)

-- ---- what a name asks

-- by its first byte, and by the number after the word
read_name : List ℕ → Option NumberCall
read_name name =
    cond (eqb (get_or name 0 0) 116) (option_map calls.Take (long_number_of (drop 5 name)))
    (cond (eqb (get_or name 0 0) 103) (option_map calls.Give (long_number_of (drop 5 name)))
    (cond (eqb (get_or name 0 0) 97) (option_map calls.AtLeast (long_number_of (drop 8 name)))
    (Some calls.Value)))

name_read : (max : ℕ) (op : NumberOp) → max ≤ 4294967295 → IsAmountOf max op → read_name (op_names op).call ≡ Some (asked op)
unfolding read_name
name_read max (Take n) most a = ap (option_map calls.Take) (read_long n (omega (arith, a.1))).read
name_read max (Short n) most a = ap (option_map calls.Take) (read_long n (omega (arith, a.1))).read
name_read max (Give n) most a = ap (option_map calls.Give) (read_long n (omega (arith, a.1))).read
name_read max (Full n) most a = ap (option_map calls.Give) (read_long n (omega (arith, a.1))).read
name_read max (AtLeast n) most a = ap (option_map calls.AtLeast) (read_long n (omega (arith, a.1))).read
name_read max (Below n) most a = ap (option_map calls.AtLeast) (read_long n (omega (arith, a.1))).read
name_read max (Value n) most a = refl

-- so operations whose calls have one name ask the same
pub same_asked : (max : ℕ) (a b : NumberOp) → max ≤ 4294967295 → IsAmountOf max a → IsAmountOf max b → (op_names a).call ≡ (op_names b).call → asked a ≡ asked b
same_asked max a b most fits other same = same_Some (asked a) (asked b) (sym (name_read max a most fits) ∙ ap read_name same ∙ name_read max b most other)

-- and those that ask the same have one name
pub same_name : (a b : NumberOp) → asked a ≡ asked b → (op_names a).call ≡ (op_names b).call
same_name a b same = name_is a ∙ ap row_name same ∙ sym (name_is b)
  where
    name_is : (op : NumberOp) → (op_names op).call ≡ row_name (asked op)
    name_is (Take n) = refl
    name_is (Short n) = refl
    name_is (Give n) = refl
    name_is (Full n) = refl
    name_is (AtLeast n) = refl
    name_is (Below n) = refl
    name_is (Value n) = refl

-- ---- which line does what is asked

-- a line that lists the amount, and else that of any amount
abbrev pub line_for : List NumberCall → NumberCall → NumberCall
line_for cs (calls.Take n) = cond (list_any (takes n) cs) (calls.Take n) calls.TakeAny
line_for cs (calls.Give n) = cond (list_any (gives n) cs) (calls.Give n) calls.GiveAny
line_for cs call = call

-- and the amount that is said there, where the value is `number`
abbrev pub said_for : List NumberCall → ℕ → NumberCall → Option ℕ
said_for cs number (calls.Take n) = cond (list_any (takes n) cs) None (Some n)
said_for cs number (calls.Give n) = cond (list_any (gives n) cs) None (Some n)
said_for cs number (calls.AtLeast n) = None
said_for cs number calls.Value = Some number
said_for cs number call = None

-- so it is with each operation that is done
pub line_is : (v : Number) (i : ℕ) (call : NumberCall) (told : Option ℕ) (n : ℕ) → slice_get v.calls i ≡ Some call → amount_for v.max call told ≡ Some n → is_elsewhere v told call ≡ false →
    (call ≡ line_for v.calls (asked_of call n)) × (told ≡ said_for v.calls n (asked_of call n))
line_is v i (calls.Take k) None n at is here =
    let same = same_Some k n is in
    let listed = any_passes_from_place (takes n) v.calls i (calls.Take k) at (eq-eqb k n same) in
    (ap calls.Take same ∙ sym (cond-true (list_any (takes n) v.calls) (calls.Take n) calls.TakeAny listed), sym (cond-true (list_any (takes n) v.calls) None (Some n) listed))
line_is v i calls.TakeAny (Some m) n at is here =
    let same = (where_found (is_amount v.max m) m n is).1 in
    let unlisted = subst (λ k. list_any (takes k) v.calls ≡ false) same here in
    (sym (cond-false (list_any (takes n) v.calls) (calls.Take n) calls.TakeAny unlisted), ap Some same ∙ sym (cond-false (list_any (takes n) v.calls) None (Some n) unlisted))
line_is v i (calls.Give k) None n at is here =
    let same = same_Some k n is in
    let listed = any_passes_from_place (gives n) v.calls i (calls.Give k) at (eq-eqb k n same) in
    (ap calls.Give same ∙ sym (cond-true (list_any (gives n) v.calls) (calls.Give n) calls.GiveAny listed), sym (cond-true (list_any (gives n) v.calls) None (Some n) listed))
line_is v i calls.GiveAny (Some m) n at is here =
    let same = (where_found (is_amount v.max m) m n is).1 in
    let unlisted = subst (λ k. list_any (gives k) v.calls ≡ false) same here in
    (sym (cond-false (list_any (gives n) v.calls) (calls.Give n) calls.GiveAny unlisted), ap Some same ∙ sym (cond-false (list_any (gives n) v.calls) None (Some n) unlisted))
line_is v i (calls.AtLeast k) None n at is here = (ap calls.AtLeast (same_Some k n is), refl)
line_is v i calls.Value (Some m) n at is here = (refl, ap Some (where_found (leb m v.max) m n is).1)
line_is v i call told n at is here = absurd cc

-- what is done is no other line's
pub done_here : (v : Number) (p : ℕ) (op : NumberOp) → op_done v p ≡ Some op → call_is_elsewhere v (amount_of p) (slice_get v.calls (place_of p / 2)) ≡ false
done_here v p op is = go (call_is_elsewhere v (amount_of p) (slice_get v.calls (place_of p / 2))) is
  where
    go : (b : Bool) → cond b None (op_at v p) ≡ Some op → b ≡ false
    go true none = absurd (none-some op none)
    go false there = refl

-- the line of an operation that is done, and the amount that is said
pub done_line : (v : Number) (p : ℕ) (op : NumberOp) → op_done v p ≡ Some op → (f : IsFound v p op) →
    (slice_get v.calls (place_of p / 2) ≡ Some (line_for v.calls (asked op))) × (amount_of p ≡ said_for v.calls (amount_in op) (asked op))
done_line v p op is f =
    let here = ap (call_is_elsewhere v (amount_of p)) (sym f.at) ∙ done_here v p op is in
    let line = line_is v (place_of p / 2) f.call (amount_of p) f.n f.at f.amount here in
    let there = asked_there f.call f.n (place_of p % 2) op f.op_is in
    (f.at ∙ ap Some (line.0 ∙ ap (line_for v.calls) (sym there.0)), line.1 ∙ cc)

-- ---- no line comes twice

-- no call is below itself
not_below : (c : NumberCall) → is_below c c ≡ true → ⊥
not_below (calls.Take k) h = let less = ltb-true k k h in omega (arith, less)
not_below (calls.Give k) h = let less = ltb-true k k h in omega (arith, less)
not_below (calls.AtLeast k) h = let less = ltb-true k k h in omega (arith, less)
not_below c h = cc

pub one_place : (cs : List NumberCall) (i j : ℕ) (c : NumberCall) → are_ascending cs ≡ true → slice_get cs i ≡ Some c → slice_get cs j ≡ Some c → i ≡ j
one_place [] i j c ascend at there = absurd (none-some c at)
one_place (d ∷ cs) zero zero c ascend at there = refl
one_place (d ∷ cs) zero (suc j) c ascend at there =
    let below = passes (is_below d) cs j c (and_parts (list_all (is_below d) cs) (are_ascending cs) ascend).0 there in
    absurd (not_below c (subst (λ x. is_below x c ≡ true) (same_Some d c at) below))
one_place (d ∷ cs) (suc i) zero c ascend at there =
    let below = passes (is_below d) cs i c (and_parts (list_all (is_below d) cs) (are_ascending cs) ascend).0 at in
    absurd (not_below c (subst (λ x. is_below x c ≡ true) (same_Some d c there) below))
one_place (d ∷ cs) (suc i) (suc j) c ascend at there = ap suc (one_place cs i j c (and_parts (list_all (is_below d) cs) (are_ascending cs) ascend).1 at there)

-- operations that are done and ask the same are of one line
pub same_line : (v : Number) (p q : ℕ) (a b : NumberOp) → IsNumber v → op_done v p ≡ Some a → op_done v q ≡ Some b → asked a ≡ asked b → place_of p / 2 ≡ place_of q / 2
same_line v p q a b known is other same =
    let here = (done_line v p a is (found v p a (done_is v p a is))).0 in
    let there = (done_line v q b other (found v q b (done_is v q b other))).0 in
    one_place v.calls (place_of p / 2) (place_of q / 2) (line_for v.calls (asked b)) known.ascending (here ∙ ap (λ call. Some (line_for v.calls call)) same) there
