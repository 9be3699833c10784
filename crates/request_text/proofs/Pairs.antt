-- Words two by two.
use Rattle.std.proofs.Common.{◌≡◌, ℕ, ◌*◌, ◌<◌, suc, Bool, true, false, ◌&&◌, if◌then◌else◌, List, [], ◌∷◌, map, length, eqb, Bor, Result, Ok, Err, refl, ap, arith}
use Rattle.std.specs.Prelude.{nat_le}
use Rattle.std.proofs.lemmas.List.{length-append}
use Rattle.request_text.specs.declared.fault.RequestFault.TheVariants.{BadNumber, BadWords}
use Rattle.std.specs.List.{list_all}
use Rattle.type_table.specs.Name.{is_name}
use Rattle.request_text.specs.Shapes.{object_word}
use Rattle.request_text.specs.Calls.{are_calls, are_named, calls_said, has_calls, has_objects, objects_said, said_call, say_objects, says_object, is_said, with_object}
use Rattle.request_text.specs.declared.fault.RequestFault.{RequestFault}
use Rattle.request_text.specs.declared.request.AskedCall.{AskedCall}
use Rattle.request_text.specs.declared.request.ObjectWord.{ObjectWord}

-- fewer than two are named only if there are none
pub few-named : (words : List (Bor (List ℕ))) → length words < 2 → eqb (length words) 0 ≡ are_named (map (λ w. w.now) words)
few-named [] few = refl
few-named (x ∷ []) few = refl
few-named (x ∷ name ∷ words) few = absurd (omega (arith, few))

-- ---- none is left out

both : (a b : Bool) → (a && b) ≡ true → (a ≡ true) × (b ≡ true)
both true true is = (refl, refl)
both true false is = absurd cc
both false b is = absurd cc

one-said : (x : Result ObjectWord RequestFault) (name : List ℕ) → is_said x ≡ true → is_name name ≡ true → length (said_call x name) ≡ 1
one-said (Ok x) name said named = ap (λ b. length {A = AskedCall} (if b then record { x = x; call = name } ∷ [] else [])) named
one-said (Err fault) name said named = absurd cc

pub all-said : (words : List (List ℕ)) → are_named words ≡ true → say_objects words ≡ true → length words ≡ 2 * length (calls_said words)
all-said [] named said = refl
all-said (x ∷ []) named said = absurd cc
all-said (x ∷ name ∷ words) named said =
    let n = both (is_name name) (are_named words) named in
    let s = both (says_object x) (say_objects words) said in
    omega (arith, all-said words n.1 s.1, one-said (object_word x) name s.0 n.0, length-append (said_call (object_word x) name) (calls_said words))

one-object : (x : Result ObjectWord RequestFault) (xs : List ObjectWord) → is_said x ≡ true → length (with_object x xs) ≡ suc (length xs)
one-object (Ok x) xs said = refl
one-object (Err fault) xs said = absurd cc

pub objects-said : (words : List (List ℕ)) → list_all says_object words ≡ true → length words ≡ length (objects_said words)
objects-said [] said = refl
objects-said (w ∷ words) said =
    let s = both (says_object w) (list_all says_object words) said in
    omega (arith, objects-said words s.1, one-object (object_word w) (objects_said words) s.0)

-- a test that passed
passed : (a b : Bool) → (if a then (if b then Ok (tt {0}) else Err BadNumber) else Err BadWords) ≡ Ok tt → (a ≡ true) × (b ≡ true)
passed true true is = (refl, refl)
passed true false is = absurd cc
passed false b is = absurd cc

pub calls-whole : (verb : List ℕ) (words : List (List ℕ)) → has_calls (verb ∷ words) ≡ Ok tt → length words ≡ 2 * length (calls_said words)
unfolding has_calls
calls-whole verb words is =
    let p = passed (are_calls words) (say_objects words) is in
    all-said words (both (nat_le 2 (length words) && nat_le (length words) 128) (are_named words) p.0).1 p.1

pub objects-whole : (verb : List ℕ) (words : List (List ℕ)) → has_objects (verb ∷ words) ≡ Ok tt → length words ≡ length (objects_said words)
unfolding has_objects
objects-whole verb words is =
    let p = passed (nat_le 2 (suc (length words)) && nat_le (suc (length words)) 65) (list_all says_object words) is in
    objects-said words p.1
