-- Calls in pairs, and operations that are put into a room.
use Rattle.std.proofs.Common.{◌≡◌, ℕ, ◌+◌, ◌<◌, List, [], ◌∷◌, ◌++◌, length, map, take, drop, get_or, set, refl, sym, ap, ◌∙◌, Bor, arith}
use Rattle.std.specs.List.{zip}
use Rattle.std.proofs.lemmas.List.{take-append-drop, take_more, take_more_set, take_all, drop-drop, drop-set-lt}

-- ---- pairs

-- what is read of a pair that a loop goes over
abbrev pub pair_read : Bor ℕ × Bor (Bor (List ℕ)) → ℕ × Bor (List ℕ)
pair_read p = (p.0.now, p.1.now)

abbrev pub call_read : ℕ × Bor (List ℕ) → ℕ × List ℕ
call_read q = (q.0, q.1.now)

-- pairs whose seconds are read are the pairs with what is read
pub zip-read : {A B C : Type 0} (f : B → C) (xs : List A) (ys : List B) → map (λ (p : A × B). (p.0, f p.1)) (zip xs ys) ≡ zip xs (map f ys)
zip-read f [] ys = refl
zip-read f (x ∷ xs) [] = refl
zip-read f (x ∷ xs) (y ∷ ys) = ap (λ ps. (x, f y) ∷ ps) (zip-read f xs ys)

-- ---- a room

-- the first i places of the room have the first of the operations, and the others what they had
pub record FirstAreIn (ks old room : List ℕ) (i : ℕ) : Type 0 where
  pub front : take i room ≡ take i ks
  pub rest : drop i room ≡ drop i old

pub none-in : (ks room : List ℕ) → FirstAreIn ks room room 0
none-in ks room = record { front = refl; rest = refl }

-- the places behind are as they were
pub left-behind : (xs ys : List ℕ) (i k : ℕ) → drop i xs ≡ drop i ys → drop (i + 1) (set xs i k) ≡ drop (i + 1) ys
left-behind xs ys i k same = drop-set-lt (i + 1) xs i k (omega arith) ∙ sym (drop-drop 1 i xs) ∙ ap (λ l. drop 1 l) same ∙ drop-drop 1 i ys

pub more-in : (ks old room : List ℕ) (i k : ℕ) → i < length ks → i < length room → k ≡ get_or ks i k → FirstAreIn ks old room i → FirstAreIn ks old (set room i k) (i + 1)
more-in ks old room i k inside fits is so_far = record {
  front = take_more_set room i k fits ∙ ap (λ l. l ++ k ∷ []) so_far.front ∙ ap (λ n. take i ks ++ n ∷ []) is ∙ sym (take_more ks i k inside);
  rest = left-behind room old i k so_far.rest;
}

-- so when all were put
pub all-in : (ks old room : List ℕ) (i : ℕ) → i ≡ length ks → FirstAreIn ks old room i → room ≡ ks ++ drop (length ks) old
all-in ks old room i end so_far =
    sym (take-append-drop i room) ∙ ap (λ l. l ++ drop i room) (so_far.front ∙ take_all i ks (omega (arith, end))) ∙ ap (λ l. ks ++ l) (so_far.rest ∙ ap (λ n. drop n old) end)
