-- How the lists of counts are put together.
use Rattle.std.proofs.Common.{◌≡◌, ℕ, zero, suc, ◌+◌, ◌-◌, List, [], ◌∷◌, ◌++◌, map, refl, sym, ap, ◌∙◌, arith, add-one, add-zero, append_assoc}
use Rattle.std.specs.List.{flat_map, range_with_len}
use Rattle.std.proofs.lemmas.List.{append-nil}
use Rattle.table_families.specs.Counts.{counts_within}
use Rattle.table_families.proofs.Numbers.{beginning_with}

-- one more piece
flat_map-range_more : (f : ℕ → List (List ℕ)) (a m : ℕ) → flat_map f (range_with_len a (suc m)) ≡ flat_map f (range_with_len a m) ++ f (a + m)
flat_map-range_more f a zero = rw (add-zero, append-nil) refl
flat_map-range_more f a (suc m) =
    let later : a + 1 + m ≡ a + suc m = omega arith in
    rw (flat_map-range_more f (a + 1) m, later, append_assoc) refl

flat_map-range_push : (f : ℕ → List (List ℕ)) (m : ℕ) → flat_map f (range_with_len 0 (m + 1)) ≡ flat_map f (range_with_len 0 m) ++ f m
flat_map-range_push f m =
    let here : 0 + m ≡ m = omega arith in
    rw (add-one, flat_map-range_more f 0 m, here) refl

-- a count before the list of each
map-first : {A : Type 0} (items : A → List ℕ) (first : ℕ) (rest : List A) → map (λ counts. first ∷ items counts) rest ≡ map (λ cs. first ∷ cs) (map items rest)
map-first items first [] = refl
map-first items first (counts ∷ rest) = ap (λ xs. (first ∷ items counts) ∷ xs) (map-first items first rest)

-- the lists with one more first count are there
pub lists-push : {A : Type 0} (items : A → List ℕ) (n room first : ℕ) (old new : List (List ℕ)) (rest shown : List A) →
    old ≡ flat_map (beginning_with n room) (range_with_len 0 first) → map items rest ≡ counts_within n (room - first) → shown ≡ rest → new ≡ old ++ map (λ counts. first ∷ items counts) shown →
    new ≡ flat_map (beginning_with n room) (range_with_len 0 (first + 1))
lists-push items n room first old new rest shown so_far are same step =
    step ∙ rw (same, map-first items first rest, are, so_far) (sym (flat_map-range_push (beginning_with n room) first))
