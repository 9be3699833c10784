-- The first word of a line and of a text, piece after piece.
use Rattle.std.proofs.Common.{◌≡◌, ℕ, zero, suc, ◌<◌, Bool, true, false, List, [], ◌∷◌, ◌++◌, length, get_or, take, filter, eqb, Some, refl, sym, ap, ◌∙◌, arith}
use Rattle.std.specs.Prelude.{slice_get, codes}
use Rattle.std.specs.List.{flat_map, slice_split}
use Rattle.std.specs.Str.{bytes_eq}
use Rattle.line_text.specs.Shapes.{is_key}
use Rattle.line_text.specs.Text.{content_of, has_bytes, is_comment}
use Rattle.line_text.proofs.Words.{content_of-plain}

-- the first of more is the first
first_before : {B : Type 0} (xs ys : List B) (w : B) → slice_get xs 0 ≡ Some w → slice_get (xs ++ ys) 0 ≡ Some w
first_before [] ys w first = absurd cc
first_before (x ∷ xs) ys w first = first

-- a list that isn't there before another leaves it
first_after : {B : Type 0} (xs ys : List B) (w : B) → xs ≡ [] → slice_get ys 0 ≡ Some w → slice_get (xs ++ ys) 0 ≡ Some w
first_after xs ys w none first = rw none first

-- two lists that are joined to none
first_none : {B : Type 0} (xs ys : List B) → xs ++ ys ≡ [] → xs ≡ []
first_none [] ys none = refl
first_none (x ∷ xs) ys none = absurd cc

rest_none : {B : Type 0} (xs ys : List B) → xs ++ ys ≡ [] → ys ≡ []
rest_none [] ys none = none
rest_none (x ∷ xs) ys none = absurd cc

-- the pieces before one give nothing, so what is first of it is first of all
pub first_of_pieces : {A B : Type 0} (f : A → List B) (all : List A) (n : ℕ) (a : A) (w : B) → flat_map f (take n all) ≡ [] → n < length all → a ≡ get_or all n a → slice_get (f a) 0 ≡ Some w
    → slice_get (flat_map f all) 0 ≡ Some w
first_of_pieces f [] n a w none within is first = absurd (omega arith)
first_of_pieces f (b ∷ all) zero a w none within is first = first_before (f b) (flat_map f all) w (rw (← is) first)
first_of_pieces f (b ∷ all) (suc n) a w none within is first =
    first_after (f b) (flat_map f all) w (first_none (f b) (flat_map f (take n all)) none)
    (first_of_pieces f all n a w (rest_none (f b) (flat_map f (take n all)) none) (omega arith) is first)

-- the same of elements that pass
pub first_that_passes : {A : Type 0} (p : A → Bool) (all : List A) (n : ℕ) (a : A) → filter p (take n all) ≡ [] → n < length all → a ≡ get_or all n a → p a ≡ true
    → slice_get (filter p all) 0 ≡ Some a
first_that_passes p [] n a none within is passes = absurd (omega arith)
first_that_passes p (b ∷ all) zero a none within is passes = let here : p b ≡ true = ap p (sym is) ∙ passes in rw here (ap Some (sym is))
first_that_passes {A} p (b ∷ all) (suc n) a none within is passes = go (p b) refl (λ rest. first_that_passes p all n a rest (omega arith) is passes) none
  where
    go : (here : Bool) → p b ≡ here → (filter p (take n all) ≡ [] → slice_get (filter p all) 0 ≡ Some a) → filter p (b ∷ take n all) ≡ [] → slice_get (filter p (b ∷ all)) 0 ≡ Some a
    go true e later kept = let clash : b ∷ filter p (take n all) ≡ [] = simp e at kept in absurd cc
    go false e later kept = rw e (later (simp e at kept))

-- a piece that isn't empty has bytes
pub some_bytes : (w : List ℕ) → eqb (length w) 0 ≡ false → has_bytes w ≡ true
some_bytes [] some = absurd cc
some_bytes (b ∷ w) some = refl

-- the pieces of a line that is no comment are its words, where they have bytes
pub line_content : (line : List ℕ) → is_comment line ≡ false → filter has_bytes (slice_split (λ b. eqb b 32) line) ≡ content_of line
line_content line plain = content_of-plain line plain

-- the first word is a keyword where it has the keyword's bytes
pub key_of_first : (words : List (List ℕ)) (w key : List ℕ) → slice_get words 0 ≡ Some w → is_key words key ≡ bytes_eq w key
unfolding is_key
key_of_first [] w key first = absurd cc
key_of_first (v ∷ words) w key first = let same : v ≡ w = cc in ap (λ u. bytes_eq u key) same

-- and no word isn't one
pub key_of_none : (words : List (List ℕ)) → words ≡ [] → is_key words (codes "number") ≡ false
unfolding is_key
key_of_none words none = rw none refl
