-- Texts of items with their places, written one after another.
use Rattle.std.proofs.Common.{◌≡◌, ℕ, ◌+◌, ◌<◌, ◌≤◌, List, [], ◌∷◌, ◌++◌, length, take, get_or, Option, Result, sym, ap, subst, ◌∙◌, zero-add, append-nil}
use Rattle.std.proofs.lemmas.Grind.{flat_map-append}
use Rattle.std.proofs.lemmas.List.{take_more, take_all}
use Rattle.std.proofs.lemmas.List.FromFn.{length-enumerate_from, get_or-enumerate_from}
use Rattle.std.specs.List.{flat_map, enumerate_from}
use Rattle.outputs.specs.Out.{Puts}
use Rattle.outputs.specs.declared.out.OutFault.{OutFault}

module _ {X : Type 0} (text : ℕ × X → List ℕ) (xs : List X) (i : ℕ) (d : X) (inside : i < length xs) where
  -- an item with its place is the element at that place
  placed-at : get_or (enumerate_from 0 xs) i (0, d) ≡ (i, get_or xs i d)
  placed-at = get_or-enumerate_from 0 xs i (0, d) inside ∙ ap (λ n. (n, get_or xs i d)) (zero-add i)

  pub is_placed : i < length (enumerate_from 0 xs)
  is_placed = rw (length-enumerate_from 0 xs) inside

  module _ (x : X) (is : x ≡ get_or xs i d) where
    x-placed : (i, x) ≡ get_or (enumerate_from 0 xs) i (0, d)
    x-placed = ap (λ y. (i, y)) is ∙ sym placed-at

    -- the text of an item is that of the element at its place
    pub text-at : {a b : Option (List ℕ)} {f : Option OutFault} {result : Result (Unit {0}) OutFault}
        → Puts a b f (text (i, x)) result → Puts a b f (text (get_or (enumerate_from 0 xs) i (0, d))) result
    text-at {a} {b} {f} {result} puts =
        let P : ℕ × X → Type 0 = λ p. Puts a b f (text p) result in
        subst P x-placed puts

    -- one more
    pub texts-more : flat_map text (take (i + 1) (enumerate_from 0 xs)) ≡ flat_map text (take i (enumerate_from 0 xs)) ++ text (i, x)
    texts-more =
        let front = take i (enumerate_from 0 xs) in
        let here = get_or (enumerate_from 0 xs) i (0, d) in
        ap (flat_map text) (take_more (enumerate_from 0 xs) i (0, d) is_placed) ∙ flat_map-append text front (here ∷ [])
        ∙ ap (λ l. flat_map text front ++ l) (append-nil (text here)) ∙ ap (λ p. flat_map text front ++ text p) (sym x-placed)

-- all of them
pub texts-all : {X : Type 0} (xs : List X) (i : ℕ) → length xs ≤ i → take i (enumerate_from 0 xs) ≡ enumerate_from 0 xs
texts-all xs i past = take_all i (enumerate_from 0 xs) (rw (length-enumerate_from 0 xs) past)
