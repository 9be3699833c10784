-- The place of a mark at the end.
use Rattle.std.proofs.Common.{◌≡◌, ℕ, zero, suc, ◌+◌, ◌-◌, ◌<◌, List, [], ◌∷◌, length, get_or, Some, refl, sym, ap, subst, ◌∙◌, arith}
use Rattle.std.specs.Prelude.{slice_get}
use Rattle.std.specs.List.{AllByRecursion}
use Rattle.std.proofs.lemmas.Bool.{lt-ltb, le-ltb}
use Rattle.std.proofs.lemmas.List.{length-map, get_or-map}
use Rattle.std.proofs.lemmas.List.Elements.{All-from_recursion}
use Rattle.std.proofs.lemmas.Option.{get_or_from_slice_get, slice_get_within}
use Rattle.escrow_laws.specs.declared.mark.OpenMark.{OpenMark}
use Rattle.escrow_manager.specs.Marks.{mark_owner, mark_owners, MarksAscend, mark_index}

-- each of some marks is of a later transaction
later-there : (x : ℕ) (marks : List OpenMark) (n : ℕ) (d : OpenMark) → AllByRecursion (λ y. x < y) (mark_owners marks) → n < length marks → x < (get_or marks n d).by
later-there x marks n d later within =
    let long = length-map marks mark_owner in
    subst (λ y. x < y) (get_or-map mark_owner marks n d 0 within) (All-from_recursion (λ y. x < y) (mark_owners marks) later n 0 (omega (arith, within, long)))

-- where the last one is t's, that is its place
last-own : (t : ℕ) (marks : List OpenMark) (n : ℕ) (d : OpenMark) → MarksAscend marks → length marks ≡ n + 1 → (get_or marks n d).by ≡ t → mark_index t marks ≡ n
last-own t [] n d ordered long is = absurd (omega (arith, long))
last-own t (o ∷ marks) zero d ordered long is = rw (le-ltb o.by t (omega (arith, is))) refl
last-own t (o ∷ marks) (suc n) d ordered long is =
    let first = later-there o.by marks n d ordered.0 (omega (arith, long)) in
    rw (lt-ltb o.by t (omega (arith, first, is))) (ap (λ i. suc i) (last-own t marks n d ordered.1 (omega (arith, long)) is))

-- where it is of an earlier transaction, t's place is after it
last-before : (t : ℕ) (marks : List OpenMark) (n : ℕ) (d : OpenMark) → MarksAscend marks → length marks ≡ n + 1 → (get_or marks n d).by < t → mark_index t marks ≡ n + 1
last-before t [] n d ordered long below = absurd (omega (arith, long))
last-before t (o ∷ []) zero d ordered long below = rw (lt-ltb o.by t below) refl
last-before t (o ∷ p ∷ marks) zero d ordered long below = absurd (omega (arith, long))
last-before t (o ∷ marks) (suc n) d ordered long below =
    let first = later-there o.by marks n d ordered.0 (omega (arith, long)) in
    let rest = last-before t marks n d ordered.1 (omega (arith, long)) below in
    rw (lt-ltb o.by t (omega (arith, first, below))) (omega (arith, rest))

-- by the last one that is found
module _ (t : ℕ) (V marks : List OpenMark) (last : OpenMark) (n : ℕ) (same : V ≡ marks) (found : Some last ≡ slice_get V (length V - 1)) (ordered : MarksAscend marks) (long : n ≡ length marks) where
  at : slice_get marks (n - 1) ≡ Some last
  at = ap (λ k. slice_get marks (k - 1)) long ∙ ap (λ W. slice_get W (length W - 1)) (sym same) ∙ sym found

  within : n - 1 < length marks
  within = slice_get_within marks (n - 1) last at

  is : get_or marks (n - 1) last ≡ last
  is = get_or_from_slice_get marks (n - 1) last last at

  pub found-own : last.by ≡ t → n - 1 ≡ mark_index t marks
  found-own own = let some = within in sym (last-own t marks (n - 1) last ordered (omega (arith, long, some)) (ap (λ (o : OpenMark). o.by) is ∙ own))

  pub found-before : last.by < t → n ≡ mark_index t marks
  found-before below =
      let some = within in
      let place = last-before t marks (n - 1) last ordered (omega (arith, long, some)) (subst (λ (o : OpenMark). o.by < t) (sym is) below) in
      omega (arith, place, some, long)
