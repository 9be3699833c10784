-- The place of a view at the end.
use Rattle.std.proofs.Common.{◌≡◌, ℕ, zero, suc, ◌+◌, ◌-◌, ◌<◌, true, false, List, [], ◌∷◌, map, length, get_or, Some, refl, sym, ap, subst, ◌∙◌, arith}
use Rattle.std.specs.Prelude.{slice_get}
use Rattle.std.specs.List.{AllByRecursion}
use Rattle.std.proofs.lemmas.Bool.{false≢true, lt-ltb, le-ltb}
use Rattle.std.proofs.lemmas.List.{length-map, get_or-map}
use Rattle.std.proofs.lemmas.List.Elements.{All-from_recursion}
use Rattle.std.proofs.lemmas.Option.{get_or_from_slice_get, slice_get_within}
use Rattle.intentions_manager.specs.declared.views.View.{View}
use Rattle.intentions_manager.specs.Views.{view_owner, view_owners, ViewsAscend, view_index, IsViewAt, IsPlace}

-- each of some views is of a later transaction
later-there : (x : ℕ) (views : List View) (n : ℕ) (d : View) → AllByRecursion (λ y. x < y) (view_owners views) → n < length views → x < (get_or views n d).by
later-there x views n d later within =
    let long = length-map views view_owner in
    subst (λ y. x < y) (get_or-map view_owner views n d 0 within) (All-from_recursion (λ y. x < y) (view_owners views) later n 0 (omega (arith, within, long)))

-- where the last one is t's, that is its place
last-own : (t : ℕ) (views : List View) (n : ℕ) (d : View) → ViewsAscend views → length views ≡ n + 1 → (get_or views n d).by ≡ t → view_index t views ≡ n
last-own t [] n d ordered long is = absurd (omega (arith, long))
last-own t (o ∷ views) zero d ordered long is = rw (le-ltb o.by t (omega (arith, is))) refl
last-own t (o ∷ views) (suc n) d ordered long is =
    let first = later-there o.by views n d ordered.0 (omega (arith, long)) in
    rw (lt-ltb o.by t (omega (arith, first, is))) (ap (λ i. suc i) (last-own t views n d ordered.1 (omega (arith, long)) is))

-- where it is of an earlier transaction, t's place is after it
last-before : (t : ℕ) (views : List View) (n : ℕ) (d : View) → ViewsAscend views → length views ≡ n + 1 → (get_or views n d).by < t → view_index t views ≡ n + 1
last-before t [] n d ordered long below = absurd (omega (arith, long))
last-before t (o ∷ []) zero d ordered long below = rw (lt-ltb o.by t below) refl
last-before t (o ∷ p ∷ views) zero d ordered long below = absurd (omega (arith, long))
last-before t (o ∷ views) (suc n) d ordered long below =
    let first = later-there o.by views n d ordered.0 (omega (arith, long)) in
    let rest = last-before t views n d ordered.1 (omega (arith, long)) below in
    rw (lt-ltb o.by t (omega (arith, first, below))) (omega (arith, rest))

-- by the last one that is found
module _ (t : ℕ) (V views : List View) (last : View) (n : ℕ) (same : V ≡ views) (found : Some last ≡ slice_get V (length V - 1)) (ordered : ViewsAscend views) (long : n ≡ length views) where
  at : slice_get views (n - 1) ≡ Some last
  at = ap (λ k. slice_get views (k - 1)) long ∙ ap (λ W. slice_get W (length W - 1)) (sym same) ∙ sym found

  within : n - 1 < length views
  within = slice_get_within views (n - 1) last at

  is : get_or views (n - 1) last ≡ last
  is = get_or_from_slice_get views (n - 1) last last at

  pub found-own : last.by ≡ t → IsPlace t views (record { at = n - 1; is_taken = true })
  found-own own =
      let some = within in
      let index : n - 1 ≡ view_index t views = sym (last-own t views (n - 1) last ordered (omega (arith, long, some)) (ap (λ (o : View). o.by) is ∙ own)) in
      let owner : get_or (map view_owner views) (n - 1) 0 ≡ t = get_or-map view_owner views (n - 1) last 0 some ∙ ap (λ (o : View). o.by) is ∙ own in
      record {
        index = index;
        there = λ _. subst (λ k. IsViewAt t k views) index (some, owner);
        elsewhere = λ free _. false≢true (sym free);
      }

  pub found-before : last.by < t → IsPlace t views (record { at = n; is_taken = false })
  found-before below =
      let some = within in
      let place = last-before t views (n - 1) last ordered (omega (arith, long, some)) (subst (λ (o : View). o.by < t) (sym is) below) in
      let index : n ≡ view_index t views = omega (arith, place, some, long) in
      record {
        index = index;
        there = λ taken. absurd (false≢true taken);
        elsewhere = λ _ here. let inside = here.0 in omega (arith, inside, index, long);
      }
