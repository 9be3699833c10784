-- Types at the states where a history begins, one after another.
use Rattle.std.proofs.Common.{◌≡◌, ◌∙◌, ℕ, ◌<◌, zero, suc, List, [], ◌∷◌, ◌++◌, length, map, take, get_or, Some, refl, sym, ap, ap₂, subst, inl, inr, arith}
use Rattle.std.specs.Prelude.{slice_get}
use Rattle.std.specs.Option.{option_map}
use Rattle.std.specs.declared.sync.Arc.{Arc}
use Rattle.std.proofs.lemmas.List.{length-map, length-take, map_push}
use Rattle.std.proofs.lemmas.Option.{same_Some, slice_get-get_or, slice_get-map, slice_get_read, slice_get_within}
use Rattle.type_table.proofs.Elements.{cases-more}
use Rattle.declared_types.specs.declared.declared_type.Declaration.{Declaration}
use Rattle.table_checker.specs.At.{checked_at, IsInside}
use Rattle.table_checker.specs.Checked.{Checked, IsChecked}
use Rattle.declared_types.specs.Declarations.{file_of}
use Rattle.type_table.specs.declared.kind.Kind.{Kind}
use Rattle.object_types.specs.Types.{IsSharedAt, AreTypesOf, value_of}
use Rattle.journal.specs.Contents.{Contents}
use Rattle.durable_store.specs.Types.{HasTypes}
use Rattle.store_text.specs.declared.line.ObjectLine.{ObjectLine}
use Rattle.journal.specs.declared.state_row.FirstState.{FirstState}
use Rattle.object_types.proofs.Pairs.{Each}
use Rattle.durable_store.specs.Begun.{HaveOneType, BeginAt, AreRead, BeginsAt, IsAtPlace}

-- one more has its partner
pub each-more : {A B : Type 0} (P : A → B → Type 0) (xs : List A) (ys new : List B) (i : ℕ) (a : A) (b : B) → length ys ≡ i → slice_get xs i ≡ Some a → P a b → Each P xs ys
    → new ≡ ys ++ b ∷ [] → Each P xs new
each-more P xs ys new i a b long there here each is k x y first second =
    elim (cases-more ys b k y (subst (λ ys. slice_get ys k ≡ Some y) is second)) [
      | inl before ↦ each k x y first before
      | inr last ↦ (
          let place : k ≡ i = last.0 ∙ long in
          let same : a ≡ x = same_Some a x (sym there ∙ sym (ap (slice_get xs) place) ∙ first) in
          subst (λ y. P x y) last.1 (subst (λ x. P x b) same here))
    ]

-- one more is at its state
pub at-more : {A : Type 0} (types : List Checked) (states : List FirstState) (begun new : List (Arc Checked A)) (x : ℕ) (at : Arc Checked A) → length begun ≡ x
    → BeginAt types states (map value_of begun) → IsAtPlace types states x (value_of at) → new ≡ begun ++ at ∷ [] → BeginAt types states (map value_of new)
at-more {A} types states begun new x at long known here is k y there =
    let more : map value_of new ≡ map value_of begun ++ value_of at ∷ [] = ap (map (value_of {A = A})) is ∙ map_push (value_of {A = A}) begun at in
    elim (cases-more (map value_of begun) (value_of at) k y (subst (λ ys. slice_get ys k ≡ Some y) more there)) [
      | inl before ↦ known k y before
      | inr last ↦ (
          let place : k ≡ x = last.0 ∙ length-map begun (value_of {A = A}) ∙ long in
          subst (λ y. IsAtPlace types states k y) last.1 (subst (λ n. IsAtPlace types states n (value_of at)) (sym place) here))
    ]

-- what is at a place of the first ones is at that place
from-first : {A : Type 0} (xs : List A) (n k : ℕ) (y : A) → slice_get (take n xs) k ≡ Some y → slice_get xs k ≡ Some y
from-first [] zero k y at = absurd cc
from-first [] (suc n) k y at = absurd cc
from-first (a ∷ xs) zero k y at = absurd cc
from-first (a ∷ xs) (suc n) zero y at = at
from-first (a ∷ xs) (suc n) (suc k) y at = from-first xs n k y at

-- what shares a type with one of the first lines shares it with that of all
shared-first : (lines : List ObjectLine) (n k : ℕ) (o : ObjectLine) → IsSharedAt (take n lines) k o → IsSharedAt lines k o
shared-first lines n k o sharing = record { other = sharing.other; there = from-first lines n k sharing.other sharing.there; kind = sharing.kind; file = sharing.file }

-- the type of an object before it of the same kind at the same place that begins at the same state
pub shared-at : {A : Type 0} (types : List Checked) (lines : List ObjectLine) (states : List FirstState) (begun : List (Arc Checked A)) (x other : ℕ) (o : ObjectLine) (f : FirstState)
    (shared a : Arc Checked A) → length types ≡ length lines → length begun ≡ x → x < length lines → HaveOneType lines types → BeginAt types states (map value_of begun)
    → slice_get lines x ≡ Some o → slice_get states x ≡ Some f → IsSharedAt (take x lines) other o → slice_get (take x states) other ≡ Some f
    → shared ≡ get_or begun other shared → value_of a ≡ value_of shared → IsAtPlace types states x (value_of a)
shared-at {A} types lines states begun x other o f shared a as-many long low alike known line state same-line same-state is cloned c first there at =
    let before : other < length (take x lines) = slice_get_within (take x lines) other same-line.other same-line.there in
    let near : other < x = omega (arith, before, length-take x lines) in
    let inside : other < length types = omega (arith, near, low, as-many) in
    let d = get_or types other c in
    let at-other : slice_get types other ≡ Some d = slice_get-get_or types other c inside in
    let begun-there : slice_get (map value_of begun) other ≡ Some (value_of shared) =
    slice_get-map (value_of {A = A}) begun other ∙ ap (option_map (value_of {A = A})) (slice_get_read begun (length begun) other shared refl (omega (arith, near, long)) is) in
    let here : BeginsAt d f (value_of shared) = known other (value_of shared) begun-there d f at-other (from-first states x other f same-state) in
    let one : d ≡ c = sym (alike x other o c d line (shared-first lines x other o same-line) there at-other) in
    let two : f ≡ first = same_Some f first (sym state ∙ at) in
    subst (BeginsAt c first) (sym cloned) (subst (λ f. BeginsAt c f (value_of shared)) two (subst (λ d. BeginsAt d f (value_of shared)) one here))

-- a type of its own
pub fresh-at : {A : Type 0} (types : List (Arc Checked A)) (states : List FirstState) (x : ℕ) (own : Arc Checked A) (seen : Checked) (f : FirstState) (at : Checked) → x < length types
    → own ≡ get_or types x own → seen ≡ value_of own → slice_get states x ≡ Some f → BeginsAt seen f at → IsAtPlace (map value_of types) states x at
fresh-at {A} types states x own seen f at low is read state given c first there first-there =
    let here : slice_get (map value_of types) x ≡ Some (value_of own) =
    slice_get-map (value_of {A = A}) types x ∙ ap (option_map (value_of {A = A})) (slice_get_read types (length types) x own refl low is) in
    let one : seen ≡ c = read ∙ same_Some (value_of own) c (sym here ∙ there) in
    let two : f ≡ first = same_Some f first (sym state ∙ first-there) in
    subst (λ f. BeginsAt c f at) two (subst (λ d. BeginsAt d f at) one given)

-- the types that lines name are alike where the kinds and the places are
pub alike : (declared : List Declaration) (lines : List ObjectLine) (types : List Checked) → AreTypesOf declared lines types → HaveOneType lines types
alike declared lines types are x y o c d line-x sharing type-x type-y =
    let p = are.each x o c line-x type-x in
    let q = are.each y sharing.other d sharing.there type-y in
    let one : p.declaration ≡ q.declaration = same_Some p.declaration q.declaration (sym p.there ∙ sym (ap (slice_get declared) sharing.file) ∙ q.there) in
    p.checked.0 ∙ ap₂ (λ (k : Kind) (d : Declaration). let it : Checked = record { kind = k; file = file_of d } in it) (sym sharing.kind) one ∙ sym q.checked.0

-- they are the types of the file's objects
pub are-types : (c : Contents) (declared : List Declaration) (types begun : List Checked) → AreRead c.types declared → AreTypesOf declared c.objects types → length c.states ≡ length c.objects
    → length begun ≡ length c.objects → BeginAt types c.states begun → HasTypes c begun
are-types c declared types begun read of states long at = record {
  as_many = long;
  as_many_states = states;
  each = λ x o first type line state there.
      let inside : x < length types = omega (arith, slice_get_within c.objects x o line, of.as_many) in
      let checked = get_or types x type in
      let checked-there : slice_get types x ≡ Some checked = slice_get-get_or types x type inside in
      let is = at x type there checked first checked-there state in
      let its = of.each x o checked line checked-there in
      let there-too : o.file < length c.types = omega (arith, slice_get_within declared o.file its.declaration its.there, read.as_many) in
      let text = get_or c.types o.file [] in
      let text-there : slice_get c.types o.file ≡ Some text = slice_get-get_or c.types o.file [] there-too in
      record {
        text = text;
        there = text-there;
        declaration = its.declaration;
        declares = read.each o.file text its.declaration text-there its.there;
        kinds = its.checked.2;
        checked = subst IsChecked its.checked.0 its.checked.1;
        inside = subst (λ (k : Checked). IsInside k first.state) its.checked.0 is.0;
        is = is.1 ∙ ap (λ k. checked_at k first.state) its.checked.0;
      };
}
