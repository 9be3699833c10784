-- Names of objects in sets, and names that are new.
use Rattle.std.proofs.Common.{◌≡◌, ◌∙◌, ℕ, ◌+◌, ◌<◌, Bool, true, false, ◌||◌, cond, List, [], ◌∷◌, ◌++◌, length, take, Option, Some, None, refl, sym, ap, subst, inl, inr, arith, append_assoc}
use Rattle.std.specs.Prelude.{slice_get}
use Rattle.std.specs.List.{list_any}
use Rattle.std.specs.Str.{bytes_eq}
use Rattle.std.specs.Cmp.Lexicographic.{nat_list_eq_equiv}
use Rattle.std.proofs.Math.Seq.{take-append_seam}
use Rattle.std.proofs.lemmas.List.{take-append-le}
use Rattle.std.proofs.lemmas.List.Folds.{list_any-append}
use Rattle.std.proofs.lemmas.Option.{none-some, slice_get_within}
use Rattle.type_table.proofs.Elements.{cases-more, none_any, take-found}
use Rattle.object_name.specs.ObjectName.{is_same_name}
use Rattle.store_text.specs.declared.line.ObjectLine.{ObjectLine}
use Rattle.journal.specs.declared.prepared_row.Prepared.{Prepared}
use Rattle.durable_store.specs.declared.open_error.OpenError.{OpenError}
use Rattle.durable_store.specs.declared.open_error.OpenError.TheVariants.{Journal, Text, Untyped, NoStore, NotExtended, NameTaken, NotMade, NotPrepared, NoMemory}
use Rattle.object_trait.specs.Meaning.{Meaning}
use Rattle.store_laws.specs.Stored.{Stored}
use Rattle.durable_store.specs.Growth.{RefusesGrowth}
use Rattle.durable_store.specs.GrowthParts.{IsGrowthError, RefusesObjects}
use Rattle.durable_store.specs.Names.{HaveNewNames, SayNames, SaysTaken, have_name, knows_name}
use Rattle.durable_store.specs.Recovered.{IsStrayError}

or_false : (b : Bool) → (b || false) ≡ b
or_false true = refl
or_false false = refl

-- a name is among those of objects where one of them has it
pub among : (objects : List ObjectLine) (names : List (List ℕ)) (name : Option (List ℕ)) → SayNames objects names → knows_name names name ≡ have_name name objects
among objects names None say = sym (none_any objects)
among objects names (Some w) say = say w

-- with one more
pub say_more : (objects : List ObjectLine) (old new : List (List ℕ)) (o : ObjectLine) → SayNames objects old
    → ((w : List ℕ) → list_any (bytes_eq w) new ≡ (list_any (bytes_eq w) old || is_same_name (Some w) o.name)) → SayNames (objects ++ o ∷ []) new
say_more objects old new o say put w =
    put w ∙ ap (λ b. b || is_same_name (Some w) o.name) (say w)
    ∙ sym (list_any-append (λ (p : ObjectLine). is_same_name (Some w) p.name) objects (o ∷ []) ∙ ap (λ b. have_name (Some w) objects || b) (or_false (is_same_name (Some w) o.name)))

-- no name is one of none
pub say_none : (names : List (List ℕ)) → names ≡ [] → SayNames [] names
say_none names is w = ap (list_any (bytes_eq w)) is

-- a name that was put among others
pub put_among : (name w : List ℕ) (had : Bool) → cond (bytes_eq name w) true had ≡ (had || bytes_eq w name)
put_among name w had = ap (λ b. cond b true had) (nat_list_eq_equiv.symm name w) ∙ go (bytes_eq w name) had
  where
    go : (b had : Bool) → cond b true had ≡ (had || b)
    go true true = refl
    go true false = refl
    go false true = refl
    go false false = refl

-- what has no name puts none
pub put_nameless : (name : Option (List ℕ)) (w : List ℕ) (had : Bool) → ((v : List ℕ) → name ≡ Some v → ⊥) → had ≡ (had || is_same_name (Some w) name)
put_nameless None w had none = sym (or_false had)
put_nameless (Some v) w had none = absurd (none v refl)

-- no line has a known name
pub new_none : (known : List ObjectLine) → HaveNewNames known []
new_none known x line there = absurd (none-some line there)

-- nor has one more
pub new_more : (known lines : List ObjectLine) (o : ObjectLine) → HaveNewNames known lines → have_name o.name (known ++ lines) ≡ false → HaveNewNames known (lines ++ o ∷ [])
new_more known lines o new here y line there =
    elim (cases-more lines o y line there) [
      | inl before ↦ (
          let low : y < length lines = slice_get_within lines y line before in
          ap (λ (front : List ObjectLine). have_name line.name (known ++ front)) (take-append-le y lines (o ∷ []) (omega (arith, low))) ∙ new y line before)
      | inr last ↦ (
          let front : take y (lines ++ o ∷ []) ≡ lines = ap (λ (n : ℕ). take n (lines ++ o ∷ [])) last.0 ∙ take-append_seam lines (o ∷ []) in
          ap (λ (ls : List ObjectLine). have_name line.name (known ++ ls)) front ∙ subst (λ (p : ObjectLine). have_name p.name (known ++ lines) ≡ false) last.1 here)
    ]

-- the known objects and one more line
pub known_more : (known lines : List ObjectLine) (x : ℕ) (o : ObjectLine) → slice_get lines x ≡ Some o → (known ++ take x lines) ++ o ∷ [] ≡ known ++ take (x + 1) lines
known_more known lines x o there = append_assoc known (take x lines) (o ∷ []) ∙ ap (λ (ls : List ObjectLine). known ++ ls) (sym (take-found lines x o there))

-- ---- errors

-- an error of the texts, the types or the objects may be of what is added
pub growth-error : (known lines : List ObjectLine) (error : OpenError) → (IsStrayError error → ⊥) → IsGrowthError known lines error
growth-error known lines (Journal fault) other = tt
growth-error known lines (Text k) other = tt
growth-error known lines (Untyped x) other = tt
growth-error known lines (NoStore why) other = tt
growth-error known lines (NotExtended why) other = absurd (other tt)
growth-error known lines (NameTaken x) other = absurd (other tt)
growth-error known lines (NotMade place) other = absurd (other tt)
growth-error known lines (NotPrepared place) other = absurd (other tt)
growth-error known lines NoMemory other = tt

-- what such an error says of names
pub growth-says : (known lines : List ObjectLine) (error : OpenError) → IsGrowthError known lines error → SaysTaken known lines error
growth-says known lines (Journal fault) is = tt
growth-says known lines (Text k) is = tt
growth-says known lines (Untyped x) is = tt
growth-says known lines (NoStore why) is = tt
growth-says known lines (NotExtended why) is = tt
growth-says known lines (NameTaken x) is = is
growth-says known lines (NotMade place) is = tt
growth-says known lines (NotPrepared place) is = tt
growth-says known lines NoMemory is = tt

-- and the store doesn't refuse
pub growth-refuses : (texts : List (List ℕ)) (known lines : List ObjectLine) (old : Stored) (prepared : List Prepared) (error : OpenError) → IsGrowthError known lines error → RefusesGrowth texts lines old prepared error
growth-refuses texts known lines old prepared (Journal fault) is = tt
growth-refuses texts known lines old prepared (Text k) is = tt
growth-refuses texts known lines old prepared (Untyped x) is = tt
growth-refuses texts known lines old prepared (NoStore why) is = tt
growth-refuses texts known lines old prepared (NotExtended why) is = absurd is
growth-refuses texts known lines old prepared (NameTaken x) is = tt
growth-refuses texts known lines old prepared (NotMade place) is = tt
growth-refuses texts known lines old prepared (NotPrepared place) is = tt
growth-refuses texts known lines old prepared NoMemory is = tt

-- an error of the store itself is of no name
pub store-says : (ms : List Meaning) (old : Stored) (prepared : List Prepared) (known lines : List ObjectLine) (error : OpenError) → RefusesObjects ms old prepared error → SaysTaken known lines error
store-says ms old prepared known lines (Journal fault) why = tt
store-says ms old prepared known lines (Text k) why = tt
store-says ms old prepared known lines (Untyped x) why = tt
store-says ms old prepared known lines (NoStore error) why = tt
store-says ms old prepared known lines (NotExtended refusal) why = tt
store-says ms old prepared known lines (NameTaken x) why = absurd why
store-says ms old prepared known lines (NotMade place) why = tt
store-says ms old prepared known lines (NotPrepared place) why = tt
store-says ms old prepared known lines NoMemory why = tt
