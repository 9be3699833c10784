-- A store that has begun anew with more objects is ahead of its journal: their types are those of a file that has their texts and lines too.
use Rattle.std.proofs.Common.{◌≡◌, ◌↔◌, ◌∙◌, Bool, true, inl, inr, ℕ, ◌+◌, ◌-◌, ◌<◌, zero, suc, List, [], ◌∷◌, ◌++◌, map, length, get_or, Some, refl, sym, ap, subst, arith}
use Rattle.std.specs.declared.alloc.Global.{Global}
use Rattle.std.specs.declared.vec.Vec.{Vec}
use Rattle.std.specs.Prelude.{slice_get}
use Rattle.std.proofs.lemmas.Bool.{cases_lt}
use Rattle.std.proofs.lemmas.List.{length-append, length-map, map-append}
use Rattle.std.proofs.lemmas.Option.{slice_get-get_or, slice_get_within}
use Rattle.type_table.proofs.Elements.{found-front, slice_get-front}
use Rattle.sqlite_trees.specs.declared.store.Store.{Ghosts}
use Rattle.declared_types.specs.declared.declared_type.Declaration.{Declaration}
use Rattle.declared_types.specs.Declarations.{file_of, IsDeclaredFor}
use Rattle.table_checker.specs.At.{AtIsStrong, checked_at, IsInside}
use Rattle.table_checker.specs.Checked.{Checked, IsChecked}
use Rattle.object_types.specs.Types.{AreTypesOf}
use Rattle.object_types.proofs.CheckedTypes.{types_checked}
use Rattle.object_types.proofs.Pairs.{Each}
use Rattle.serial_order.specs.Epochs.{types_at}
use Rattle.serial_order.proofs.EpochTypes.{length-types_at}
use Rattle.carried_orders.specs.Orders.{AreStrong}
use Rattle.store.specs.Retraces.{IsTracedHistory}
use Rattle.store_laws.specs.Stored.{Stored}
use Rattle.store_text.specs.declared.line.ObjectLine.{ObjectLine}
use Rattle.journal.specs.declared.prepared_row.Prepared.{Prepared}
use Rattle.journal.specs.declared.state_row.FirstState.{FirstState}
use Rattle.journal.specs.Contents.{Contents, extended, from_states}
use Rattle.journal.specs.Outcomes.{no_outcomes}
use Rattle.journal.specs.Journal.{Clean, written}
use Rattle.durable_store.specs.declared.durable.Durable.{Durable}
use Rattle.durable_store.specs.declared.object_names.ObjectNames.{ObjectNames}
use Rattle.durable_store.specs.Names.{IndexesNames}
use Rattle.durable_store.specs.Begun.{AreRead}
use Rattle.durable_store.specs.Durable.{IsDurable}
use Rattle.durable_store.specs.Epochs.{firsts}
use Rattle.durable_store.specs.Held.{moved_among}
use Rattle.durable_store.specs.Growth.{AreAdded, ArePlaced, HavePlaces}
use Rattle.durable_store.specs.GrowthParts.{ArePlacesOf, IsAheadBy}
use Rattle.durable_store.specs.Types.{AreTypes, HasTypes, IsTypeAt}
use Rattle.durable_store.proofs.Begun.{are-types}
use Rattle.durable_store.proofs.Carried.{IsCarried, has-kept, over-by-zero, prepared-over}
use Rattle.durable_store.proofs.New.{at-own, first-of}
use Rattle.durable_store.proofs.StrongOver.{strong-grown}

-- ---- what is added

-- types that were accepted begin at their initial states
pub added-of : (texts : List (List ℕ)) (declared : List Declaration) (lines : List ObjectLine) (types : List Checked) → AreRead texts declared → AreTypesOf declared lines types → AreAdded texts lines types
added-of texts declared lines types read of =
    let said : Contents = record { events = []; headers = []; types = texts; objects = lines; states = firsts types; prepared = []; outcomes = no_outcomes } in
    are-types said declared types types read of (length-map types first-of ∙ of.as_many) of.as_many (at-own types (types_checked declared lines types of))

-- a line with the place that stands at its place
abbrev pub IsPlacedAt : List ℕ → ObjectLine → ObjectLine → Type 0
IsPlacedAt places line at = (at.kind ≡ line.kind) × (at.name ≡ line.name) × (slice_get places line.file ≡ Some at.file)

-- a text at its place among others
abbrev pub IsAmongAt : List (List ℕ) → List ℕ → ℕ → Type 0
IsAmongAt all text place = slice_get all place ≡ Some text

-- and among these and more behind them
pub among-more : (all more : List (List ℕ)) (texts : List (List ℕ)) (places : List ℕ) → Each (IsAmongAt all) texts places → Each (IsAmongAt (all ++ more)) texts places
among-more all more texts places each k text place there at = found-front all more place text (each k text place there at)

-- places of places
pub placed-of : (texts all : List (List ℕ)) (places : List ℕ) (lines placed : List ObjectLine) → HavePlaces texts all places → ArePlacesOf places lines placed → ArePlaced texts all lines placed
placed-of texts all places lines placed have of = record {
  as_many = of.as_many;
  each = λ x line at there there-too.
      let (kind, name, place) = of.each x line at there there-too in
      let low : line.file < length texts = omega (arith, slice_get_within places line.file at.file place, have.as_many) in
      let text = get_or texts line.file [] in
      let is : slice_get texts line.file ≡ Some text = slice_get-get_or texts line.file [] low in
      (kind, name, have.each line.file at.file text is place ∙ sym is);
}

-- a type by its text's place among all texts
type-placed : (texts all : List (List ℕ)) (was o : ObjectLine) (first : FirstState) (c : Checked) → o.kind ≡ was.kind → slice_get all o.file ≡ slice_get texts was.file → IsTypeAt texts was first c
    → IsTypeAt all o first c
type-placed texts all was o first c kind text of =
    let file = file_of of.declaration in
    record {
      text = of.text;
      there = text ∙ of.there;
      declaration = of.declaration;
      declares = of.declares;
      kinds = subst (λ k. IsDeclaredFor k of.declaration) (sym kind) of.kinds;
      checked = subst (λ k. IsChecked (let it : Checked = record { kind = k; file = file } in it)) (sym kind) of.checked;
      inside = subst (λ k. IsInside (let it : Checked = record { kind = k; file = file } in it) first.state) (sym kind) of.inside;
      is = of.is ∙ ap (λ k. checked_at (let it : Checked = record { kind = k; file = file } in it) first.state) (sym kind);
    }

-- what is added has its types by their places among all texts
pub added-placed : (texts all : List (List ℕ)) (lines placed : List ObjectLine) (types : List Checked) → ArePlaced texts all lines placed → AreAdded texts lines types → AreAdded all placed types
added-placed texts all lines placed types at are = record {
  as_many = are.as_many ∙ sym at.as_many;
  as_many_states = are.as_many_states ∙ sym at.as_many;
  each = λ x o first type line state there.
      let low : x < length lines = omega (arith, slice_get_within placed x o line, at.as_many) in
      let was = get_or lines x o in
      let line-was : slice_get lines x ≡ Some was = slice_get-get_or lines x o low in
      let (kind, name, text) = at.each x was o line-was line in
      type-placed texts all was o first type kind text (are.each x was first type line-was state there);
}

-- types are those of a file with more texts
more-texts : (texts fresh : List (List ℕ)) (lines : List ObjectLine) (states : List FirstState) (types : List Checked) → AreTypes texts lines states types → AreTypes (texts ++ fresh) lines states types
more-texts texts fresh lines states types are = record {
  as_many = are.as_many;
  as_many_states = are.as_many_states;
  each = λ x o first type line state there.
      let of = are.each x o first type line state there in
      type-placed texts (texts ++ fresh) o o first type refl (found-front texts fresh o.file of.text of.there ∙ sym of.there) of;
}

-- ---- one list behind another

-- what is at a place behind the first list
behind : {A : Type 0} (xs ys : List A) (x k : ℕ) (d : A) → x ≡ length xs + k → slice_get (xs ++ ys) x ≡ Some d → slice_get ys k ≡ Some d
behind [] ys x k d is there = subst (λ n. slice_get ys n ≡ Some d) (omega (arith, is)) there
behind (y ∷ xs) ys zero k d is there = absurd (omega (arith, is))
behind (y ∷ xs) ys (suc x) k d is there = behind xs ys x k d (omega (arith, is)) there

-- and in it
before : {A : Type 0} (xs ys : List A) (x : ℕ) (d : A) → x < length xs → slice_get (xs ++ ys) x ≡ Some d → slice_get xs x ≡ Some d
before xs ys x d low there = sym (slice_get-front xs ys x low) ∙ there

-- types of the objects of two lists, one behind the other
types-behind : (texts : List (List ℕ)) (lines more : List ObjectLine) (states first_states : List FirstState) (types added : List Checked) → AreTypes texts lines states types
    → AreTypes texts more first_states added → AreTypes texts (lines ++ more) (states ++ first_states) (types ++ added)
types-behind texts lines more states first_states types added are ones = record {
  as_many = omega (arith, length-append types added, length-append lines more, are.as_many, ones.as_many);
  as_many_states = omega (arith, length-append states first_states, length-append lines more, are.as_many_states, ones.as_many_states);
  each = λ x o first type line state there.
      elim (cases_lt x (length lines)) [
        | inl low ↦ are.each x o first type (before lines more x o low line) (before states first_states x first (omega (arith, low, are.as_many_states)) state)
            (before types added x type (omega (arith, low, are.as_many)) there)
        | inr past ↦ (
            let k = x - length lines in
            let is : x ≡ length lines + k = omega (arith, past) in
            ones.each k o first type (behind lines more x k o is line) (behind states first_states x k first (omega (arith, is, are.as_many_states)) state)
            (behind types added x k type (omega (arith, is, are.as_many)) there))
      ];
}

-- ---- a store that is ahead

-- the types of a file that has grown
has-grown : (c : Contents) (fresh : List (List ℕ)) (placed : List ObjectLine) (types added : List Checked) → HasTypes (from_states c (firsts types)) types → AreAdded (c.types ++ fresh) placed added
    → HasTypes (extended c fresh placed (firsts (types ++ added))) (types ++ added)
has-grown c fresh placed types added has are =
    subst (λ ss. AreTypes (c.types ++ fresh) (c.objects ++ placed) ss (types ++ added)) (sym (map-append first-of types added))
    (types-behind (c.types ++ fresh) c.objects placed (firsts types) (firsts added) types added (more-texts c.types fresh c.objects (firsts types) types has) are)

-- after a new epoch of the store alone
pub ahead-by : {S : Type 0} (g : Ghosts S) (d : Durable S) (those : List ℕ) (new : Stored) (ps : Vec Prepared Global) (names : ObjectNames) (still : Bool) (fresh : List (List ℕ)) (placed : List ObjectLine) (added : List Checked)
    → AtIsStrong → IsDurable g d → IsCarried g d those added new → ps.items ≡ map (moved_among those) d.prepared.items → IsTracedHistory new → (still ≡ true) ↔ ((d.strong ≡ true) × AreStrong added)
    → length placed ≡ length added → (Clean g d.journal → AreAdded ((written g d.journal).types ++ fresh) placed added) → (Clean g d.journal → IndexesNames ((written g d.journal).objects ++ placed) names)
    → IsAheadBy g fresh placed (record { store = new; journal = d.journal; names = names; prepared = ps; strong = still })
ahead-by g d those new ps names still fresh placed added at sound carried moved traced stays as-many are named =
    let begins = carried.begins in
    let now = types_at d.store.types begins.kept in
    let types : new.types ≡ now ++ added = ap (λ (s : Stored). s.types) begins.is in
    let long : length now ≡ length d.store.types = length-types_at d.store.types begins.kept begins.epoch.as_many in
    record {
      journal = sound.journal;
      settled = sound.settled;
      limit = ap (λ (s : Stored). s.limits) begins.is ∙ sound.limit;
      remembered = ap (λ (s : Stored). s.forgotten) begins.is;
      by_zero = over-by-zero g d those added new carried;
      own = traced;
      strong = subst (λ ts. (still ≡ true) ↔ AreStrong ts) (sym types) (strong-grown at d.store.types begins.kept added d.strong still begins.epoch.as_many sound.strong stays);
      named = named;
      some = omega (arith, ap length types, length-append now added, as-many);
      as_many = λ clean. omega (arith, ap length types, length-append now added, as-many, long, (sound.types clean).as_many, (sound.types clean).as_many_states);
      objects = λ clean. sym (sound.types clean).as_many_states;
      types = λ clean.
          subst (λ ts. HasTypes (extended (written g d.journal) fresh placed (firsts ts)) ts) (sym types)
          (has-grown (written g d.journal) fresh placed now added (has-kept (written g d.journal) d.store carried.worker those added new begins (sound.types clean)) (are clean));
      prepared = prepared-over g d those added new ps.items sound carried moved;
    }
