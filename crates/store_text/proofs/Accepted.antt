-- What is known of the lines of an accepted text.
use Rattle.std.proofs.Common.{◌≡◌, ℕ, zero, suc, ◌+◌, ◌<◌, ◌≤◌, Bool, true, false, ◌&&◌, cond, eqb, leb, List, [], ◌∷◌, length, Option, Some, None, refl, sym, ap, subst, ◌∙◌, arith}
use Rattle.std.specs.Prelude.{IfSome}
use Rattle.std.specs.List.{slice_get, AllByRecursion}
use Rattle.std.specs.Option.{option_to_list}
use Rattle.std.proofs.lemmas.Bool.{leb-true, leb-false, ltb-true, ne_eqb, and_parts}
use Rattle.std.proofs.lemmas.List.Sums.{sum_by-cons}
use Rattle.std.proofs.lemmas.Option.{none-some, same_Some}
use Rattle.type_table.proofs.Elements.{none_any}
use Rattle.type_table.specs.declared.kind.Kind.{Kind}
use Rattle.line_text.specs.Rules.{count_at}
use Rattle.line_text.specs.LineTests.{is_full}
use Rattle.line_text.specs.Accepted.{HasPassed, AreInOrder}
use Rattle.line_text.specs.Plain.{TakesMore, KeepsPlainly}
use Rattle.store_text.specs.PlainEntry.{KeepsEntry}
use Rattle.store_text.specs.Body.{Body, store_rules, rank_of, object_lines, entry_lines, is_in_range}
use Rattle.store_text.specs.Named.{AreNamed}
use Rattle.store_text.specs.Said.{said_limits, said_objects, entries_of}
use Rattle.store_text.specs.Size.{may_have, IsSize}
use Rattle.store_text.specs.Kept.{lines_of_parts, kept_store_lines, limit_of}
use Rattle.store_text.specs.Parts.{IsPartsOf, AreFit}
use Rattle.store_text.specs.declared.kept.KeptParts.{KeptParts}
use Rattle.store_text.specs.declared.line.ObjectLine.{ObjectLine}
use Rattle.store_text.specs.declared.parts.Parts.{Parts}
use Rattle.store_text.specs.declared.line.Line.{Line}
use Rattle.store_text.specs.declared.line.Line.TheVariants.{Objects, Max, Object, Entry, End}
use Rattle.store_text.proofs.Keeping.{entry_more, sizes_said, limits_said, objects_said, entries_said}

-- each line's numbers are in range
abbrev pub AreInRange : {A : Type 0} → Body A → Option ℕ → List (Line A) → Type 0
AreInRange {A} b says lines = (n : ℕ) (x : Line A) → slice_get lines n ≡ Some x → is_in_range b says x ≡ true

pub in_range : {A : Type 0} (b : Body A) (says : Option ℕ) (lines : List (Line A)) → AreInOrder (store_rules b says) lines → AreInRange b says lines
in_range b says lines order n x at = (order.passed n x at).in_range

module _ {A : Type 0} (b : Body A) (says : Option ℕ) where
  -- so are the numbers of the entries
  pub entries_in_range : (lines : List (Line A)) → AreInRange b says lines → AllByRecursion (λ x. b.is_in_range (may_have says) x ≡ true) (entries_of lines)
  entries_in_range [] h = tt
  entries_in_range (Objects n ∷ lines) h = entries_in_range lines (λ n x at. h (suc n) x at)
  entries_in_range (Max most ∷ lines) h = entries_in_range lines (λ n x at. h (suc n) x at)
  entries_in_range (Object kind file name ∷ lines) h = entries_in_range lines (λ n x at. h (suc n) x at)
  entries_in_range (Entry x ∷ lines) h = (h 0 (Entry x) refl, entries_in_range lines (λ n y at. h (suc n) y at))
  entries_in_range (End ∷ lines) h = entries_in_range lines (λ n x at. h (suc n) x at)

  -- and the limits
  limits_in_range : (lines : List (Line A)) → AreInRange b says lines → AllByRecursion (λ most. (leb 2 most && leb most 1000000) ≡ true) (said_limits lines)
  limits_in_range [] h = tt
  limits_in_range (Objects n ∷ lines) h = limits_in_range lines (λ n x at. h (suc n) x at)
  limits_in_range (Max most ∷ lines) h = (h 0 (Max most) refl, limits_in_range lines (λ n y at. h (suc n) y at))
  limits_in_range (Object kind file name ∷ lines) h = limits_in_range lines (λ n x at. h (suc n) x at)
  limits_in_range (Entry x ∷ lines) h = limits_in_range lines (λ n x at. h (suc n) x at)
  limits_in_range (End ∷ lines) h = limits_in_range lines (λ n x at. h (suc n) x at)

-- ---- lines of a rank

-- where there is a line of the limit's rank, there is a limit
some_limit : {A : Type 0} (lines : List (Line A)) (n : ℕ) (x : Line A) → slice_get lines n ≡ Some x → rank_of x ≡ 1 → 0 < length (said_limits lines)
some_limit [] n x at ranked = absurd (none-some x at)
some_limit (Objects size ∷ lines) zero x at ranked = let other : rank_of x ≡ 0 = sym (ap rank_of (same_Some (Objects size) x at)) in absurd (omega (arith, other, ranked))
some_limit (Objects size ∷ lines) (suc n) x at ranked = some_limit lines n x at ranked
some_limit (Max most ∷ lines) n x at ranked = omega arith
some_limit (Object kind file name ∷ lines) zero x at ranked = let other : rank_of x ≡ 2 = sym (ap rank_of (same_Some (Object kind file name) x at)) in absurd (omega (arith, other, ranked))
some_limit (Object kind file name ∷ lines) (suc n) x at ranked = some_limit lines n x at ranked
some_limit (Entry y ∷ lines) zero x at ranked = let other : rank_of x ≡ 3 = sym (ap rank_of (same_Some (Entry y) x at)) in absurd (omega (arith, other, ranked))
some_limit (Entry y ∷ lines) (suc n) x at ranked = some_limit lines n x at ranked
some_limit (End ∷ lines) zero x at ranked = let other : rank_of x ≡ 4 = sym (ap rank_of (same_Some End x at)) in absurd (omega (arith, other, ranked))
some_limit (End ∷ lines) (suc n) x at ranked = some_limit lines n x at ranked

-- ---- the size and the limit

-- a list of one number at most that has some
one_of : (o : Option ℕ) → 0 < length (option_to_list o) → option_to_list o ≡ limit_of o ∷ []
one_of None some = absurd (omega (arith, some))
one_of (Some n) some = refl

module _ {A : Type 0} (b : Body A) (lines : List (Line A)) where
  module _ (says : Option ℕ) (order : AreInOrder (store_rules b says) lines) (has : b.has_max ≡ true) where
    -- they say its limit, where it has one
    pub limit_is : (max : Option ℕ) → said_limits lines ≡ option_to_list max → said_limits lines ≡ limit_of max ∷ []
    limit_is max said =
        let first = order.needed.each 1 (omega arith) (rw has refl) in
        let some : 0 < length (option_to_list max) = omega (arith, some_limit lines first.place first.item first.at first.ranked, ap length said) in
        said ∙ one_of max some

    -- and it is in its range
    pub limit_fits : (most : ℕ) → said_limits lines ≡ most ∷ [] → (2 ≤ most) × (most ≤ 1000000)
    limit_fits most said =
        let ranges : AllByRecursion (λ m. (leb 2 m && leb m 1000000) ≡ true) (most ∷ []) = subst (AllByRecursion (λ m. (leb 2 m && leb m 1000000) ≡ true)) said (limits_in_range b says lines (in_range b says lines order)) in
        let ends = and_parts (leb 2 most) (leb most 1000000) ranges.0 in
        (leb-true 2 most ends.0, leb-true most 1000000 ends.1)

-- a text may have 65,536 objects at most
pub few_may_have : (says : Option ℕ) → IfSome says IsSize → may_have says ≤ 65536
few_may_have None fits = omega arith
few_may_have (Some n) fits = fits.1

-- ---- counts

-- an `object` line counts as one
object_count : {A : Type 0} (b : Body A) (says : Option ℕ) (lines : List (Line A)) → count_at (store_rules b says) lines 2 ≡ length (said_objects lines)
object_count b says [] = refl
object_count b says (Objects n ∷ lines) = object_count b says lines
object_count b says (Max most ∷ lines) = object_count b says lines
object_count b says (Object kind file name ∷ lines) =
    let one : count_at (store_rules b says) (Object kind file name ∷ lines) 2 ≡ 1 + count_at (store_rules b says) lines 2 = sum_by-cons (λ x. cond (eqb (rank_of x) 2) 1 0) (Object kind file name) lines in
    omega (arith, one, object_count b says lines)
object_count b says (Entry x ∷ lines) = object_count b says lines
object_count b says (End ∷ lines) = object_count b says lines

-- so does the line of an entry
entry_count : {A : Type 0} (b : Body A) (says : Option ℕ) (lines : List (Line A)) → count_at (store_rules b says) lines 3 ≡ length (entries_of lines)
entry_count b says [] = refl
entry_count b says (Objects n ∷ lines) = entry_count b says lines
entry_count b says (Max most ∷ lines) = entry_count b says lines
entry_count b says (Object kind file name ∷ lines) = entry_count b says lines
entry_count b says (Entry x ∷ lines) =
    let one : count_at (store_rules b says) (Entry x ∷ lines) 3 ≡ 1 + count_at (store_rules b says) lines 3 = sum_by-cons (λ y. cond (eqb (rank_of y) 3) 1 0) (Entry x) lines in
    omega (arith, one, entry_count b says lines)
entry_count b says (End ∷ lines) = entry_count b says lines

-- an object that passed its tests had room
pub object_room : {K A : Type 0} (b : Body A) (says : Option ℕ) (said : K → List A) (k : KeptParts K) (kind : Kind) (file : ℕ) (name : Option (List ℕ)) → HasPassed (store_rules b says) (kept_store_lines said k) (Object kind file name) → length k.objects.lines.items < may_have says
object_room b says said k kind file name h =
    let free : leb (may_have says) (count_at (store_rules b says) (kept_store_lines said k) 2) ≡ false = h.has_room in
    omega (arith, leb-false (may_have says) (count_at (store_rules b says) (kept_store_lines said k) 2) free, object_count b says (kept_store_lines said k), ap length (objects_said k.size k.max k.objects.lines.items (said k.entries) k.has_ended))

-- so has an entry where their section isn't full
pub entry_room : {K A : Type 0} (b : Body A) (says : Option ℕ) (said : K → List A) (k : KeptParts K) → is_full (Some entry_lines) (count_at (store_rules b says) (kept_store_lines said k) 3) ≡ false → length (said k.entries) < 1000000
entry_room b says said k free =
    omega (arith, leb-false 1000000 (count_at (store_rules b says) (kept_store_lines said k) 3) free, entry_count b says (kept_store_lines said k), ap length (entries_said k.size k.max k.objects.lines.items (said k.entries) k.has_ended))

-- ---- plain lines

-- an entry that needs another has one before it
has_another : (wants : Bool) (n : ℕ) → 0 < n → (wants && eqb n 0) ≡ false
has_another true n some = ne_eqb n 0 (λ e. omega (arith, some))
has_another false n some = refl

-- an entry that was kept after the others is a line that was kept after the others
pub keeps_entry : {K A : Type 0} (b : Body A) (says : Option ℕ) (said : K → List A) (k : KeptParts K) (text behind : List ℕ) (after : List A) → TakesMore (store_rules b says) (kept_store_lines said k) 3
    → KeepsEntry b (may_have says) text behind (said k.entries) after
    → KeepsPlainly (store_rules b says) 3 text behind (kept_store_lines said k) (lines_of_parts k.size k.max k.objects.lines.items after k.has_ended)
keeps_entry b says said k text behind after takes h = record {
  item = Entry h.entry;
  says = h.says says;
  place = refl;
  passed = record {
    in_order = takes.in_order (Entry h.entry) refl;
    lacks_none = takes.lacks_none;
    misses_none = has_another (b.wants_another h.entry) (count_at (store_rules b says) (kept_store_lines said k) 3) takes.some;
    in_range = h.in_range;
    has_room = takes.has_room;
    ascending = takes.ascending (Entry h.entry) refl;
    no_twin = none_any (kept_store_lines said k);
  };
  kept = rw h.kept (entry_more b says k.size k.max k.objects.lines.items (said k.entries) k.has_ended h.entry (takes.in_order (Entry h.entry) refl));
}

-- ---- objects

-- where there is a line of the objects' rank, there is an object
some_object : {A : Type 0} (lines : List (Line A)) (n : ℕ) (x : Line A) → slice_get lines n ≡ Some x → rank_of x ≡ 2 → 0 < length (said_objects lines)
some_object [] n x at ranked = absurd (none-some x at)
some_object (Objects size ∷ lines) zero x at ranked = let other : rank_of x ≡ 0 = sym (ap rank_of (same_Some (Objects size) x at)) in absurd (omega (arith, other, ranked))
some_object (Objects size ∷ lines) (suc n) x at ranked = some_object lines n x at ranked
some_object (Max most ∷ lines) zero x at ranked = let other : rank_of x ≡ 1 = sym (ap rank_of (same_Some (Max most) x at)) in absurd (omega (arith, other, ranked))
some_object (Max most ∷ lines) (suc n) x at ranked = some_object lines n x at ranked
some_object (Object kind file name ∷ lines) n x at ranked = omega arith
some_object (Entry y ∷ lines) zero x at ranked = let other : rank_of x ≡ 3 = sym (ap rank_of (same_Some (Entry y) x at)) in absurd (omega (arith, other, ranked))
some_object (Entry y ∷ lines) (suc n) x at ranked = some_object lines n x at ranked
some_object (End ∷ lines) zero x at ranked = let other : rank_of x ≡ 4 = sym (ap rank_of (same_Some End x at)) in absurd (omega (arith, other, ranked))
some_object (End ∷ lines) (suc n) x at ranked = some_object lines n x at ranked

-- the files of the objects are below the number that the text may have
files_in_range : {A : Type 0} (b : Body A) (says : Option ℕ) (lines : List (Line A)) → AreInRange b says lines → AllByRecursion (λ (o : ObjectLine). o.file < may_have says) (said_objects lines)
files_in_range b says [] h = tt
files_in_range b says (Objects n ∷ lines) h = files_in_range b says lines (λ n x at. h (suc n) x at)
files_in_range b says (Max most ∷ lines) h = files_in_range b says lines (λ n x at. h (suc n) x at)
files_in_range b says (Object kind file name ∷ lines) h = (ltb-true file (may_have says) (h 0 (Object kind file name) refl), files_in_range b says lines (λ n x at. h (suc n) x at))
files_in_range b says (Entry x ∷ lines) h = files_in_range b says lines (λ n y at. h (suc n) y at)
files_in_range b says (End ∷ lines) h = files_in_range b says lines (λ n x at. h (suc n) x at)

-- ---- all together

-- parts that were kept of accepted lines are theirs
pub are_parts_of : {K A : Type 0} (b : Body A) (says : Option ℕ) (said : K → List A) (k : KeptParts K) (parts : Parts K) → AreInOrder (store_rules b says) (kept_store_lines said k)
    → parts.size ≡ k.size → parts.max ≡ limit_of k.max → parts.objects.items ≡ k.objects.lines.items → parts.entries ≡ k.entries → IsPartsOf b said (kept_store_lines said k) parts
are_parts_of b says said k parts order size max objects entries = record {
  size = sizes_said k.objects.lines.items (said k.entries) k.has_ended k.size k.max ∙ sym (ap option_to_list size);
  max = λ h. limit_is b (kept_store_lines said k) says order h k.max (limits_said k.objects.lines.items (said k.entries) k.has_ended k.size k.max) ∙ ap (λ most. most ∷ []) (sym max);
  objects = objects ∙ sym (objects_said k.size k.max k.objects.lines.items (said k.entries) k.has_ended);
  entries = ap said entries ∙ sym (entries_said k.size k.max k.objects.lines.items (said k.entries) k.has_ended);
}

-- and each of their numbers and counts is in its range
pub are_fit : {K A : Type 0} (b : Body A) (says : Option ℕ) (said : K → List A) (lines : List (Line A)) (parts : Parts K) → IfSome says IsSize → parts.size ≡ says → AreInOrder (store_rules b says) lines → IsPartsOf b said lines parts → AreNamed parts.objects.items
    → AreFit b said parts
are_fit b says said lines parts fits is order are named =
    let ranges = in_range b says lines order in
    let first = order.needed.each 2 (omega arith) refl in
    let count : length (said parts.entries) ≡ length (entries_of lines) = ap length are.entries in
    record {
      size = rw is fits;
      max = λ h. limit_fits b lines says order h parts.max (are.max h);
      some_object = rw are.objects (some_object lines first.place first.item first.at first.ranked);
      objects = rw (is, are.objects, ← object_count b says lines) (order.limits 2 (may_have says) (object_lines (may_have says)) refl refl);
      files = rw (is, are.objects) (files_in_range b says lines ranges);
      named = named;
      entries = rw (count, ← entry_count b says lines) (order.limits 3 1000000 entry_lines refl refl);
      in_range = rw (is, are.entries) (entries_in_range b says lines ranges);
    }
