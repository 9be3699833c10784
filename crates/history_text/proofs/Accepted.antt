-- The lines of a canonical text are accepted.
use Rattle.std.proofs.Common.{◌≡◌, ℕ, ◌+◌, ◌<◌, ◌≤◌, true, false, cond, eqb, leb, List, [], ◌∷◌, ◌++◌, length, map, Option, Some, None, refl, subst, arith, append_assoc}
use Rattle.std.specs.Prelude.{IfSome}
use Rattle.std.specs.List.{AllByRecursion, IsDistinct, list_any}
use Rattle.std.specs.Str.{bytes_eq}
use Rattle.std.proofs.lemmas.Bool.{and_from, le-leb, lt-ltb, lt-leb}
use Rattle.std.proofs.lemmas.List.Sums.{sum_by-append, sum_by-cons}
use Rattle.type_table.proofs.Elements.{each-append, none_any}
use Rattle.line_text.specs.LineTests.{lacks}
use Rattle.line_text.specs.Rules.{was_read}
use Rattle.line_text.specs.Accepted.{HasPassed, IsAccepted}
use Rattle.object_trait.specs.declared.event.Event.{Event}
use Rattle.store_text.specs.Body.{store_rules, has_size, rank_of, is_twin}
use Rattle.store_text.specs.Kept.{size_lines}
use Rattle.store_text.specs.Named.{names_of}
use Rattle.store_text.specs.Size.{may_have, IsSize}
use Rattle.store_text.specs.declared.line.Line.TheVariants.{Objects, End}
use Rattle.store_text.specs.declared.line.ObjectLine.{ObjectLine}
use Rattle.history_text.specs.Events.{history_body, line_of, is_in_range}
use Rattle.history_text.specs.Canonical.{object_line, event_line, canonical_lines, canonical_size, AreInRange}
use Rattle.history_text.proofs.Follows.{HistoryLine, count, AreUpTo, Follow, follow_append, accepted_with_end, not_late, not_late_single, ascending}
use Rattle.history_text.proofs.Names.{AreOther, size_other, distinct_first, other_more}
use Rattle.history_text.proofs.Sizes.{canonical_fits, enough_objects, files_below}

-- one more line after others
count-push : (rank : ℕ) (before : List HistoryLine) (x : HistoryLine) → count rank (before ++ x ∷ []) ≡ count rank before + cond (eqb (rank_of x) rank) 1 0
count-push rank before x =
    let test : HistoryLine → ℕ = λ y. cond (eqb (rank_of y) rank) 1 0 in
    let parts : count rank (before ++ x ∷ []) ≡ count rank before + count rank (x ∷ []) = sum_by-append test before (x ∷ []) in
    let one : count rank (x ∷ []) ≡ test x + 0 = sum_by-cons test x [] in
    omega (arith, parts, one)

-- what was among the lines still is
count-more : (rank : ℕ) (before : List HistoryLine) (x : HistoryLine) → count rank before ≤ count rank (before ++ x ∷ [])
count-more rank before x = omega (arith, count-push rank before x)

-- ---- the size

-- the size was read, where the text says one
abbrev Sized : Option ℕ → List HistoryLine → Type 0
Sized says before = has_size says ≡ true → 0 < count 0 before

-- so no object lacks it
size_there : (says : Option ℕ) (before : List HistoryLine) → Sized says before → lacks (store_rules history_body says) before 2 ≡ false
size_there None before sized = refl
size_there (Some n) before sized =
    let is_read : was_read (store_rules history_body (Some n)) before 0 ≡ true = lt-ltb 0 (count 0 before) (sized refl) in
    rw is_read refl

-- and with an object no line does
both_there : (says : Option ℕ) (before : List HistoryLine) → Sized says before → was_read (store_rules history_body says) before 2 ≡ true → lacks (store_rules history_body says) before 3 ≡ false
both_there None before sized objects = rw objects refl
both_there (Some n) before sized objects =
    let is_read : was_read (store_rules history_body (Some n)) before 0 ≡ true = lt-ltb 0 (count 0 before) (sized refl) in
    rw (is_read, objects) refl

all_there : (says : Option ℕ) (before : List HistoryLine) → Sized says before → was_read (store_rules history_body says) before 2 ≡ true → lacks (store_rules history_body says) before 4 ≡ false
all_there None before sized objects = rw objects refl
all_there (Some n) before sized objects =
    let is_read : was_read (store_rules history_body (Some n)) before 0 ≡ true = lt-ltb 0 (count 0 before) (sized refl) in
    rw (is_read, objects) refl

-- the `objects` line passes
size_follows : (says : Option ℕ) → IfSome says IsSize → Follow says [] (size_lines says)
size_follows None fits = tt
size_follows (Some n) fits = (
  record {
    in_order = refl;
    lacks_none = refl;
    misses_none = refl;
    in_range = and_from (leb 1 n) (leb n 65536) (le-leb 1 n fits.0) (le-leb n 65536 fits.1);
    has_room = refl;
    ascending = ascending (Some n) [] (Objects n);
    no_twin = none_any {E = HistoryLine} [];
  },
  tt,
)

size_up_to : (says : Option ℕ) → AreUpTo 2 (size_lines says)
size_up_to None = tt
size_up_to (Some n) = (omega arith, tt)

size_read : (says : Option ℕ) → Sized says (size_lines says)
size_read None has = absurd cc
size_read (Some n) has = omega arith

no_object_in_size : (says : Option ℕ) → count 2 (size_lines says) ≡ 0
no_object_in_size None = refl
no_object_in_size (Some n) = refl

no_event_in_size : (says : Option ℕ) → count 3 (size_lines says) ≡ 0
no_event_in_size None = refl
no_event_in_size (Some n) = refl

module _ (says : Option ℕ) where
  -- one more line leaves the size
  sized_more : (before : List HistoryLine) (x : HistoryLine) → Sized says before → Sized says (before ++ x ∷ [])
  sized_more before x sized has = omega (arith, sized has, count-more 0 before x)

  -- ---- objects

  -- an object line passes
  object_passes : (before : List HistoryLine) (o : ObjectLine) → AreUpTo 2 before → Sized says before → count 2 before < may_have says → o.file < may_have says → list_any (is_twin (object_line o)) before ≡ false
      → HasPassed (store_rules history_body says) before (object_line o)
  object_passes before o low sized room fit other = record {
    in_order = not_late says before (object_line o) low refl;
    lacks_none = size_there says before sized;
    misses_none = refl;
    in_range = lt-ltb o.file (may_have says) fit;
    has_room = lt-leb (may_have says) (count 2 before) room;
    ascending = ascending says before (object_line o);
    no_twin = other;
  }

  -- so do all
  objects_follow : (before : List HistoryLine) (objects : List ObjectLine) → AreUpTo 2 before → Sized says before → count 2 before + length objects ≤ may_have says
      → AllByRecursion (λ (o : ObjectLine). o.file < may_have says) objects → AreOther before objects → IsDistinct bytes_eq (names_of objects) → Follow says before (map object_line objects)
  objects_follow before [] low sized room fit other distinct = tt
  objects_follow before (o ∷ objects) low sized room fit other distinct =
      let first = distinct_first o objects distinct in
      let next = before ++ object_line o ∷ [] in
      let more : count 2 next ≡ count 2 before + 1 = count-push 2 before (object_line o) in (
        object_passes before o low sized (omega (arith, room)) fit.0 other.0,
        objects_follow next objects (each-append (λ x. rank_of x ≤ 2) before (object_line o ∷ []) low (omega arith, tt)) (sized_more before (object_line o) sized) (omega (arith, more, room)) fit.1
            (other_more before o objects other.1 first.0) first.1,
      )

  -- ---- events

  -- the line of an event passes
  event_passes : (before : List HistoryLine) (e : Event) → AreUpTo 3 before → Sized says before → was_read (store_rules history_body says) before 2 ≡ true → count 3 before < 1000000
      → is_in_range (may_have says) (line_of e) ≡ true → HasPassed (store_rules history_body says) before (event_line e)
  event_passes before e low sized is_read room fit = record {
    in_order = not_late says before (event_line e) low refl;
    lacks_none = both_there says before sized is_read;
    misses_none = refl;
    in_range = fit;
    has_room = lt-leb 1000000 (count 3 before) room;
    ascending = ascending says before (event_line e);
    no_twin = none_any before;
  }

  -- so do all
  events_follow : (before : List HistoryLine) (happened : List Event) → AreUpTo 3 before → Sized says before → 0 < count 2 before → count 3 before + length happened ≤ 1000000
      → AllByRecursion (λ e. is_in_range (may_have says) (line_of e) ≡ true) happened → Follow says before (map event_line happened)
  events_follow before [] low sized is_read room fit = tt
  events_follow before (e ∷ happened) low sized is_read room fit =
      let next = before ++ event_line e ∷ [] in
      let more : count 3 next ≡ count 3 before + 1 = count-push 3 before (event_line e) in (
        event_passes before e low sized (lt-ltb 0 (count 2 before) is_read) (omega (arith, room)) fit.0,
        events_follow next happened (each-append (λ x. rank_of x ≤ 3) before (event_line e ∷ []) low (omega arith, tt)) (sized_more before (event_line e) sized)
            (omega (arith, is_read, count-more 2 before (event_line e))) (omega (arith, more, room)) fit.1,
      )

  -- ---- `end`

  end_passes : (before : List HistoryLine) → AreUpTo 3 before → Sized says before → 0 < count 2 before → HasPassed (store_rules history_body says) before End
  end_passes before low sized some = record {
    in_order = not_late_single says before low;
    lacks_none = all_there says before sized (lt-ltb 0 (count 2 before) some);
    misses_none = refl;
    in_range = refl;
    has_room = refl;
    ascending = ascending says before End;
    no_twin = none_any before;
  }

-- ---- all together

-- the ranks of the objects' lines
objects_up_to : (objects : List ObjectLine) → AreUpTo 2 (map object_line objects)
objects_up_to [] = tt
objects_up_to (o ∷ objects) = (omega arith, objects_up_to objects)

-- a bound on ranks may be raised
up_to_more : (lines : List HistoryLine) → AreUpTo 2 lines → AreUpTo 3 lines
up_to_more [] h = tt
up_to_more (x ∷ lines) h = (omega (arith, h.0), up_to_more lines h.1)

-- the ranks of the events' lines
events_up_to : (happened : List Event) → AreUpTo 3 (map event_line happened)
events_up_to [] = tt
events_up_to (e ∷ happened) = (omega arith, events_up_to happened)

-- how many of the objects' lines are `object` lines
object_count : (objects : List ObjectLine) → count 2 (map object_line objects) ≡ length objects
object_count [] = refl
object_count (o ∷ objects) =
    let one : count 2 (map object_line (o ∷ objects)) ≡ 1 + count 2 (map object_line objects) = sum_by-cons (λ y. cond (eqb (rank_of y) 2) 1 0) (object_line o) (map object_line objects) in
    omega (arith, one, object_count objects)

-- none of them is an event's
no_event : (objects : List ObjectLine) → count 3 (map object_line objects) ≡ 0
no_event [] = refl
no_event (o ∷ objects) =
    let one : count 3 (map object_line (o ∷ objects)) ≡ 0 + count 3 (map object_line objects) = sum_by-cons (λ y. cond (eqb (rank_of y) 3) 1 0) (object_line o) (map object_line objects) in
    omega (arith, one, no_event objects)

-- the counts of lines and others
both_counts : (rank : ℕ) (xs ys : List HistoryLine) → count rank (xs ++ ys) ≡ count rank xs + count rank ys
both_counts rank xs ys = sum_by-append (λ x. cond (eqb (rank_of x) rank) 1 0) xs ys

-- the lines of a history whose numbers and counts are in their ranges
pub canonical_accepted : (objects : List ObjectLine) (happened : List Event) → AreInRange objects happened → IsAccepted (store_rules history_body (canonical_size objects)) (canonical_lines objects happened)
canonical_accepted objects happened h =
    let says = canonical_size objects in
    let first : List HistoryLine = size_lines says in
    let front : List HistoryLine = map object_line objects in
    let body : List HistoryLine = map event_line happened in
    let up_front = size_up_to says in
    let low_front : AreUpTo 2 (first ++ front) = each-append (λ x. rank_of x ≤ 2) first front up_front (objects_up_to objects) in
    let front_low : AreUpTo 3 (first ++ front) = up_to_more (first ++ front) low_front in
    let low : AreUpTo 3 ((first ++ front) ++ body) = each-append (λ x. rank_of x ≤ 3) (first ++ front) body front_low (events_up_to happened) in
    let objects_in : count 2 (first ++ front) ≡ count 2 first + count 2 front = both_counts 2 first front in
    let events_in : count 3 (first ++ front) ≡ count 3 first + count 3 front = both_counts 3 first front in
    let some : 0 < count 2 (first ++ front) = omega (arith, objects_in, object_count objects, h.some_object) in
    let still : count 2 ((first ++ front) ++ body) ≡ count 2 (first ++ front) + count 2 body = both_counts 2 (first ++ front) body in
    let sized = size_read says in
    let sized_front : has_size says ≡ true → 0 < count 0 (first ++ front) = λ has. omega (arith, sized has, both_counts 0 first front) in
    let sized_all : has_size says ≡ true → 0 < count 0 ((first ++ front) ++ body) = λ has. omega (arith, sized_front has, both_counts 0 (first ++ front) body) in
    let by_size : Follow says [] first = size_follows says (canonical_fits objects h.some_object h.objects_fit h.files_fit) in
    let by_objects : Follow says first front = objects_follow says first objects up_front sized (omega (arith, no_object_in_size says, enough_objects objects)) (files_below objects) (size_other says objects) h.named.distinct in
    let by_events : Follow says (first ++ front) body = events_follow says (first ++ front) happened front_low sized_front some (omega (arith, events_in, no_event_in_size says, no_event objects, h.events_fit)) h.numbers_fit in
    let by_end : Follow says ((first ++ front) ++ body) (End ∷ []) = (end_passes says ((first ++ front) ++ body) low sized_all (omega (arith, still, some)), tt) in
    let all : Follow says [] (((first ++ front) ++ body) ++ End ∷ []) = follow_append says [] ((first ++ front) ++ body) (End ∷ []) (follow_append says [] (first ++ front) body (follow_append says [] first front by_size by_objects) by_events) by_end in
    let same : ((first ++ front) ++ body) ++ End ∷ [] ≡ canonical_lines objects happened = simp append_assoc in
    subst (IsAccepted (store_rules history_body says)) same (accepted_with_end says ((first ++ front) ++ body) low all)
