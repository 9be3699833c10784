-- What is kept of transactions that have keys, in a file.
use Rattle.std.proofs.Common.{◌≡◌, ℕ, ◌+◌, ◌-◌, ◌<◌, ◌≤◌, List, [], length, map, Some, None, false, true, refl, sym, ap, subst, ◌∙◌, IsTrue, inl, inr, lit<, arith, Bool, cond, nat_lt, if◌then◌else◌}
use Rattle.std.specs.Ordering.{is_eq, nat_cmp}
use Rattle.std.specs.BTreeMap.{BTreeMap, get}
use Rattle.std.proofs.Math.Path.{fun_ext}
use Rattle.std.proofs.lemmas.Bool.{cases_eq}
use Rattle.sqlite_value.specs.Order.{Row}
use Rattle.sqlite_trees.specs.Objects.{catalog_tree}
use Rattle.sqlite_trees.specs.Tree.{put_row, Trees}
use Rattle.sqlite_trees.specs.View.{View, SetsTree}
use Rattle.transaction_key.specs.TransactionKey.{key_place}
use Rattle.event_text.specs.EventText.{AreShort}
use Rattle.journal.specs.declared.header.Header.{Header}
use Rattle.journal.specs.declared.numbers.Numbers.{Numbers}
use Rattle.journal.specs.declared.outcome_index.OutcomeIndex.{OutcomeIndex}
use Rattle.journal.specs.declared.outcome_row.KeyedOutcome.{KeyedOutcome}
use Rattle.journal.specs.Numbers.{AreCounted, first_numbers, numbers_in, numbers_row}
use Rattle.journal.specs.OutcomeRow.{outcome_row}
use Rattle.journal.specs.PlaceRow.{pointer_row}
use Rattle.journal.specs.OutcomeIndex.{CountsOutcomes, KnowsOutcomes, awaiting_from, kept_from, kept_row, last_number, led_to, numbered_from, placed, row_at}
use Rattle.journal.specs.Outcomes.{let_go, no_outcomes, outcomes_by, outcomes_in, outcomes_of, staying}
use Rattle.journal.specs.EventRow.{event_told, row_starts}
use Rattle.journal.specs.Contents.{Contents, IsFile, IsOlderThan, contents_by, contents_of, keyed_format, preparing_format, with_outcome, with_outcomes}
use Rattle.journal.specs.EmptyTable.{Empties}
use Rattle.journal.specs.Swept.{Frees, place_number}
use Rattle.journal.specs.Tables.{IsUnused, OnlyReads}
use Rattle.journal.specs.Journal.{HasTables, IsKeptFile, IsNamedOnce}
use Rattle.journal.proofs.OutcomeNumbers.{kept-more, knows-more, later-places, knows-still, knows-written, let-go-first, let-go-none-new, number-freed-numbers, number-freed-places, number-freed-same, outcomes-known, place-freed-numbers, place-freed-places, place-freed-same, pointed-numbers, pointed-places, pointed-same, renumbered, renumbered-places, round-same}

-- where nothing is, nothing is kept
empty-numbers : numbers_in [] ≡ first_numbers
unfolding numbers_in
empty-numbers = refl

empty-rows : kept_row [] ≡ (λ n. None)
unfolding kept_row kept_from last_number placed row_at
empty-rows = fun_ext (λ p. ap (λ (k : Numbers). kept_from [] (awaiting_from k) k.awaiting p) empty-numbers ∙ by p (nat_lt p numbered_from))
  where
    by : (p : ℕ) (b : Bool) → led_to [] 1 p (if b then None else None) ≡ None
    by p true = refl
    by p false = refl

pub empty-outcomes : outcomes_in [] ≡ no_outcomes
unfolding outcomes_in
empty-outcomes = ap (λ (m : Numbers). outcomes_of m (kept_row [])) empty-numbers ∙ ap (outcomes_of first_numbers) empty-rows

-- where the row of the numbers counts all, what is written is what the rows say
pub all-counted : (db : Trees) (m : Numbers) → m ≡ numbers_in (db 6) → contents_by m db ≡ contents_of db
all-counted db m is = ap (with_outcomes (contents_of db)) (sym (outcomes-known (db 6) m is))

-- where rows of outcomes stay, what is written is what the others say
pub by-numbers : (now was : Trees) (m : Numbers) (c : Contents) → contents_of now ≡ c → now 6 ≡ was 6 → contents_by m now ≡ with_outcomes c (outcomes_by m (was 6))
by-numbers now was m c is rows = ap (λ x. with_outcomes x (outcomes_by m (now 6))) is ∙ ap (λ rs. with_outcomes c (outcomes_by m rs)) rows

pub none-kept : (old new : View) → OnlyReads old new → IsUnused old → old.trees 6 ≡ [] → (contents_of new.committed).outcomes ≡ no_outcomes
none-kept old new only unused none = ap (λ (v : View). outcomes_in (v.committed 6)) only ∙ ap (λ (db : Trees). outcomes_in (db 6)) (sym unused.clean) ∙ ap outcomes_in none ∙ empty-outcomes

-- ---- their table changes in a file of a format that knows keys

module _ (old new : View) (starts : List ℕ) (n prepared : ℕ) (header : Header) (edit : List Row → List Row) (sets : SetsTree old new 6 edit) (kept : IsKeptFile old starts n prepared header)
    (keyed : header.format < keyed_format → ⊥) where
  before : IsFile old.trees
  before = kept.file sets.sound

  -- its rows are these
  pub edited : new.trees 6 ≡ edit (old.trees 6)
  edited = ap (λ (v : View). v.trees 6) sets.is

  -- and nothing else changes
  pub changes : contents_of new.trees ≡ record (contents_of old.trees) { outcomes = outcomes_in (edit (old.trees 6)) }
  changes = ap (λ (v : View). contents_of v.trees) sets.is

  pub changes-by : (m : Numbers) → contents_by m new.trees ≡ with_outcomes (contents_of old.trees) (outcomes_by m (edit (old.trees 6)))
  changes-by m = ap (λ (v : View). contents_by m v.trees) sets.is

  aged : IsOlderThan keyed_format (contents_of old.trees).headers → ⊥
  aged older = keyed (subst (IsOlderThan keyed_format) (kept.header_is sets.sound) older)

  -- it is a file of a store again
  pub keeps-file : IsKeptFile new starts n prepared header
  keeps-file = record {
    tables = subst (λ (v : View). HasTables v) (sym sets.is) (record { each = kept.tables.each });
    file = λ _. subst (λ (v : View). IsFile v.trees) (sym sets.is) (record {
      events = before.events;
      headers = before.headers;
      types = before.types;
      objects = before.objects;
      states = before.states;
      prepared = before.prepared;
      unprepared = before.unprepared;
      outcomes = λ older. absurd (aged older);
    });
    count_is = λ _. kept.count_is sets.sound ∙ ap (λ (c : Contents). length c.events) (sym changes);
    starts_are = λ _. kept.starts_are sets.sound ∙ ap (λ (v : View). row_starts 0 (map event_told (v.trees 0))) (sym sets.is);
    short = λ _. subst (λ (c : Contents). AreShort c.events) (sym changes) (kept.short sets.sound);
    header_is = λ _. ap (λ (c : Contents). c.headers) changes ∙ kept.header_is sets.sound;
    prepared_are = λ _. kept.prepared_are sets.sound ∙ ap (λ (c : Contents). length c.prepared) (sym changes);
    kept = λ is_open. subst (λ (v : View). IsTrue v.is_open → IsFile v.committed) (sym sets.is) kept.kept is_open;
    numbered = subst (λ (v : View). IsTrue v.is_numbered) (sym sets.is) kept.numbered;
    named = λ _. subst (λ (v : View). IsNamedOnce (v.trees catalog_tree)) (sym sets.is) (kept.named sets.sound);
  }

-- a file whose outcomes have other numbers than at first is of a format that knows keys
pub numbered-keyed : (v : View) (starts : List ℕ) (n prepared : ℕ) (header : Header) → IsKeptFile v starts n prepared header → v.is_broken ≡ false
    → (numbers_in (v.trees 6) ≡ first_numbers → ⊥) → header.format < keyed_format → ⊥
numbered-keyed v starts n prepared header kept sound other older =
    other (ap numbers_in ((kept.file sound).outcomes (subst (IsOlderThan keyed_format) (sym (kept.header_is sound)) older)) ∙ empty-numbers)

-- where their rows are as they were, so is what is known of them
pub same-numbers : (old new : View) (m : Numbers) (index : OutcomeIndex) → new.trees 6 ≡ old.trees 6 → old.is_broken ≡ false → CountsOutcomes old m index → CountsOutcomes new m index
same-numbers old new m index rows sound has now = subst (λ rs. KnowsOutcomes rs m index) (sym rows) (has sound)

-- ---- an outcome is kept, with the next number

module _ (old new : View) (starts : List ℕ) (n prepared : ℕ) (header : Header) (m next : Numbers) (index : OutcomeIndex) (o : KeyedOutcome)
    (puts : SetsTree old new 6 (put_row (outcome_row (numbered_from + m.next) (record { kept = o; number = m.next }))))
    (kept : IsKeptFile old starts n prepared header) (has : CountsOutcomes old m index) (keyed : header.format < keyed_format → ⊥)
    (is : next ≡ record { next = m.next + 1; first = m.first; least = m.least; awaiting = m.awaiting + 1 }) (low : key_place o.key < numbered_from) where
  abbrev edit_of : List Row → List Row
  edit_of = put_row (outcome_row (numbered_from + m.next) (record { kept = o; number = m.next }))

  pub keeps-outcome : contents_by next new.trees ≡ with_outcome (contents_by m old.trees) o
  keeps-outcome = changes-by old new starts n prepared header edit_of puts kept keyed next ∙ ap (with_outcomes (contents_of old.trees)) (kept-more (old.trees 6) m next o (has puts.sound).counted is low)

  pub keeps-outcome-file : IsKeptFile new starts n prepared header
  keeps-outcome-file = keeps-file old new starts n prepared header edit_of puts kept keyed

  -- which is known of too
  pub keeps-outcome-known : AreCounted next → (fresh : BTreeMap ℕ ℕ) → ((q : ℕ) → get nat_cmp fresh q ≡ cond (is_eq (nat_cmp (key_place o.key) q)) (Some m.next) (get nat_cmp index.fresh q))
      → CountsOutcomes new next (record { due = index.due; fresh = fresh; begun = index.begun; uncounted = true })
  keeps-outcome-known counted fresh got sound =
      subst (λ rs. KnowsOutcomes rs next (record { due = index.due; fresh = fresh; begun = index.begun; uncounted = true })) (sym (edited old new starts n prepared header edit_of puts kept keyed))
      (knows-more (old.trees 6) m next o (has puts.sound).counted is low index fresh got counted (has puts.sound))

-- ---- their numbers are written

module _ (old new : View) (starts : List ℕ) (n prepared : ℕ) (header : Header) (m next : Numbers) (index : OutcomeIndex) (counts : SetsTree old new 6 (put_row (numbers_row next)))
    (kept : IsKeptFile old starts n prepared header) (has : CountsOutcomes old m index) (keyed : header.format < keyed_format → ⊥) where
  rows-now : new.trees 6 ≡ put_row (numbers_row next) (old.trees 6)
  rows-now = edited old new starts n prepared header (put_row (numbers_row next)) counts kept keyed

  recounts : contents_by next new.trees ≡ contents_by next old.trees
  recounts = changes-by old new starts n prepared header (put_row (numbers_row next)) counts kept keyed next ∙ ap (with_outcomes (contents_of old.trees)) (renumbered (old.trees 6) next)

  -- where as many await they are known of as before
  pub has-written : AreCounted next → next.next ≡ m.next → next.awaiting ≡ m.awaiting → (uncounted : Bool) → CountsOutcomes new next (record { due = index.due; fresh = index.fresh; begun = index.begun; uncounted = uncounted })
  has-written counted ahead await uncounted sound =
      let same : awaiting_from next ≡ awaiting_from m = ap (λ k. k - next.awaiting) ahead ∙ ap (λ k. m.next - k) await in
      let later : OutcomeIndex = record { due = index.due; fresh = index.fresh; begun = index.begun; uncounted = uncounted } in
      subst (λ rs. KnowsOutcomes rs next later) (sym rows-now) (knows-written (old.trees 6) next later counted (renumbered-places (old.trees 6) m next index later same ahead refl refl refl (has counts.sound).places))

  -- so many of the last from now on
  pub keeps-least : (least : ℕ) → next ≡ record { next = m.next; first = m.first; least = least; awaiting = m.awaiting } → contents_by next new.trees ≡ record (contents_by m old.trees) { outcomes = staying (contents_by m old.trees).outcomes least }
  keeps-least least is = recounts ∙ ap (λ (k : Numbers). contents_by k old.trees) is

  -- or those since which fewer were kept
  pub lets-go : m.first < m.next - m.least → next ≡ record { next = m.next; first = m.next - m.least; least = m.least; awaiting = m.awaiting }
      → contents_by next new.trees ≡ record (contents_by m old.trees) { outcomes = let_go (contents_by m old.trees).outcomes }
  lets-go after is =
      recounts ∙ ap (λ (k : Numbers). with_outcomes (contents_of old.trees) (outcomes_of next (kept_from (old.trees 6) (awaiting_from k) k.awaiting))) is
      ∙ ap (with_outcomes (contents_of old.trees)) (let-go-first m next (kept_from (old.trees 6) (awaiting_from m) m.awaiting) after is)

  -- or all, where a round of pointers is put
  pub begins-round : index.due.entries ≡ [] → next ≡ record { next = m.next; first = m.first; least = m.least; awaiting = m.next - index.begun } → contents_by next new.trees ≡ contents_by m old.trees
  begins-round none is =
      changes-by old new starts n prepared header (put_row (numbers_row next)) counts kept keyed next
      ∙ ap (with_outcomes (contents_of old.trees)) (round-same (old.trees 6) m next index index (has counts.sound).counted (has counts.sound).places none is)

  pub begins-round-known : (later : OutcomeIndex) → AreCounted next → index.due.entries ≡ [] → next ≡ record { next = m.next; first = m.first; least = m.least; awaiting = m.next - index.begun }
      → later.due ≡ index.fresh → later.fresh.entries ≡ [] → later.begun ≡ m.next → CountsOutcomes new next later
  begins-round-known later counted none is due fresh begun sound =
      subst (λ rs. KnowsOutcomes rs next later) (sym rows-now)
      (knows-written (old.trees 6) next later counted (later-places (old.trees 6) m next index later (has counts.sound).counted (has counts.sound).places none is due fresh begun))

-- as they are in memory
module _ (old new : View) (starts : List ℕ) (n prepared : ℕ) (header : Header) (m : Numbers) (index : OutcomeIndex) (counts : SetsTree old new 6 (put_row (numbers_row m)))
    (kept : IsKeptFile old starts n prepared header) (has : CountsOutcomes old m index) (keyed : header.format < keyed_format → ⊥) where
  pub counts-file : IsKeptFile new starts n prepared header
  counts-file = keeps-file old new starts n prepared header (put_row (numbers_row m)) counts kept keyed

  pub counts-same : contents_by m new.trees ≡ contents_by m old.trees
  counts-same = recounts old new starts n prepared header m m index counts kept has keyed

  pub counts-known : CountsOutcomes new m (record { due = index.due; fresh = index.fresh; begun = index.begun; uncounted = false })
  counts-known sound = has-written old new starts n prepared header m m index counts kept has keyed (has counts.sound).counted refl refl false sound

-- those that are let go
module _ (old new : View) (starts : List ℕ) (n prepared : ℕ) (header : Header) (m found : Numbers) (index : OutcomeIndex) (first : ℕ) (kept : IsKeptFile old starts n prepared header) (sound : old.is_broken ≡ false)
    (has : CountsOutcomes old m index) (all : index.uncounted ≡ false) (is : found ≡ numbers_in (old.trees 6)) (at : first ≡ found.next - found.least) (after : found.first < first)
    (counts : SetsTree old new 6 (put_row (numbers_row (record { next = found.next; first = first; least = found.least; awaiting = found.awaiting })))) where
  abbrev next : Numbers
  next = record { next = found.next; first = first; least = found.least; awaiting = found.awaiting }

  pub found-known : found ≡ m
  found-known = is ∙ sym ((has sound).numbers all)

  counted : AreCounted found
  counted = subst AreCounted (sym found-known) (has sound).counted

  known : CountsOutcomes old found index
  known = subst (λ (k : Numbers). CountsOutcomes old k index) (sym found-known) has

  newer : header.format < keyed_format → ⊥
  newer = numbered-keyed old starts n prepared header kept sound
      (λ first'. let many = ap (λ (k : Numbers). k.next) (is ∙ first') in let few = ap (λ (k : Numbers). k.least) (is ∙ first') in omega (arith, after, at, many, few))

  pub lets-go-counted : AreCounted next
  lets-go-counted = let short = counted.short in record { some = counted.some; within = omega (arith, at); awaits = counted.awaits; short = counted.short; few = counted.few }

  pub lets-go-file : IsKeptFile new starts n prepared header
  lets-go-file = keeps-file old new starts n prepared header (put_row (numbers_row next)) counts kept newer

  pub lets-go-numbers : CountsOutcomes new next index
  lets-go-numbers = has-written old new starts n prepared header found next index counts kept known newer lets-go-counted refl refl index.uncounted

  pub lets-go-says : contents_by next new.trees ≡ record (contents_by m old.trees) { outcomes = let_go (contents_by m old.trees).outcomes }
  lets-go-says = lets-go old new starts n prepared header found next index counts kept known newer (subst (λ f. found.first < f) at after)
      (ap (λ f. let it : Numbers = record { next = found.next; first = f; least = found.least; awaiting = found.awaiting } in it) at)
      ∙ ap (λ (k : Numbers). let c : Contents = record (contents_by k old.trees) { outcomes = let_go (contents_by k old.trees).outcomes } in c) found-known

-- where as few were kept all stay
pub lets-none-go : (rows : List Row) (m : Numbers) → m.next - m.least ≤ m.first → outcomes_by m rows ≡ let_go (outcomes_by m rows)
lets-none-go rows m few = let-go-none-new m (kept_from rows (awaiting_from m) m.awaiting) few

-- ---- a pointer is put

module _ (old new : View) (starts : List ℕ) (n prepared : ℕ) (header : Header) (m : Numbers) (index : OutcomeIndex) (due : BTreeMap ℕ ℕ) (place number : ℕ) (low : place < numbered_from)
    (puts : SetsTree old new 6 (put_row (pointer_row place number))) (kept : IsKeptFile old starts n prepared header) (has : CountsOutcomes old m index) (keyed : header.format < keyed_format → ⊥)
    (was : get nat_cmp index.due place ≡ Some number) (got : (q : ℕ) → get nat_cmp due q ≡ cond (is_eq (nat_cmp place q)) None (get nat_cmp index.due q)) where
  pub points : contents_by m new.trees ≡ contents_by m old.trees
  points =
      changes-by old new starts n prepared header (put_row (pointer_row place number)) puts kept keyed m
      ∙ ap (with_outcomes (contents_of old.trees)) (pointed-same (old.trees 6) m index due place number low (has puts.sound).counted was got (has puts.sound).places)

  pub points-file : IsKeptFile new starts n prepared header
  points-file = keeps-file old new starts n prepared header (put_row (pointer_row place number)) puts kept keyed

  pub points-known : CountsOutcomes new m (record { due = due; fresh = index.fresh; begun = index.begun; uncounted = index.uncounted })
  points-known sound =
      let known = has puts.sound in
      let later : OutcomeIndex = record { due = due; fresh = index.fresh; begun = index.begun; uncounted = index.uncounted } in
      subst (λ rs. KnowsOutcomes rs m later) (sym (edited old new starts n prepared header (put_row (pointer_row place number)) puts kept keyed))
      (knows-still (old.trees 6) _ m index later (pointed-numbers (old.trees 6) m index due place number low known.counted was got known.places) refl known
      (pointed-places (old.trees 6) m index due place number low known.counted was got known.places))

-- ---- rows are freed

-- what only reads leaves the file as it was
pub read-file : (old new : View) (starts : List ℕ) (n prepared : ℕ) (header : Header) → OnlyReads old new → IsKeptFile old starts n prepared header → IsKeptFile new starts n prepared header
read-file old new starts n prepared header only kept = subst (λ (v : View). IsKeptFile v starts n prepared header) (sym only) (record {
  tables = record { each = kept.tables.each };
  file = kept.file;
  count_is = kept.count_is;
  starts_are = kept.starts_are;
  short = kept.short;
  header_is = kept.header_is;
  prepared_are = kept.prepared_are;
  kept = kept.kept;
  numbered = kept.numbered;
  named = kept.named;
})

module _ (old new : View) (starts : List ℕ) (n prepared : ℕ) (header : Header) (m : Numbers) (index : OutcomeIndex) (below : ℕ) (goes : below ≤ m.first) (before : below ≤ awaiting_from m)
    (kept : IsKeptFile old starts n prepared header) (has : CountsOutcomes old m index) where
  -- a file in which one is let go knows keys
  freed-keyed : (k : ℕ) → k < below → old.is_broken ≡ false → header.format < keyed_format → ⊥
  freed-keyed k low sound =
      numbered-keyed old starts n prepared header kept sound
      (λ is. let zero = (has sound).first ∙ ap (λ (x : Numbers). x.first) is in omega (arith, zero, low, goes))

  pub freed-same : Frees below old new → contents_by m new.trees ≡ contents_by m old.trees
  freed-same (inl place) =
      let known = has place.sets.sound in
      let low = place.low in
      changes-by old new starts n prepared header _ place.sets kept (freed-keyed (place_number place.gone) place.low place.sets.sound) m
      ∙ ap (with_outcomes (contents_of old.trees)) (place-freed-same (old.trees 6) m index known.places place.place place.gone place.there (omega (arith, low, goes)) (omega (arith, low, before)))
  freed-same (inr (inl number)) =
      let known = has number.sets.sound in
      let low = number.low in
      changes-by old new starts n prepared header _ number.sets kept (freed-keyed number.number number.low number.sets.sound) m
      ∙ ap (with_outcomes (contents_of old.trees)) (number-freed-same (old.trees 6) m index known.places number.number (omega (arith, low, goes)) (omega (arith, low, before)))
  freed-same (inr (inr same)) = ap (λ (v : View). contents_by m v.trees) same

  pub freed-file : Frees below old new → IsKeptFile new starts n prepared header
  freed-file (inl place) = keeps-file old new starts n prepared header _ place.sets kept (freed-keyed (place_number place.gone) place.low place.sets.sound)
  freed-file (inr (inl number)) = keeps-file old new starts n prepared header _ number.sets kept (freed-keyed number.number number.low number.sets.sound)
  freed-file (inr (inr same)) = subst (λ (v : View). IsKeptFile v starts n prepared header) (sym same) kept

  pub freed-known : Frees below old new → CountsOutcomes new m index
  freed-known (inl place) = λ sound.
      let known = has place.sets.sound in
      let low = place.low in
      subst (λ rs. KnowsOutcomes rs m index) (sym (ap (λ (v : View). v.trees 6) place.sets.is))
      (knows-still (old.trees 6) _ m index index (place-freed-numbers (old.trees 6) m index known.places place.place place.gone place.there (omega (arith, low, goes)) (omega (arith, low, before))) refl known
      (place-freed-places (old.trees 6) m index known.places place.place place.gone place.there (omega (arith, low, goes)) (omega (arith, low, before))))
  freed-known (inr (inl number)) = λ sound.
      let known = has number.sets.sound in
      let low = number.low in
      subst (λ rs. KnowsOutcomes rs m index) (sym (ap (λ (v : View). v.trees 6) number.sets.is))
      (knows-still (old.trees 6) _ m index index (number-freed-numbers (old.trees 6) m index known.places number.number (omega (arith, low, goes)) (omega (arith, low, before))) refl known
      (number-freed-places (old.trees 6) m index known.places number.number (omega (arith, low, goes)) (omega (arith, low, before))))
  freed-known (inr (inr same)) = subst (λ (v : View). CountsOutcomes v m index) (sym same) has

-- ---- a table that has no row is made anew

-- a file of an older format has no prepared transactions, and one of a format that doesn't know keys no outcomes
module _ (v : View) (starts : List ℕ) (n prepared : ℕ) (header : Header) (kept : IsKeptFile v starts n prepared header) where
  pub older-unprepared : header.format < preparing_format → v.is_broken ≡ false → v.trees 5 ≡ []
  older-unprepared older sound = (kept.file sound).unprepared (subst (IsOlderThan preparing_format) (sym (kept.header_is sound)) older)

  pub older-none : header.format < keyed_format → v.is_broken ≡ false → v.trees 6 ≡ []
  older-none older sound = (kept.file sound).outcomes (subst (IsOlderThan keyed_format) (sym (kept.header_is sound)) older)

pub same-file : (now was : Trees) → ((t : ℕ) → t < 7 → now t ≡ was t) → IsFile was → IsFile now
same-file now was same file = record {
  events = rw (same 0 (lit< tt)) file.events;
  headers = rw (same 1 (lit< tt)) file.headers;
  types = rw (same 2 (lit< tt)) file.types;
  objects = rw (same 3 (lit< tt)) file.objects;
  states = rw (same 4 (lit< tt)) file.states;
  prepared = rw (same 5 (lit< tt)) file.prepared;
  unprepared = rw (same 1 (lit< tt), same 5 (lit< tt)) file.unprepared;
  outcomes = rw (same 1 (lit< tt), same 6 (lit< tt)) file.outcomes;
}

module _ (old new : View) (starts : List ℕ) (n prepared : ℕ) (header : Header) (table : ℕ) (kept : IsKeptFile old starts n prepared header) (none : old.is_broken ≡ false → old.trees table ≡ []) (anew : Empties old new table) where
  same : (t : ℕ) → t < 7 → new.trees t ≡ old.trees t
  same t low = elim (cases_eq t table) [
    | inl is ↦ rw is (anew.rows ∙ sym (none anew.sound))
    | inr differs ↦ anew.others t differs low
  ]

  pub stays : contents_of new.trees ≡ contents_of old.trees
  stays = rw (same 0 (lit< tt), same 1 (lit< tt), same 2 (lit< tt), same 3 (lit< tt), same 4 (lit< tt), same 5 (lit< tt), same 6 (lit< tt)) refl

  pub stays-numbers : (m : Numbers) (index : OutcomeIndex) → CountsOutcomes old m index → CountsOutcomes new m index
  stays-numbers m index has = same-numbers old new m index (same 6 (lit< tt)) anew.sound has

  pub stays-file : IsKeptFile new starts n prepared header
  stays-file = record {
    tables = anew.tables;
    file = λ _. same-file new.trees old.trees same (kept.file anew.sound);
    count_is = λ _. kept.count_is anew.sound ∙ ap (λ (c : Contents). length c.events) (sym stays);
    starts_are = λ _. kept.starts_are anew.sound ∙ ap (λ rs. row_starts 0 (map event_told rs)) (sym (same 0 (lit< tt)));
    short = λ _. subst (λ (c : Contents). AreShort c.events) (sym stays) (kept.short anew.sound);
    header_is = λ _. ap (λ (c : Contents). c.headers) stays ∙ kept.header_is anew.sound;
    prepared_are = λ _. kept.prepared_are anew.sound ∙ ap (λ (c : Contents). length c.prepared) (sym stays);
    kept = λ is_open. subst IsFile (sym anew.committed) (kept.kept (subst IsTrue anew.is_open is_open));
    numbered = anew.numbered;
    named = λ _. anew.named;
  }
