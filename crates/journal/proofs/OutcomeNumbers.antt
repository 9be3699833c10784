-- Outcomes and their numbers, as rows: what a file knows after one is kept, or let go, after a pointer is put, and after a row is freed.
use Rattle.std.proofs.Common.{◌≡◌, ◌<◌, ◌≤◌, ℕ, ◌+◌, ◌-◌, ◌==◌, List, [], Option, Some, None, false, true, refl, sym, ap, subst, ◌∙◌, inl, inr, arith, Bool, cond, nat_lt, if◌then◌else◌}
use Rattle.std.specs.Prelude.{pos, option_map}
use Rattle.std.specs.Ordering.{is_eq, nat_cmp}
use Rattle.std.specs.BTreeMap.{BTreeMap, get}
use Rattle.std.proofs.Math.Path.{fun_ext}
use Rattle.std.proofs.lemmas.Bool.{cases_eq, eq-eqb, le-ltb, ltb-false, ltb-true, ne_eqb}
use Rattle.std.proofs.lemmas.Option.{same_Some}
use Rattle.sqlite_value.specs.Order.{Row}
use Rattle.sqlite_trees.specs.Tree.{put_row, without_rowid}
use Rattle.transaction_key.specs.TransactionKey.{key_place}
use Rattle.journal.specs.declared.numbers.Numbers.{Numbers}
use Rattle.journal.specs.declared.outcome_index.OutcomeIndex.{OutcomeIndex}
use Rattle.journal.specs.declared.outcome_row.KeptOutcome.{KeptOutcome}
use Rattle.journal.specs.declared.outcome_row.KeyedOutcome.{KeyedOutcome}
use Rattle.journal.specs.declared.place_row.PlaceRow.{PlaceRow}
use Rattle.journal.specs.declared.place_row.PlaceRow.TheVariants.{Pointer}
use Rattle.journal.specs.Numbers.{AreCounted, numbers_in, numbers_row}
use Rattle.journal.specs.OutcomeRow.{outcome_row}
use Rattle.journal.specs.PlaceRow.{pointer_row}
use Rattle.journal.specs.OutcomeIndex.{KnowsOutcomes, KnowsPlaces, awaiting_from, kept_from, kept_row, last_number, outcome_numbered, numbered_from, placed}
use Rattle.journal.specs.Outcomes.{Outcomes, let_go, number_kept, outcomes_by, outcomes_in, outcomes_of, outcomes_with, staying_from}
use Rattle.journal.specs.Swept.{place_number}
use Rattle.journal.proofs.PlacedRows.{ChangesAt, freed-changes, freed-none, numbered-as, numbers-there, outcome-there, place-low, placed-as, placed-none, pointer-there, put-changes, renumbered-numbered, renumbered-placed}
use Rattle.journal.proofs.KeptRows.{kept-known, kept-last, number-freed, place-freed, same-count, same-kept}
use Rattle.journal.proofs.KnownPlaces.{added-places, cmp-apart, cmp-same, last-new, none-awaits, none-in, put-places, round-kept, round-places, same-index, same-places}

-- with an outcome at a place
abbrev kept_with : (ℕ → Option KeptOutcome) → ℕ → KeptOutcome → ℕ → Option KeptOutcome
kept_with kept place o n = if n == place then Some o else kept n

abbrev all_of : Numbers → (ℕ → Option KeyedOutcome) → (ℕ → ℕ) → Outcomes
all_of m at numbers = record { at = at; numbers = numbers; next = m.next; least = m.least }

-- ---- what a file says of its outcomes, by its numbers

pub outcomes-known : (rows : List Row) (m : Numbers) → m ≡ numbers_in rows → outcomes_in rows ≡ outcomes_by m rows
unfolding outcomes_in
outcomes-known rows m is =
    ap (λ (k : Numbers). outcomes_of k (kept_row rows)) (sym is)
    ∙ ap (outcomes_of m) (fun_ext (λ p. kept-known rows m p is))

-- what is known of outcomes stays so where the row of their numbers does
pub knows-still : (rows now : List Row) (m : Numbers) (index later : OutcomeIndex) → numbers_in now ≡ numbers_in rows → later.uncounted ≡ index.uncounted → KnowsOutcomes rows m index → KnowsPlaces now m later → KnowsOutcomes now m later
knows-still rows now m index later same counted known places = record {
  numbers = λ all. known.numbers (sym counted ∙ all) ∙ sym same;
  first = known.first ∙ ap (λ (k : Numbers). k.first) (sym same);
  counted = known.counted;
  places = places;
}

-- and is so where the row is written
pub knows-written : (rows : List Row) (m : Numbers) (index : OutcomeIndex) → AreCounted m → KnowsPlaces (put_row (numbers_row m) rows) m index → KnowsOutcomes (put_row (numbers_row m) rows) m index
knows-written rows m index counted places = record {
  numbers = λ _. sym (numbers-there rows m);
  first = ap (λ (k : Numbers). k.first) (sym (numbers-there rows m));
  counted = counted;
  places = places;
}

-- where the same of it stays
pub same-outcomes : (m : Numbers) (one two : ℕ → Option KeptOutcome) → ((p : ℕ) → staying_from m.first (one p) ≡ staying_from m.first (two p)) → outcomes_of m one ≡ outcomes_of m two
same-outcomes m one two same = ap (λ (s : ℕ → Option KeptOutcome). all_of m (λ n. option_map (λ (o : KeptOutcome). o.kept) (s n)) (λ n. number_kept (s n))) (fun_ext (λ n. same n))

-- the numbers are written anew
renumbered-kept : (rows : List Row) (m : Numbers) (base count p : ℕ) → kept_from (put_row (numbers_row m) rows) base count p ≡ kept_from rows base count p
renumbered-kept rows m base count p = same-kept rows (put_row (numbers_row m) rows) base p count (λ n low. renumbered-numbered rows m n) (λ none. renumbered-placed rows m p)

pub renumbered : (rows : List Row) (m : Numbers) → outcomes_by m (put_row (numbers_row m) rows) ≡ outcomes_by m rows
renumbered rows m = ap (outcomes_of m) (fun_ext (λ p. renumbered-kept rows m (awaiting_from m) m.awaiting p))

pub renumbered-places : (rows : List Row) (m n : Numbers) (index later : OutcomeIndex) → awaiting_from n ≡ awaiting_from m → n.next ≡ m.next
    → later.due ≡ index.due → later.fresh ≡ index.fresh → later.begun ≡ index.begun → KnowsPlaces rows m index → KnowsPlaces (put_row (numbers_row n) rows) n later
renumbered-places rows m n index later base next due fresh begun knows =
    same-index (put_row (numbers_row n) rows) n index later due fresh begun
    (same-places rows (put_row (numbers_row n) rows) m n index base next (λ k from. renumbered-numbered rows n k) (λ p k from is. renumbered-placed rows n p ∙ is) knows)

-- ---- one is kept

module _ (m : Numbers) (kept : ℕ → Option KeptOutcome) (o : KeyedOutcome) (within : m.first ≤ m.next) where
  abbrev its : KeptOutcome
  its = record { kept = o; number = m.next }

  -- it stays
  stays : nat_lt m.next m.first ≡ false
  stays = le-ltb m.next m.first within

  at-place : (n : ℕ) (b : Bool) → option_map (λ (k : KeptOutcome). k.kept) (staying_from m.first (if b then Some its else kept n)) ≡ (if b then Some o else option_map (λ (k : KeptOutcome). k.kept) (staying_from m.first (kept n)))
  at-place n true = rw stays refl
  at-place n false = refl

  number-there : (n : ℕ) (b : Bool) → number_kept (staying_from m.first (if b then Some its else kept n)) ≡ (if b then m.next else number_kept (staying_from m.first (kept n)))
  number-there n true = rw stays refl
  number-there n false = refl

  pub keeps-one : (next : Numbers) → next ≡ record { next = m.next + 1; first = m.first; least = m.least; awaiting = m.awaiting + 1 } → outcomes_of next (kept_with kept (key_place o.key) its) ≡ outcomes_with (outcomes_of m kept) o
  keeps-one next is = rw is (
      ap (λ at. let all : Outcomes = record { at = at; numbers = λ n. number_kept (staying_from m.first (kept_with kept (key_place o.key) its n)); next = m.next + 1; least = m.least } in all)
      (fun_ext (λ n. at-place n (n == key_place o.key)))
      ∙ ap (λ numbers. let all : Outcomes = record { at = (outcomes_with (outcomes_of m kept) o).at; numbers = numbers; next = m.next + 1; least = m.least } in all)
      (fun_ext (λ n. number-there n (n == key_place o.key))))

module _ (rows : List Row) (m next : Numbers) (o : KeyedOutcome) (counted : AreCounted m)
    (is : next ≡ record { next = m.next + 1; first = m.first; least = m.least; awaiting = m.awaiting + 1 }) (low : key_place o.key < numbered_from) where
  abbrev it : KeptOutcome
  it = record { kept = o; number = m.next }

  -- the rows with its own
  abbrev more : List Row
  more = put_row (outcome_row (numbered_from + m.next) it) rows

  changes : ChangesAt rows more (numbered_from + m.next)
  changes = put-changes rows (numbered_from + m.next) (outcome_row (numbered_from + m.next) it) refl

  other : (k : ℕ) → (k ≡ m.next → ⊥) → outcome_numbered more k ≡ outcome_numbered rows k
  other k differs = numbered-as rows more k (changes.others (numbered_from + k) (λ same. differs (omega (arith, same))))

  at-places : (p : ℕ) → placed more p ≡ placed rows p
  at-places p = placed-as rows more p (λ within. changes.others p (λ same. omega (arith, within, same)))

  base : awaiting_from next ≡ awaiting_from m
  base = let ahead = ap (λ (k : Numbers). k.next) is in let await = ap (λ (k : Numbers). k.awaiting) is in let within = counted.awaits in omega (arith, ahead, await, within)

  count : next.awaiting ≡ m.next + 1 - awaiting_from m
  count = let await = ap (λ (k : Numbers). k.awaiting) is in let within = counted.awaits in omega (arith, await, within)

  many : m.next - awaiting_from m ≡ m.awaiting
  many = let within = counted.awaits in omega (arith, within)

  last : (p : ℕ) → last_number more p (awaiting_from m) (m.next + 1 - awaiting_from m) ≡ cond (is_eq (nat_cmp (key_place o.key) p)) (Some m.next) (last_number more p (awaiting_from m) m.awaiting)
  last p =
      last-new more (awaiting_from m) m.next it p (omega arith) (outcome-there rows m.next o) low
      ∙ ap (λ k. cond (is_eq (nat_cmp (key_place o.key) p)) (Some m.next) (last_number more p (awaiting_from m) k)) many

  there : (p : ℕ) → kept_from more (awaiting_from m) (m.next + 1 - awaiting_from m) p ≡ kept_with (kept_from rows (awaiting_from m) m.awaiting) (key_place o.key) it p
  there p = elim (cases_eq p (key_place o.key)) [
    | inl same ↦
        rw (same, eq-eqb (key_place o.key) (key_place o.key) refl)
        (kept-last more (awaiting_from m) (m.next + 1 - awaiting_from m) (key_place o.key) m.next
        (last (key_place o.key) ∙ ap (λ b. cond b (Some m.next) (last_number more (key_place o.key) (awaiting_from m) m.awaiting)) (cmp-same (key_place o.key) (key_place o.key) refl))
        ∙ outcome-there rows m.next o)
    | inr differs ↦
        let none : (p == key_place o.key) ≡ false = ne_eqb p (key_place o.key) differs in
        rw none
        (same-count more (awaiting_from m) p _ _ (last p ∙ ap (λ b. cond b (Some m.next) (last_number more p (awaiting_from m) m.awaiting)) (cmp-apart (key_place o.key) p (λ same. differs (sym same))))
        ∙ same-kept rows more (awaiting_from m) p m.awaiting (λ n before. other n (let within = counted.awaits in λ same. omega (arith, before, same, within))) (λ none. at-places p))
  ]

  pub kept-more : outcomes_by next more ≡ outcomes_with (outcomes_by m rows) o
  kept-more =
      ap (outcomes_of next) (fun_ext (λ p. ap (λ b. kept_from more b next.awaiting p) base ∙ ap (λ k. kept_from more (awaiting_from m) k p) count ∙ there p))
      ∙ keeps-one m (kept_from rows (awaiting_from m) m.awaiting) o counted.within next is

  -- and the journal knows of it
  pub knows-more : (index : OutcomeIndex) (fresh : BTreeMap ℕ ℕ) → ((q : ℕ) → get nat_cmp fresh q ≡ cond (is_eq (nat_cmp (key_place o.key) q)) (Some m.next) (get nat_cmp index.fresh q))
      → AreCounted next → KnowsOutcomes rows m index → KnowsOutcomes more next (record { due = index.due; fresh = fresh; begun = index.begun; uncounted = true })
  knows-more index fresh has within known = record {
    numbers = λ all. absurd (cc);
    first = ap (λ (k : Numbers). k.first) is ∙ known.first ∙ ap (λ (k : Numbers). k.first) (sym changes.numbers);
    counted = within;
    places = added-places rows more m next index it fresh is counted.awaits other (outcome-there rows m.next o) at-places low has known.places;
  }

-- ---- some are let go

-- one that isn't kept is neither known nor numbered, and so it is with one that is let go
module _ (first bound : ℕ) where
  abbrev known_from : ℕ → Option KeptOutcome → Option KeyedOutcome
  known_from n k = option_map (λ (o : KeptOutcome). o.kept) (staying_from n k)

  abbrev nothing : Option KeyedOutcome
  nothing = None

  no-outcome : (b : Bool) → (if b then nothing else nothing) ≡ nothing
  no-outcome true = refl
  no-outcome false = refl

  abbrev nought : ℕ
  nought = 0

  no-number : (b : Bool) → (if b then nought else nought) ≡ nought
  no-number true = refl
  no-number false = refl

  -- where the bound is after the first that stays, it is the first from now on
  module _ (after : first < bound) where
    pub goes : (k : Option KeptOutcome) → known_from bound k ≡ (if nat_lt (number_kept (staying_from first k)) bound then None else known_from first k)
    goes None = sym (no-outcome (nat_lt 0 bound))
    goes (Some o) = by (nat_lt o.number first) refl (nat_lt o.number bound) refl
      where
        by : (a : Bool) → nat_lt o.number first ≡ a → (b : Bool) → nat_lt o.number bound ≡ b
            → option_map (λ (x : KeptOutcome). x.kept) (if nat_lt o.number bound then None else Some o)
            ≡ (if nat_lt (number_kept (if nat_lt o.number first then None else Some o)) bound then None else option_map (λ (x : KeptOutcome). x.kept) (if nat_lt o.number first then None else Some o))
        by true low true is = rw (is, low) (sym (no-outcome (nat_lt 0 bound)))
        by true low false is = absurd (let small = ltb-true o.number first low in let large = ltb-false o.number bound is in omega (arith, after, small, large))
        by false low true is = rw (low, is) refl
        by false low false is = rw (low, is) refl

    pub goes-number : (k : Option KeptOutcome) → number_kept (staying_from bound k) ≡ (if nat_lt (number_kept (staying_from first k)) bound then 0 else number_kept (staying_from first k))
    goes-number None = sym (no-number (nat_lt 0 bound))
    goes-number (Some o) = by (nat_lt o.number first) refl (nat_lt o.number bound) refl
      where
        by : (a : Bool) → nat_lt o.number first ≡ a → (b : Bool) → nat_lt o.number bound ≡ b
            → number_kept (if nat_lt o.number bound then None else Some o)
            ≡ (if nat_lt (number_kept (if nat_lt o.number first then None else Some o)) bound then 0 else number_kept (if nat_lt o.number first then None else Some o))
        by true low true is = rw (is, low) (sym (no-number (nat_lt 0 bound)))
        by true low false is = absurd (let small = ltb-true o.number first low in let large = ltb-false o.number bound is in omega (arith, after, small, large))
        by false low true is = rw (low, is) refl
        by false low false is = rw (low, is) refl

  -- where it isn't, all of them stay
  module _ (within : bound ≤ first) where
    pub stays-so : (k : Option KeptOutcome) → (if nat_lt (number_kept (staying_from first k)) bound then None else known_from first k) ≡ known_from first k
    stays-so None = no-outcome (nat_lt 0 bound)
    stays-so (Some o) = by (nat_lt o.number first) refl
      where
        by : (a : Bool) → nat_lt o.number first ≡ a
            → (if nat_lt (number_kept (if nat_lt o.number first then None else Some o)) bound then None else option_map (λ (x : KeptOutcome). x.kept) (if nat_lt o.number first then None else Some o))
            ≡ option_map (λ (x : KeptOutcome). x.kept) (if nat_lt o.number first then None else Some o)
        by true low = rw low (no-outcome (nat_lt 0 bound))
        by false low =
            let high : nat_lt o.number bound ≡ false = le-ltb o.number bound (let large = ltb-false o.number first low in omega (arith, within, large)) in
            rw (low, high) refl

    pub stays-number : (k : Option KeptOutcome) → (if nat_lt (number_kept (staying_from first k)) bound then 0 else number_kept (staying_from first k)) ≡ number_kept (staying_from first k)
    stays-number None = no-number (nat_lt 0 bound)
    stays-number (Some o) = by (nat_lt o.number first) refl
      where
        by : (a : Bool) → nat_lt o.number first ≡ a
            → (if nat_lt (number_kept (if nat_lt o.number first then None else Some o)) bound then 0 else number_kept (if nat_lt o.number first then None else Some o)) ≡ number_kept (if nat_lt o.number first then None else Some o)
        by true low = rw low (no-number (nat_lt 0 bound))
        by false low =
            let high : nat_lt o.number bound ≡ false = le-ltb o.number bound (let large = ltb-false o.number first low in omega (arith, within, large)) in
            rw (low, high) refl

pub let-go-first : (m next : Numbers) (kept : ℕ → Option KeptOutcome) → m.first < m.next - m.least → next ≡ record { next = m.next; first = m.next - m.least; least = m.least; awaiting = m.awaiting }
    → outcomes_of next kept ≡ let_go (outcomes_of m kept)
let-go-first m next kept after is = rw is (
    ap (λ at. all_of m at (λ n. number_kept (staying_from (m.next - m.least) (kept n)))) (fun_ext (λ n. goes m.first (m.next - m.least) after (kept n)))
    ∙ ap (all_of m (let_go (outcomes_of m kept)).at) (fun_ext (λ n. goes-number m.first (m.next - m.least) after (kept n))))

pub let-go-none-new : (m : Numbers) (kept : ℕ → Option KeptOutcome) → m.next - m.least ≤ m.first → outcomes_of m kept ≡ let_go (outcomes_of m kept)
let-go-none-new m kept within = sym (
    ap (λ at. all_of m at (let_go (outcomes_of m kept)).numbers) (fun_ext (λ n. stays-so m.first (m.next - m.least) within (kept n)))
    ∙ ap (all_of m (outcomes_of m kept).at) (fun_ext (λ n. stays-number m.first (m.next - m.least) within (kept n))))

-- ---- a pointer is put

module _ (rows : List Row) (m : Numbers) (index : OutcomeIndex) (due : BTreeMap ℕ ℕ) (p n : ℕ) (low : p < numbered_from) (counted : AreCounted m)
    (was : get nat_cmp index.due p ≡ Some n) (has : (q : ℕ) → get nat_cmp due q ≡ cond (is_eq (nat_cmp p q)) None (get nat_cmp index.due q)) (knows : KnowsPlaces rows m index) where
  abbrev pointed : List Row
  pointed = put_row (pointer_row p n) rows

  points : ChangesAt rows pointed p
  points = put-changes rows p (pointer_row p n) refl

  same-number : (k : ℕ) → outcome_numbered pointed k ≡ outcome_numbered rows k
  same-number k = numbered-as rows pointed k (points.others (numbered_from + k) (λ same. omega (arith, low, same)))

  pub pointed-numbers : numbers_in pointed ≡ numbers_in rows
  pointed-numbers = points.numbers

  -- one that has the place awaits, so its row isn't looked at
  pointed-kept : (q : ℕ) → kept_from pointed (awaiting_from m) m.awaiting q ≡ kept_from rows (awaiting_from m) m.awaiting q
  pointed-kept q = same-kept rows pointed (awaiting_from m) q m.awaiting (λ k before. same-number k) (λ none. placed-as rows pointed q (λ within. points.others q (λ same.
      none-awaits rows m index counted.awaits knows p n was (subst (λ r. last_number rows r (awaiting_from m) m.awaiting ≡ None) same none))))

  pub pointed-same : outcomes_by m pointed ≡ outcomes_by m rows
  pointed-same = ap (outcomes_of m) (fun_ext pointed-kept)

  pub pointed-places : KnowsPlaces pointed m (record { due = due; fresh = index.fresh; begun = index.begun; uncounted = index.uncounted })
  pointed-places = put-places rows pointed m index due p n same-number (pointer-there rows p n low) (λ q differs. placed-as rows pointed q (λ within. points.others q differs)) was has knows

-- ---- a round begins

module _ (rows : List Row) (m n : Numbers) (index later : OutcomeIndex) (counted : AreCounted m) (knows : KnowsPlaces rows m index) (none : index.due.entries ≡ [])
    (is : n ≡ record { next = m.next; first = m.first; least = m.least; awaiting = m.next - index.begun }) where
  ahead : n.next ≡ m.next
  ahead = ap (λ (k : Numbers). k.next) is

  await : n.awaiting ≡ m.next - index.begun
  await = ap (λ (k : Numbers). k.awaiting) is

  pub round-same : outcomes_by n (put_row (numbers_row n) rows) ≡ outcomes_by m rows
  round-same =
      let before = knows.before in
      let from : awaiting_from n ≡ index.begun = omega (arith, ahead, await, before) in
      renumbered rows n
      ∙ ap (outcomes_of n) (fun_ext (λ p. ap (λ b. kept_from rows b n.awaiting p) from ∙ ap (λ k. kept_from rows index.begun k p) await
      ∙ sym (round-kept rows m index counted.awaits knows p (λ q. none-in index.due q none))))
      ∙ ap (λ (k : Numbers). outcomes_of k (kept_from rows (awaiting_from m) m.awaiting)) is

  pub later-places : later.due ≡ index.fresh → later.fresh.entries ≡ [] → later.begun ≡ m.next → KnowsPlaces (put_row (numbers_row n) rows) n later
  later-places due fresh begun = renumbered-places rows n n later later refl refl refl refl refl (round-places rows m n index later ahead await due fresh begun knows)

-- ---- a row is freed

module _ (rows : List Row) (m : Numbers) (index : OutcomeIndex) (knows : KnowsPlaces rows m index) where
  -- at a place
  module _ (p : ℕ) (it : PlaceRow) (there : placed rows p ≡ Some it) (goes : place_number it < m.first) (before : place_number it < awaiting_from m) where
    abbrev unplaced : List Row
    unplaced = without_rowid (pos p) rows

    frees : ChangesAt rows unplaced p
    frees = freed-changes rows p

    numbers-stay : (k : ℕ) → outcome_numbered unplaced k ≡ outcome_numbered rows k
    numbers-stay k = numbered-as rows unplaced k (frees.others (numbered_from + k) (λ same. let low = place-low rows p it there in omega (arith, low, same)))

    others-stay : (q : ℕ) → (q ≡ p → ⊥) → placed unplaced q ≡ placed rows q
    others-stay q differs = placed-as rows unplaced q (λ within. frees.others q differs)

    kept-still : (q : ℕ) → staying_from m.first (kept_from unplaced (awaiting_from m) m.awaiting q) ≡ staying_from m.first (kept_from rows (awaiting_from m) m.awaiting q)
    kept-still q = elim (cases_eq q p) [
      | inl same ↦ subst (λ r. staying_from m.first (kept_from unplaced (awaiting_from m) m.awaiting r) ≡ staying_from m.first (kept_from rows (awaiting_from m) m.awaiting r)) (sym same)
          (place-freed m.first rows unplaced (awaiting_from m) p it goes numbers-stay m.awaiting there (placed-none unplaced p (freed-none rows p)))
      | inr differs ↦ ap (staying_from m.first) (same-kept rows unplaced (awaiting_from m) q m.awaiting (λ k low. numbers-stay k) (λ none. others-stay q differs))
    ]

    pub place-freed-numbers : numbers_in unplaced ≡ numbers_in rows
    place-freed-numbers = frees.numbers

    pub place-freed-same : outcomes_by m unplaced ≡ outcomes_by m rows
    place-freed-same = same-outcomes m _ _ kept-still

    pub place-freed-places : KnowsPlaces unplaced m index
    place-freed-places = same-places rows unplaced m m index refl refl (λ k from. numbers-stay k) (λ q k from is. elim (cases_eq q p) [
      | inl same ↦ absurd (
          let number : k ≡ place_number it = sym (ap place_number (same_Some it (Pointer k) (sym there ∙ ap (placed rows) (sym same) ∙ is))) in
          omega (arith, before, from, number))
      | inr differs ↦ others-stay q differs ∙ is
    ]) knows

  -- by a number
  module _ (n : ℕ) (goes : n < m.first) (before : n < awaiting_from m) where
    abbrev unnumbered : List Row
    unnumbered = without_rowid (pos (numbered_from + n)) rows

    loses : ChangesAt rows unnumbered (numbered_from + n)
    loses = freed-changes rows (numbered_from + n)

    others-numbered : (k : ℕ) → (k ≡ n → ⊥) → outcome_numbered unnumbered k ≡ outcome_numbered rows k
    others-numbered k differs = numbered-as rows unnumbered k (loses.others (numbered_from + k) (λ same. differs (omega (arith, same))))

    places-stay : (p : ℕ) → placed unnumbered p ≡ placed rows p
    places-stay p = placed-as rows unnumbered p (λ within. loses.others p (λ same. omega (arith, within, same)))

    pub number-freed-numbers : numbers_in unnumbered ≡ numbers_in rows
    number-freed-numbers = loses.numbers

    pub number-freed-same : outcomes_by m unnumbered ≡ outcomes_by m rows
    number-freed-same = same-outcomes m _ _ (λ p. number-freed m.first rows unnumbered (awaiting_from m) p n goes others-numbered m.awaiting before (places-stay p))

    pub number-freed-places : KnowsPlaces unnumbered m index
    number-freed-places = same-places rows unnumbered m m index refl refl (λ k from. others-numbered k (λ same. omega (arith, before, from, same))) (λ p k from is. places-stay p ∙ is) knows
