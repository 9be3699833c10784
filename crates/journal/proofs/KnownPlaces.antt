-- What a journal knows of the outcomes that await the index, and what follows of what is kept.
use Rattle.std.proofs.Common.{◌≡◌, ℕ, suc, ◌+◌, ◌-◌, ◌<◌, ◌≤◌, List, [], Option, Some, None, false, true, refl, sym, ap, subst, ◌∙◌, inl, inr, arith, Bool, cond, ◌==◌, if◌then◌else◌, nat_lt}
use Rattle.std.specs.Prelude.{◌&&◌, IfSome}
use Rattle.std.specs.Option.{option_or}
use Rattle.std.specs.Ordering.{is_eq, nat_cmp}
use Rattle.std.specs.BTreeMap.{BTreeMap, get}
use Rattle.std.specs.Map.{lookup}
use Rattle.std.proofs.lemmas.Option.{none-some, same_Some}
use Rattle.std.proofs.lemmas.Bool.{cases_Bool, cases_eq, cases_lt, eq-eqb, false≢true, lt-ltb, ne_eqb}
use Rattle.std.proofs.lemmas.Bool.Decides.{nat_tests}
use Rattle.sqlite_value.specs.Order.{Row}
use Rattle.transaction_key.specs.TransactionKey.{key_place}
use Rattle.journal.specs.declared.numbers.Numbers.{Numbers}
use Rattle.journal.specs.declared.outcome_index.OutcomeIndex.{OutcomeIndex}
use Rattle.journal.specs.declared.outcome_row.KeptOutcome.{KeptOutcome}
use Rattle.journal.specs.declared.place_row.PlaceRow.{PlaceRow}
use Rattle.journal.specs.declared.place_row.PlaceRow.TheVariants.{Pointer, Whole}
use Rattle.journal.specs.OutcomeIndex.{KnowsPlaces, awaiting_from, has_key_at, is_placed, kept_from, last_number, led_to, outcome_numbered, numbered_from, placed}
use Rattle.journal.proofs.KeptRows.{fewer-await, kept-last, kept-led, last-cases, leads, leads-nowhere}
use Rattle.journal.proofs.LastNumbers.{last-is, last-none, last-of-both, same-last}

-- ---- maps

-- what a map has at a key after a change at one
pub cmp-same : (a b : ℕ) → a ≡ b → is_eq (nat_cmp a b) ≡ true
cmp-same a b is = grind (arith, nat_tests)

pub cmp-apart : (a b : ℕ) → (a ≡ b → ⊥) → is_eq (nat_cmp a b) ≡ false
cmp-apart a b differs = grind (arith, nat_tests)

same-tests : (a b : ℕ) → (a == b) ≡ is_eq (nat_cmp a b)
same-tests a b = elim (cases_eq a b) [
  | inl is ↦ eq-eqb a b is ∙ sym (cmp-same a b is)
  | inr differs ↦ ne_eqb a b differs ∙ sym (cmp-apart a b differs)
]

pub none-in : (m : BTreeMap ℕ ℕ) (q : ℕ) → m.entries ≡ [] → get nat_cmp m q ≡ None
none-in m q empty = ap (λ (es : List (ℕ × ℕ)). lookup (λ k. is_eq (nat_cmp q k)) es) empty

-- ---- the new outcome

-- it has its key's place alone
new-place : (rows : List Row) (n : ℕ) (o : KeptOutcome) (q : ℕ) → outcome_numbered rows n ≡ Some o → key_place o.kept.key < numbered_from → is_placed rows q n ≡ (key_place o.kept.key == q)
unfolding is_placed
new-place rows n o q there low = ap (λ k. nat_lt q numbered_from && has_key_at q k) there ∙ elim (cases_eq (key_place o.kept.key) q) [
  | inl is ↦ let within : nat_lt q numbered_from ≡ true = lt-ltb q numbered_from (subst (λ k. k < numbered_from) is low) in rw within refl
  | inr differs ↦ let none : (key_place o.kept.key == q) ≡ false = ne_eqb (key_place o.kept.key) q differs in rw none (by (nat_lt q numbered_from))
]
  where
    by : (b : Bool) → (b && false) ≡ false
    by true = refl
    by false = refl

-- where it comes behind some numbers, it is the last at its place
pub last-new : (rows : List Row) (first n : ℕ) (o : KeptOutcome) (q : ℕ) → first ≤ n → outcome_numbered rows n ≡ Some o → key_place o.kept.key < numbered_from
    → last_number rows q first (n + 1 - first) ≡ cond (is_eq (nat_cmp (key_place o.kept.key) q)) (Some n) (last_number rows q first (n - first))
unfolding last_number
last-new rows first n o q after there low =
    let count : n + 1 - first ≡ suc (n - first) = omega (arith, after) in
    let end : first + (n - first) ≡ n = omega (arith, after) in
    ap (last_number rows q first) count
    ∙ ap (λ k. if is_placed rows q k then Some k else last_number rows q first (n - first)) end
    ∙ ap (λ b. if b then Some n else last_number rows q first (n - first)) (new-place rows n o q there low)
    ∙ ap (λ b. if b then Some n else last_number rows q first (n - first)) (same-tests (key_place o.kept.key) q)

-- ---- the places are as they were in memory

pub same-index : (rows : List Row) (m : Numbers) (index later : OutcomeIndex) → later.due ≡ index.due → later.fresh ≡ index.fresh → later.begun ≡ index.begun → KnowsPlaces rows m index → KnowsPlaces rows m later
same-index rows m index later due fresh begun knows = record {
  after = rw begun knows.after;
  before = rw begun knows.before;
  fresh = rw (fresh, begun) knows.fresh;
  due = rw (due, begun) knows.due;
  put = rw (due, begun) knows.put;
}

-- ---- the rows change

-- those that await are as they were, and so are their pointers
pub same-places : (old new : List Row) (m n : Numbers) (index : OutcomeIndex) → awaiting_from n ≡ awaiting_from m → n.next ≡ m.next
    → ((k : ℕ) → awaiting_from m ≤ k → outcome_numbered new k ≡ outcome_numbered old k)
    → ((p k : ℕ) → awaiting_from m ≤ k → placed old p ≡ Some (Pointer k) → placed new p ≡ Some (Pointer k))
    → KnowsPlaces old m index → KnowsPlaces new n index
same-places old new m n index base next same pointers knows =
    let after = knows.after in
    let before = knows.before in
    let same-due : (p : ℕ) → last_number new p (awaiting_from n) (index.begun - awaiting_from n) ≡ last_number old p (awaiting_from m) (index.begun - awaiting_from m) =
    (λ p. ap (λ b. last_number new p b (index.begun - b)) base ∙ same-last old new p (awaiting_from m) (index.begun - awaiting_from m) (λ k from to. same k from)) in
    record {
      after = omega (arith, base, after);
      before = omega (arith, next, before);
      fresh = λ p. knows.fresh p ∙ sym (ap (λ k. last_number new p index.begun (k - index.begun)) next ∙ same-last old new p index.begun (m.next - index.begun) (λ k from to. same k (omega (arith, after, from))));
      due = λ p k is. same-due p ∙ knows.due p k is;
      put = λ p k none is.
          let last = sym (same-due p) ∙ is in
          pointers p k (last-is old p (awaiting_from m) (index.begun - awaiting_from m) k last).from (knows.put p k none last);
    }

-- an outcome more awaits
pub added-places : (old new : List Row) (m n : Numbers) (index : OutcomeIndex) (o : KeptOutcome) (fresh : BTreeMap ℕ ℕ)
    → n ≡ record { next = m.next + 1; first = m.first; least = m.least; awaiting = m.awaiting + 1 } → m.awaiting ≤ m.next
    → ((k : ℕ) → (k ≡ m.next → ⊥) → outcome_numbered new k ≡ outcome_numbered old k) → outcome_numbered new m.next ≡ Some o → ((p : ℕ) → placed new p ≡ placed old p) → key_place o.kept.key < numbered_from
    → ((q : ℕ) → get nat_cmp fresh q ≡ cond (is_eq (nat_cmp (key_place o.kept.key) q)) (Some m.next) (get nat_cmp index.fresh q))
    → KnowsPlaces old m index → KnowsPlaces new n (record { due = index.due; fresh = fresh; begun = index.begun; uncounted = true })
added-places old new m n index o fresh is awaits same there at-place low has knows =
    let next : n.next ≡ m.next + 1 = ap (λ (k : Numbers). k.next) is in
    let more : n.awaiting ≡ m.awaiting + 1 = ap (λ (k : Numbers). k.awaiting) is in
    let base : awaiting_from n ≡ awaiting_from m = omega (arith, next, more, awaits) in
    let after = knows.after in
    let before = knows.before in
    let same-due : (p : ℕ) → last_number new p (awaiting_from n) (index.begun - awaiting_from n) ≡ last_number old p (awaiting_from m) (index.begun - awaiting_from m) =
    (λ p. ap (λ b. last_number new p b (index.begun - b)) base ∙ same-last old new p (awaiting_from m) (index.begun - awaiting_from m) (λ k from to. same k (λ at. omega (arith, after, before, to, at)))) in
    record {
      after = omega (arith, base, after);
      before = omega (arith, next, before);
      fresh = λ q. has q
          ∙ ap (λ rest. cond (is_eq (nat_cmp (key_place o.kept.key) q)) (Some m.next) rest)
          (knows.fresh q ∙ sym (same-last old new q index.begun (m.next - index.begun) (λ k from to. same k (λ at. omega (arith, before, to, at)))))
          ∙ sym (ap (λ k. last_number new q index.begun (k - index.begun)) next ∙ last-new new index.begun m.next o q before there low);
      due = λ p k got. same-due p ∙ knows.due p k got;
      put = λ p k none got. at-place p ∙ knows.put p k none (sym (same-due p) ∙ got);
    }

-- the pointer of a place that was due is put
pub put-places : (old new : List Row) (m : Numbers) (index : OutcomeIndex) (due : BTreeMap ℕ ℕ) (p n : ℕ)
    → ((k : ℕ) → outcome_numbered new k ≡ outcome_numbered old k) → placed new p ≡ Some (Pointer n) → ((q : ℕ) → (q ≡ p → ⊥) → placed new q ≡ placed old q)
    → get nat_cmp index.due p ≡ Some n → ((q : ℕ) → get nat_cmp due q ≡ cond (is_eq (nat_cmp p q)) None (get nat_cmp index.due q))
    → KnowsPlaces old m index → KnowsPlaces new m (record { due = due; fresh = index.fresh; begun = index.begun; uncounted = index.uncounted })
put-places old new m index due p n same there others was has knows = record {
  after = knows.after;
  before = knows.before;
  fresh = λ q. knows.fresh q ∙ sym (same-last old new q index.begun (m.next - index.begun) (λ k from to. same k));
  due = λ q k got. same-due q ∙ elim (cases_eq p q) [
    | inl is ↦ let none = has q ∙ ap (λ b. cond b None (get nat_cmp index.due q)) (cmp-same p q is) in absurd (none-some k (sym none ∙ got))
    | inr differs ↦ knows.due q k (sym (has q ∙ ap (λ b. cond b None (get nat_cmp index.due q)) (cmp-apart p q differs)) ∙ got)
  ];
  put = λ q k none got. elim (cases_eq p q) [
    | inl is ↦
        let last = subst (λ r. last_number old r (awaiting_from m) (index.begun - awaiting_from m) ≡ Some n) is (knows.due p n was) in
        let number : n ≡ k = same_Some n k (sym last ∙ sym (same-due q) ∙ got) in
        subst (λ r. placed new r ≡ Some (Pointer k)) is (there ∙ ap (λ x. Some (Pointer x)) number)
    | inr differs ↦ others q (λ at. differs (sym at)) ∙ knows.put q k (sym (has q ∙ ap (λ b. cond b None (get nat_cmp index.due q)) (cmp-apart p q differs)) ∙ none) (sym (same-due q) ∙ got)
  ];
}
  where
    same-due : (q : ℕ) → last_number new q (awaiting_from m) (index.begun - awaiting_from m) ≡ last_number old q (awaiting_from m) (index.begun - awaiting_from m)
    same-due q = same-last old new q (awaiting_from m) (index.begun - awaiting_from m) (λ k from to. same k)

-- the pointers of those since are due
pub round-places : (rows : List Row) (m n : Numbers) (index later : OutcomeIndex) → n.next ≡ m.next → n.awaiting ≡ m.next - index.begun
    → later.due ≡ index.fresh → later.fresh.entries ≡ [] → later.begun ≡ m.next → KnowsPlaces rows m index → KnowsPlaces rows n later
unfolding last_number
round-places rows m n index later next awaits due fresh begun knows =
    let before = knows.before in
    let base : awaiting_from n ≡ index.begun = omega (arith, next, awaits, before) in
    let same-due : (p : ℕ) → get nat_cmp later.due p ≡ last_number rows p (awaiting_from n) (later.begun - awaiting_from n) =
    (λ p. ap (λ (x : BTreeMap ℕ ℕ). get nat_cmp x p) due ∙ knows.fresh p
    ∙ sym (ap (λ b. last_number rows p b (later.begun - b)) base ∙ ap (λ b. last_number rows p index.begun (b - index.begun)) begun)) in
    record {
      after = omega (arith, base, begun, before);
      before = omega (arith, next, begun);
      fresh = λ p.
          let none : n.next - later.begun ≡ 0 = omega (arith, next, begun) in
          none-in later.fresh p fresh ∙ sym (ap (λ k. last_number rows p later.begun k) none);
      due = λ p k got. sym (same-due p) ∙ got;
      put = λ p k none got. absurd (none-some k (sym none ∙ same-due p ∙ got));
    }

-- those that await are read
pub read-places : (rows : List Row) (m : Numbers) (index : OutcomeIndex) → index.begun ≡ awaiting_from m → index.due.entries ≡ []
    → ((p : ℕ) → get nat_cmp index.fresh p ≡ last_number rows p (awaiting_from m) (m.next - awaiting_from m)) → KnowsPlaces rows m index
unfolding last_number
read-places rows m index begun due fresh =
    let none : index.begun - awaiting_from m ≡ 0 = omega (arith, begun) in
    record {
      after = omega (arith, begun);
      before = omega (arith, begun);
      fresh = λ p. fresh p ∙ sym (ap (λ b. last_number rows p b (m.next - b)) begun);
      due = λ p k got. absurd (none-some k (sym (none-in index.due p due) ∙ got));
      put = λ p k no got. absurd (none-some k (sym (ap (last_number rows p (awaiting_from m)) none) ∙ got));
    }

-- ---- what is kept

module _ (rows : List Row) (m : Numbers) (index : OutcomeIndex) (awaits : m.awaiting ≤ m.next) (knows : KnowsPlaces rows m index) where
  many : (index.begun - awaiting_from m) + (m.next - index.begun) ≡ m.awaiting
  many = let after = knows.after in let before = knows.before in omega (arith, awaits, after, before)

  end : awaiting_from m + (index.begun - awaiting_from m) ≡ index.begun
  end = let after = knows.after in omega (arith, after)

  -- where all pointers are put, those before await no more
  pub round-kept : (p : ℕ) → ((q : ℕ) → get nat_cmp index.due q ≡ None) → kept_from rows (awaiting_from m) m.awaiting p ≡ kept_from rows index.begun (m.next - index.begun) p
  round-kept p none =
      ap (λ k. kept_from rows (awaiting_from m) k p) (sym many)
      ∙ fewer-await rows (awaiting_from m) (index.begun - awaiting_from m) (m.next - index.begun) p (λ n is. knows.put p n (none p) is)
      ∙ ap (λ b. kept_from rows b (m.next - index.begun) p) end

  last : (p : ℕ) → last_number rows p (awaiting_from m) m.awaiting ≡ option_or (get nat_cmp index.fresh p) (last_number rows p (awaiting_from m) (index.begun - awaiting_from m))
  last p =
      ap (λ k. last_number rows p (awaiting_from m) k) (sym many)
      ∙ last-of-both rows p (awaiting_from m) (index.begun - awaiting_from m) (m.next - index.begun)
      ∙ ap (λ o. option_or o (last_number rows p (awaiting_from m) (index.begun - awaiting_from m))) (ap (λ b. last_number rows p b (m.next - index.begun)) end ∙ sym (knows.fresh p))

  -- one that is due awaits
  pub none-awaits : (p n : ℕ) → get nat_cmp index.due p ≡ Some n → last_number rows p (awaiting_from m) m.awaiting ≡ None → ⊥
  none-awaits p n was none = by (get nat_cmp index.fresh p) (sym (last p) ∙ none)
    where
      by : (fresh : Option ℕ) → option_or fresh (last_number rows p (awaiting_from m) (index.begun - awaiting_from m)) ≡ None → ⊥
      by None is = none-some n (sym is ∙ knows.due p n was)
      by (Some k) is = none-some k (sym is)

  -- one in memory is the last
  pub number-kept : (p n : ℕ) → option_or (get nat_cmp index.fresh p) (get nat_cmp index.due p) ≡ Some n → kept_from rows (awaiting_from m) m.awaiting p ≡ outcome_numbered rows n
  number-kept p n is = by (get nat_cmp index.fresh p) refl is
    where
      by : (fresh : Option ℕ) → get nat_cmp index.fresh p ≡ fresh → option_or fresh (get nat_cmp index.due p) ≡ Some n → kept_from rows (awaiting_from m) m.awaiting p ≡ outcome_numbered rows n
      by None at is = kept-last rows (awaiting_from m) m.awaiting p n (last p ∙ ap (λ o. option_or o (last_number rows p (awaiting_from m) (index.begun - awaiting_from m))) at ∙ knows.due p n is)
      by (Some k) at is = kept-last rows (awaiting_from m) m.awaiting p n (last p ∙ ap (λ o. option_or o (last_number rows p (awaiting_from m) (index.begun - awaiting_from m))) at ∙ is)

  -- else the row at the place says it
  module _ (p : ℕ) (no : option_or (get nat_cmp index.fresh p) (get nat_cmp index.due p) ≡ None) where
    no-fresh : get nat_cmp index.fresh p ≡ None
    no-fresh = by (get nat_cmp index.fresh p) no
      where
        by : (fresh : Option ℕ) → option_or fresh (get nat_cmp index.due p) ≡ None → fresh ≡ None
        by None none = refl
        by (Some k) none = none

    no-due : get nat_cmp index.due p ≡ None
    no-due = ap (λ o. option_or o (get nat_cmp index.due p)) (sym no-fresh) ∙ no

    rest : last_number rows p (awaiting_from m) m.awaiting ≡ last_number rows p (awaiting_from m) (index.begun - awaiting_from m)
    rest = last p ∙ ap (λ o. option_or o (last_number rows p (awaiting_from m) (index.begun - awaiting_from m))) no-fresh

    -- one that awaits has its pointer there
    put-there : (it : Option PlaceRow) → placed rows p ≡ it → ((n : ℕ) → it ≡ Some (Pointer n) → ⊥) → kept_from rows (awaiting_from m) m.awaiting p ≡ led_to rows (awaiting_from m) p it
    put-there it at other =
        last-cases (kept_from rows (awaiting_from m) m.awaiting p ≡ led_to rows (awaiting_from m) p it) (last_number rows p (awaiting_from m) (index.begun - awaiting_from m))
        (λ none. kept-led rows (awaiting_from m) m.awaiting p (rest ∙ none) ∙ ap (led_to rows (awaiting_from m) p) at)
        (λ n is. absurd (other n (sym at ∙ knows.put p n no-due is)))

    pub none-kept : placed rows p ≡ None → kept_from rows (awaiting_from m) m.awaiting p ≡ None
    none-kept at = put-there None at (λ n is. absurd (cc))

    pub whole-kept : (o : KeptOutcome) → placed rows p ≡ Some (Whole o) → kept_from rows (awaiting_from m) m.awaiting p ≡ Some o
    whole-kept o at = put-there (Some (Whole o)) at (λ n is. absurd (cc))

    module _ (n : ℕ) (at : placed rows p ≡ Some (Pointer n)) (low : p < numbered_from) (before : n < index.begun) (here : IfSome (outcome_numbered rows n) (λ (o : KeptOutcome). key_place o.kept.key ≡ p)) where
      -- an outcome that is there has the place
      there : is_placed rows p n ≡ false → outcome_numbered rows n ≡ None
      unfolding is_placed
      there elsewhere = by (outcome_numbered rows n) refl here
        where
          by : (k : Option KeptOutcome) → outcome_numbered rows n ≡ k → IfSome k (λ (o : KeptOutcome). key_place o.kept.key ≡ p) → outcome_numbered rows n ≡ None
          by None is it = is
          by (Some o) is it = absurd (false≢true (sym elsewhere ∙ ap (λ x. nat_lt p numbered_from && has_key_at p x) is ∙ placed-so))
            where
              placed-so : (nat_lt p numbered_from && (key_place o.kept.key == p)) ≡ true
              placed-so = rw (lt-ltb p numbered_from low, eq-eqb (key_place o.kept.key) p it) refl

      pub pointer-kept : kept_from rows (awaiting_from m) m.awaiting p ≡ outcome_numbered rows n
      pointer-kept =
          last-cases (kept_from rows (awaiting_from m) m.awaiting p ≡ outcome_numbered rows n) (last_number rows p (awaiting_from m) (index.begun - awaiting_from m))
          (λ none. kept-led rows (awaiting_from m) m.awaiting p (rest ∙ none) ∙ ap (led_to rows (awaiting_from m) p) at ∙ led none)
          (λ k is. kept-last rows (awaiting_from m) m.awaiting p k (rest ∙ is) ∙ ap (outcome_numbered rows) (same k (sym (knows.put p k no-due is) ∙ at)))
        where
          same : (k : ℕ) → Some (Pointer k) ≡ Some (Pointer n) → k ≡ n
          same k is = cc

          led : last_number rows p (awaiting_from m) (index.begun - awaiting_from m) ≡ None → led_to rows (awaiting_from m) p (Some (Pointer n)) ≡ outcome_numbered rows n
          led none = elim (cases_Bool (is_placed rows p n)) [
            | inl found ↦ elim (cases_lt n (awaiting_from m)) [
              | inl lower ↦ leads rows (awaiting_from m) p n lower found
              | inr later ↦ absurd (false≢true (sym (last-none rows p (awaiting_from m) (index.begun - awaiting_from m) n none later (omega (arith, before, end))) ∙ found))
            ]
            | inr elsewhere ↦ leads-nowhere rows (awaiting_from m) p n elsewhere ∙ sym (there elsewhere)
          ]
