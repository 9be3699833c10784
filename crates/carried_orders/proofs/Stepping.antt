-- One operation after another is merged.
use Rattle.std.proofs.Common.{◌≡◌, ℕ, zero, suc, ◌+◌, ◌<◌, ◌≤◌, true, false, not, ◌&&◌, ◌==◌, List, [], ◌∷◌, ◌++◌, map, filter, length, take, set, get_or, replicate, All, Option, Some, None, slice_get, refl, sym, ap, subst, ◌∙◌, inl, inr, append_assoc, append-nil, arith}
use Rattle.std.specs.List.{AllByRecursion}
use Rattle.std.proofs.lemmas.Bool.{cases_Bool, eqb-true, eq-eqb, false≢true}
use Rattle.std.proofs.lemmas.Bool.Decides.{nat_tests}
use Rattle.std.proofs.lemmas.List.{map-append, length-map, length-set, take_all}
use Rattle.std.proofs.lemmas.Option.{none-some, same_Some, slice_get_cases, slice_get_within, slice_get_read, slice_get-get_or, get_or_from_slice_get}
use Rattle.type_table.proofs.Elements.{each-push, each-found, element_at, cases-set, take-found}
use Rattle.object_trait.specs.Orders.{Pairs}
use Rattle.object_trait.specs.Meaning.{Meaning}
use Rattle.object_trait.specs.declared.event.Event.{Event}
use Rattle.object_trait.specs.declared.log_entry.LogEntry.{LogEntry}
use Rattle.serial_order.specs.Operations.{is_among, is_by, at_object, of}
use Rattle.serial_order.specs.Represent.{plain}
use Rattle.serial_order.specs.declared.entry.Entry.{Entry}
use Rattle.serial_order.proofs.Lists.{filter-more, filter-apart, of-more, of-apart}
use Rattle.carried_runs.specs.Carried.{is_carried, number_in, begins_from, done_again, carried_by}
use Rattle.carried_runs.proofs.FirstEvents.{meaning-at}
use Rattle.carried_runs.proofs.Renumbering.{number-below}
use Rattle.open_transactions.specs.Transactions.{Row, row, worker_of, objects_of_row}
use Rattle.carried_orders.specs.Merging.{worked_at, beginner_in, AreMergedEvents, IsMergedSoFar, IsNext, IsNoneNext, AreAtEnds, again_event}
use Rattle.carried_orders.specs.declared.merging.Next.{Next}

-- ---- numbers

-- a place at which it stands
pub place-of : (P : List ℕ) (t : ℕ) → is_among P t ≡ true → (i : ℕ) × (slice_get P i ≡ Some t)
place-of [] t inside = absurd (false≢true inside)
place-of (u ∷ P) t inside =
    elim (cases_Bool (u == t)) [
      | inl here ↦ (zero, ap Some (eqb-true u t here))
      | inr other ↦ let rest = place-of P t (rw other at inside) in (suc rest.0, rest.1)
    ]

-- where t stands is its number
place-number : (P : List ℕ) (i t : ℕ) → Pairs (λ a b. a < b) P → slice_get P i ≡ Some t → number_in P t ≡ i
place-number [] i t ascend there = absurd (none-some t there)
place-number (u ∷ P) zero t ascend there = let here : (u == t) ≡ true = eq-eqb u t (same_Some u t there) in rw here refl
place-number (u ∷ P) (suc i) t ascend there =
    let more = each-found (λ b. u < b) P i t ascend.0 there in
    let other : (u == t) ≡ false = grind (arith, nat_tests, more) in
    rw other (ap suc (place-number P i t ascend.1 there))

-- whose number i is stands there
number-is : (P : List ℕ) (i t u : ℕ) → Pairs (λ a b. a < b) P → slice_get P i ≡ Some t → is_among P u ≡ true → number_in P u ≡ i → u ≡ t
number-is P i t u ascend there inside is =
    let place = place-of P u inside in
    let same : place.0 ≡ i = sym (place-number P place.0 u ascend place.1) ∙ is in
    same_Some u t (sym place.1 ∙ ap (slice_get P) same ∙ there)

-- ---- the beginning

found-zeros : (n i h : ℕ) → slice_get (replicate n 0) i ≡ Some h → h ≡ 0
found-zeros zero i h there = absurd (none-some h there)
found-zeros (suc n) zero h there = sym (same_Some 0 h there)
found-zeros (suc n) (suc i) h there = found-zeros n i h there

length-zeros : (n : ℕ) → length {A = ℕ} (replicate n 0) ≡ n
length-zeros zero = refl
length-zeros (suc n) = ap suc (length-zeros n)

pub so-far-none : (ms : List Meaning) (rows : List (Option Row)) (P heads counts : List ℕ) (events : List Event) → events ≡ begins_from (beginner_in rows) 0 P
    → heads ≡ replicate (length ms) 0 → counts ≡ replicate (length P) 0 → IsMergedSoFar ms rows P heads counts events
so-far-none ms rows P heads counts events begin no_heads no_counts = record {
  order = [];
  are = begin ∙ sym (append-nil (begins_from (beginner_in rows) 0 P));
  as_many = ap length no_heads ∙ length-zeros (length ms);
  as_many_counts = ap length no_counts ∙ length-zeros (length P);
  inside = tt;
  at_each = λ x h m there head.
      let none : h ≡ 0 = found-zeros (length ms) x h (ap (λ hs. slice_get hs x) (sym no_heads) ∙ head) in
      rw none refl;
  of_each = λ i t c there count.
      let none : c ≡ 0 = found-zeros (length P) i c (ap (λ cs. slice_get cs i) (sym no_counts) ∙ count) in
      rw none refl;
}

-- ---- one more

module _ (ms : List Meaning) (rows : List (Option Row)) (P heads counts : List ℕ) (events more : List Event) (i x c h t : ℕ) (m : Meaning) (next : Next)
    (so_far : IsMergedSoFar ms rows P heads counts events) (ascend : Pairs (λ a b. a < b) P) (stands : slice_get P i ≡ Some t) (counted : slice_get counts i ≡ Some c)
    (there : slice_get ms x ≡ Some m) (head : slice_get heads x ≡ Some h) (place : slice_get (objects_of_row (row rows t)) c ≡ Some x) (is : IsNext P m.log h next)
    (turn : next.transaction ≡ i) (pushed : more ≡ events ++ again_event (worker_of (row rows t)) i x next ∷ []) where
  abbrev entry : LogEntry
  entry = is.entry

  abbrev e : Entry
  e = plain x entry

  by_t : entry.by ≡ t
  by_t = number-is P i t entry.by ascend stands is.mine (sym is.transaction ∙ turn)

  are-more : more ≡ carried_by (beginner_in rows) P (so_far.order ++ e ∷ [])
  are-more =
      pushed
      ∙ ap (λ es. es ++ again_event (worker_of (row rows t)) i x next ∷ []) so_far.are
      ∙ ap (λ f. carried_by (beginner_in rows) P so_far.order ++ f ∷ []) one
      ∙ append_assoc (begins_from (beginner_in rows) 0 P) (map (done_again (beginner_in rows) P) so_far.order) (done_again (beginner_in rows) P e ∷ [])
      ∙ ap (λ es. begins_from (beginner_in rows) 0 P ++ es) (sym (map-append (done_again (beginner_in rows) P) so_far.order (e ∷ [])))
    where
      one : again_event (worker_of (row rows t)) i x next ≡ done_again (beginner_in rows) P e
      one =
          ap (λ u. again_event (worker_of (row rows u)) i x next) (sym by_t)
          ∙ ap (λ j. again_event (worker_of (row rows entry.by)) j x next) (sym turn ∙ is.transaction)
          ∙ ap (λ k. again_event (worker_of (row rows entry.by)) (number_in P entry.by) x (record next { op = k })) is.operation

  carried : is_carried P entry ≡ true
  carried = rw (is.mine, is.undone) refl

  at-x : at_object x (so_far.order ++ e ∷ []) ≡ map (plain x) (filter (is_carried P) (take (next.place + 1) m.log))
  at-x =
      filter-more (λ (f : Entry). f.at == x) so_far.order e (eq-eqb x x refl)
      ∙ ap (λ V. V ++ e ∷ []) (so_far.at_each x h m there head ∙ ap (map (plain x)) (sym is.first))
      ∙ sym (map-append (plain x) (filter (is_carried P) (take next.place m.log)) (entry ∷ []))
      ∙ ap (map (plain x)) (sym (filter-more (is_carried P) (take next.place m.log) entry carried) ∙ ap (filter (is_carried P)) (sym (take-found m.log next.place entry is.there)))

  at-more : (y g : ℕ) (n : Meaning) → slice_get ms y ≡ Some n → slice_get (set heads x (next.place + 1)) y ≡ Some g
      → at_object y (so_far.order ++ e ∷ []) ≡ map (plain y) (filter (is_carried P) (take g n.log))
  at-more y g n here it =
      elim (cases-set heads x (next.place + 1) y g it) [
        | inl same ↦
            let which : m ≡ n = same_Some m n (sym there ∙ ap (slice_get ms) (sym same.0) ∙ here) in
            subst (λ z. at_object z (so_far.order ++ e ∷ []) ≡ map (plain z) (filter (is_carried P) (take g n.log))) (sym same.0)
            (at-x ∙ ap (λ k. map (plain x) (filter (is_carried P) (take k m.log))) same.1 ∙ ap (λ (o : Meaning). map (plain x) (filter (is_carried P) (take g o.log))) which)
        | inr other ↦
            let elsewhere : (x == y) ≡ false = let apart = other.0 in grind (arith, nat_tests, apart) in
            filter-apart (λ (f : Entry). f.at == y) so_far.order e elsewhere ∙ so_far.at_each y g n here other.1
      ]

  of-t : worked_at (of t (so_far.order ++ e ∷ [])) ≡ take (c + 1) (objects_of_row (row rows t))
  of-t =
      ap worked_at (of-more t so_far.order e (eq-eqb entry.by t by_t))
      ∙ map-append (λ (f : Entry). f.at) (of t so_far.order) (e ∷ [])
      ∙ ap (λ L. L ++ x ∷ []) (so_far.of_each i t c stands counted)
      ∙ sym (take-found (objects_of_row (row rows t)) c x place)

  of-others : (j u d : ℕ) → slice_get P j ≡ Some u → (j == i) ≡ false → slice_get counts j ≡ Some d → worked_at (of u (so_far.order ++ e ∷ [])) ≡ take d (objects_of_row (row rows u))
  of-others j u d here other count =
      elim (cases_Bool (entry.by == u)) [
        | inl mine ↦
            let same : j ≡ i = sym (place-number P j u ascend here) ∙ ap (number_in P) (sym (eqb-true entry.by u mine) ∙ by_t) ∙ place-number P i t ascend stands in
            absurd (false≢true (sym other ∙ eq-eqb j i same))
        | inr apart ↦ ap worked_at (of-apart u so_far.order e apart) ∙ so_far.of_each j u d here count
      ]

  of-more_each : (j u d : ℕ) → slice_get P j ≡ Some u → slice_get (set counts i (c + 1)) j ≡ Some d → worked_at (of u (so_far.order ++ e ∷ [])) ≡ take d (objects_of_row (row rows u))
  of-more_each j u d here count =
      elim (cases-set counts i (c + 1) j d count) [
        | inl same ↦
            let which : t ≡ u = same_Some t u (sym stands ∙ ap (slice_get P) (sym same.0) ∙ here) in
            subst (λ v. worked_at (of v (so_far.order ++ e ∷ [])) ≡ take d (objects_of_row (row rows v))) which
            (of-t ∙ ap (λ k. take k (objects_of_row (row rows t))) same.1)
        | inr other ↦ of-others j u d here other.0 other.1
      ]

  pub so-far-more : length (set heads x (next.place + 1)) ≡ length heads → length (set counts i (c + 1)) ≡ length counts
      → IsMergedSoFar ms rows P (set heads x (next.place + 1)) (set counts i (c + 1)) more
  so-far-more long many = record {
    order = so_far.order ++ e ∷ [];
    are = are-more;
    as_many = long ∙ so_far.as_many;
    as_many_counts = many ∙ so_far.as_many_counts;
    inside = each-push (λ (f : Entry). f.at < length ms) so_far.order e so_far.inside (slice_get_within ms x m there);
    at_each = at-more;
    of_each = of-more_each;
  }

-- ---- the end

pub whole-events : (ms : List Meaning) (rows : List (Option Row)) (P heads counts : List ℕ) (events : List Event) → IsMergedSoFar ms rows P heads counts events
    → AreAtEnds ms P heads → AreMergedEvents ms rows P events
whole-events ms rows P heads counts events so_far ends = record {
  order = so_far.order;
  are = so_far.are;
  merged = record {
    inside = so_far.inside;
    at_each = λ x m there.
        let head = element_at heads x (let within = slice_get_within ms x m there in omega (arith, within, so_far.as_many)) in
        so_far.at_each x head.0 m there head.1 ∙ ap (map (plain x)) (sym (ends x head.0 m there head.1));
    of_each = λ i t there.
        let count = element_at counts i (let within = slice_get_within P i t there in omega (arith, within, so_far.as_many_counts)) in
        (count.0, so_far.of_each i t count.0 there count.1);
  };
}

-- ---- the next entry

pub next-isnt : (P : List ℕ) (log : List LogEntry) (i from : ℕ) (e : LogEntry) → slice_get log i ≡ Some e → is_carried P e ≡ false
    → filter (is_carried P) (take i log) ≡ filter (is_carried P) (take from log) → filter (is_carried P) (take (i + 1) log) ≡ filter (is_carried P) (take from log)
next-isnt P log i from e there isnt so_far =
    ap (filter (is_carried P)) (take-found log i e there) ∙ filter-apart (is_carried P) (take i log) e isnt ∙ so_far

pub next-none : (P : List ℕ) (log : List LogEntry) (i from : ℕ) → slice_get log i ≡ None → filter (is_carried P) (take i log) ≡ filter (is_carried P) (take from log) → IsNoneNext P log from
next-none P log i from none so_far =
    elim ((slice_get_cases log i).1) [
      | inl found ↦ absurd (none-some found.0 (sym none ∙ found.2))
      | inr out ↦ ap (filter (is_carried P)) (sym (take_all i log out.0)) ∙ so_far
    ]

-- one that is done isn't carried
pub done-isnt : (P : List ℕ) (e : LogEntry) → e.done ≡ true → is_carried P e ≡ false
done-isnt P e done =
    elim (cases_Bool (is_among P e.by)) [
      | inl mine ↦ rw (mine, done) refl
      | inr other ↦ rw other refl
    ]

-- nor is another's
pub others-isnt : (P : List ℕ) (e : LogEntry) → is_among P e.by ≡ false → is_carried P e ≡ false
others-isnt P e other = rw other refl

-- ---- a look

-- an object of a place is there
pub place-inside : (rows : List (Option Row)) (n : ℕ) (P : List ℕ) (i t c x : ℕ) → AllByRecursion (λ t. All (λ x. x < n) (objects_of_row (row rows t))) P
    → slice_get P i ≡ Some t → slice_get (objects_of_row (row rows t)) c ≡ Some x → x < n
place-inside rows n P i t c x inside stands place =
    let all = each-found (λ t. All (λ x. x < n) (objects_of_row (row rows t))) P i t inside stands in
    subst (λ y. y < n) (get_or_from_slice_get (objects_of_row (row rows t)) c x x place) (all c x (slice_get_within (objects_of_row (row rows t)) c x place))

-- what a look finds out, and does
module _ {R : Type 0} (meaning : R → Meaning) (objects : List R) (rows : List (Option Row)) (P heads counts : List ℕ) (events : List Event) (i count : ℕ)
    (so_far : IsMergedSoFar (map meaning objects) rows P heads counts events) (inside : AllByRecursion (λ t. All (λ x. x < length objects) (objects_of_row (row rows t))) P)
    (there : i < length P) (places : List ℕ) (are : places ≡ objects_of_row (row rows (get_or P i 0))) (counted : count ≡ get_or counts i count) (more : count < length places)
    (place x : ℕ) (at : place ≡ get_or places count place) (number : x ≡ place) (object : R) (its : object ≡ get_or objects x object) where
  abbrev t : ℕ
  t = get_or P i 0

  stands : slice_get P i ≡ Some t
  stands = slice_get-get_or P i 0 there

  placed : slice_get (objects_of_row (row rows t)) count ≡ Some x
  placed = rw (← are, number) (slice_get_read places (length places) count place refl more at)

  pub object-inside : x < length objects
  object-inside = place-inside rows (length objects) P i t count x inside stands placed

  pub means : slice_get (map meaning objects) x ≡ Some (meaning object)
  means = meaning-at meaning objects x object object-inside its

  pub looked : (heads_then counts_then : List ℕ) (events_then : List Event) (h : ℕ) (next : Next) → h ≡ get_or heads x h → Pairs (λ a b. a < b) P → IsNext P (meaning object).log h next → next.transaction ≡ i
      → events_then ≡ events ++ again_event (worker_of (row rows t)) i x next ∷ [] → heads_then ≡ set heads x (next.place + 1) → counts_then ≡ set counts i (count + 1)
      → IsMergedSoFar (map meaning objects) rows P heads_then counts_then events_then
  looked heads_then counts_then events_then h next headed ascend is turn pushed head new_count =
      let within = object-inside in
      let head_there : slice_get heads x ≡ Some h = slice_get_read heads (length heads) x h refl (omega (arith, within, so_far.as_many, length-map objects meaning)) headed in
      let count_there : slice_get counts i ≡ Some count = slice_get_read counts (length counts) i count refl (omega (arith, there, so_far.as_many_counts)) counted in
      rw (head, new_count)
      (so-far-more (map meaning objects) rows P heads counts events events_then i x count h t (meaning object) next
      so_far ascend stands count_there means head_there placed is turn pushed (length-set heads x (next.place + 1)) (length-set counts i (count + 1)))

-- whose turn it is is one of them
pub turn-inside : (P : List ℕ) (log : List LogEntry) (from : ℕ) (next : Next) → IsNext P log from next → next.transaction < length P
turn-inside P log from next is = let low = number-below P is.entry.by is.mine in omega (arith, low, is.transaction)

-- the entry is in the log
pub next-within : (P : List ℕ) (log : List LogEntry) (from : ℕ) (next : Next) → IsNext P log from next → next.place < length log
next-within P log from next is = slice_get_within log next.place is.entry is.there

-- the log of the object at x has no more
pub none-more : (ms : List Meaning) (P heads : List ℕ) (x y h : ℕ) (m its : Meaning) → y ≡ x → slice_get ms y ≡ Some m → slice_get heads y ≡ Some h → slice_get ms x ≡ Some its
    → IsNoneNext P its.log (get_or heads x 0) → IsNoneNext P m.log h
none-more ms P heads x y h m its here there head is none =
    let which : its ≡ m = same_Some its m (sym is ∙ ap (slice_get ms) (sym here) ∙ there) in
    let place : get_or heads x 0 ≡ h = ap (λ z. get_or heads z 0) (sym here) ∙ get_or_from_slice_get heads y h 0 head in
    subst (λ (o : Meaning). IsNoneNext P o.log h) which (subst (λ k. IsNoneNext P its.log k) place none)
