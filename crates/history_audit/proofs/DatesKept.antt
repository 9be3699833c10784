-- One more event, from the last one back: what is kept of dates.
use Rattle.std.proofs.Common.{◌≡◌, ℕ, ◌+◌, ◌-◌, ◌<◌, true, false, not, ◌==◌, nat_lt, List, [], ◌∷◌, length, take, drop, set, get_or, replicate, Some, slice_get, refl, sym, ap, subst, ◌∙◌, inl, inr, arith, length-append}
use Rattle.std.specs.Prelude.{if◌then◌else◌, min, max}
use Rattle.std.proofs.lemmas.Bool.{cases_Bool, eqb-true, eq-eqb}
use Rattle.std.proofs.lemmas.Bool.Decides.{nat_tests}
use Rattle.std.proofs.lemmas.List.{take_all, drop_all, length-replicate, get_or-replicate, get_or-set_same, get_or-set_other, length-set}
use Rattle.std.proofs.lemmas.Option.{slice_get_within, get_or_from_slice_get}
use Rattle.type_table.proofs.Elements.{next_there, take-found}
use Rattle.object_trait.specs.declared.event.Event.{Event}
use Rattle.object_trait.specs.declared.event.EventKind.{EventKind}
use Rattle.object_trait.specs.declared.event.EventKind.TheVariants.{Op, Rollback}
use Rattle.serial_order.specs.Operations.{is_among}
use Rattle.serial_order.specs.History.{aborts, commits, committed_by}
use Rattle.serial_order.specs.Readings.{is_op_of, is_rolled_back, taken_back}
use Rattle.serial_order.proofs.Events.{commits-snoc}
use Rattle.serial_order.proofs.Reach.{op_count, reach, rolled_back-reach}
use Rattle.history_audit.specs.Dates.{AreDatesFrom, date_from, taken_before}
use Rattle.history_audit.specs.declared.dates.Dates.{Dates}
use Rattle.history_audit.specs.OrderTests.{IsDate}
use Rattle.history_audit.proofs.DatesExact.{dated}
use Rattle.history_judge.proofs.Lists.{apart}

-- ---- what these events take back

taken-reach : (u : ℕ) (K : List Event) → taken_before u K ≡ reach u K 0
taken-reach u [] = refl
taken-reach u (e ∷ K) = ap (λ n. (taken_back u e.kind + n) - op_count u e.kind) (taken-reach u K)

-- an operation before them is struck where they take one back
struck-before : (u : ℕ) (K : List Event) → is_rolled_back u K ≡ nat_lt 0 (taken_before u K)
struck-before u K = rolled_back-reach u K ∙ ap (nat_lt 0) (sym (taken-reach u K))

-- ---- numbers

-- what is kept of u: at this place, with this number of commits before it, by these events
pub record IsKeptOf (u at committed : ℕ) (K : List Event) (taken date : ℕ) : Type 0 where
  pub fewer : min taken at ≡ min (taken_before u K) at
  pub same : date ≡ date_from u committed K

-- what is taken back by an operation, where no more counts than there are events before it
op-taken : (v r at : ℕ) → min v (at + 1) ≡ min r (at + 1) → min (v - 1) at ≡ min ((0 + r) - 1) at
op-taken v r at known = omega (arith, known)

op-date : (v r at date n : ℕ) → min v (at + 1) ≡ min r (at + 1) → (if v == 0 then max date n else date) ≡ max (if not (nat_lt 0 r) then n else 0) date
op-date v r at date n known =
    elim (cases_Bool (v == 0)) [
      | inl is ↦
          let none : nat_lt 0 r ≡ false = grind (arith, nat_tests, known, is) in
          rw (is, none) (omega arith)
      | inr isnt ↦
          let some : nat_lt 0 r ≡ true = grind (arith, nat_tests, known, isnt) in
          rw (isnt, some) (omega arith)
    ]

rollback-taken : (v r n at most : ℕ) → at < most → min v (at + 1) ≡ min r (at + 1) → min (min (v + n) most) at ≡ min ((n + r) - 0) at
rollback-taken v r n at most inside known = omega (arith, inside, known)

-- an event that is no operation of u and takes nothing of u back
kept-none : (u at committed more taken date : ℕ) (e : Event) (K : List Event) → is_op_of u e.kind ≡ false → taken_back u e.kind ≡ 0 → committed + length (committed_by e.kind) ≡ more
    → IsKeptOf u (at + 1) more K taken date → IsKeptOf u at committed (e ∷ K) taken date
kept-none u at committed more taken date e K op none is known =
    let before = known.fewer in
    let same = known.same in
    record {
      fewer = rw (op, none) (omega (arith, before));
      same = rw (op, is) (omega (arith, same));
    }

-- an operation of u
kept-op : (u w x k at committed taken date : ℕ) (K : List Event) → IsKeptOf u (at + 1) committed K taken date
    → IsKeptOf u at committed ((record { worker = w; kind = Op k u x }) ∷ K) (taken - 1) (if taken == 0 then max date committed else date)
kept-op u w x k at committed taken date K known =
    let same : date ≡ date_from u (committed + 0) K = known.same ∙ ap (λ n. date_from u n K) (omega arith) in
    record {
      fewer = rw (eq-eqb u u refl) (op-taken taken (taken_before u K) at known.fewer);
      same =
          op-date taken (taken_before u K) at date committed known.fewer
          ∙ ap (λ d. max (if not (nat_lt 0 (taken_before u K)) then committed else 0) d) same
          ∙ rw (eq-eqb u u refl, struck-before u K) refl;
    }

-- a rollback of u
kept-rollback : (u w n at committed taken date most : ℕ) (K : List Event) → at < most → IsKeptOf u (at + 1) committed K taken date
    → IsKeptOf u at committed ((record { worker = w; kind = Rollback u n }) ∷ K) (min (taken + n) most) date
kept-rollback u w n at committed taken date most K inside known =
    let same : date ≡ date_from u (committed + 0) K = known.same ∙ ap (λ m. date_from u m K) (omega arith) in
    record {
      fewer = rw (eq-eqb u u refl) (rollback-taken taken (taken_before u K) n at most inside known.fewer);
      same = omega (arith, same);
    }

-- ---- all that is kept

kept-same : (u at n : ℕ) (K : List Event) (v w d f : ℕ) → v ≡ w → d ≡ f → IsKeptOf u at n K w f → IsKeptOf u at n K v d
kept-same u at n K v w d f taken date known = record { fewer = ap (λ x. min x at) taken ∙ known.fewer; same = date ∙ known.same }

kept-kind : (u at n : ℕ) (e : Event) (K : List Event) (happened : EventKind) (v d : ℕ) → e.kind ≡ happened → IsKeptOf u at n ((record { worker = e.worker; kind = happened }) ∷ K) v d → IsKeptOf u at n (e ∷ K) v d
kept-kind u at n e K happened v d is known = let P : EventKind → Type 0 = λ k. IsKeptOf u at n ((record { worker = e.worker; kind = k }) ∷ K) v d in subst P (sym is) known

-- one of a list in which one changed
set-here : (l : List ℕ) (t u v : ℕ) (change : ℕ → ℕ) → (t == u) ≡ true → u < length l → v ≡ change u → get_or (set l t (change t)) u 0 ≡ v
set-here l t u v change same low is =
    let P : ℕ → Type 0 = λ i. get_or (set l i (change i)) u 0 ≡ v in
    subst P (sym (eqb-true t u same)) (get_or-set_same l u (change u) 0 low ∙ sym is)

set-apart : (l : List ℕ) (t u v : ℕ) → (t == u) ≡ false → get_or (set l t v) u 0 ≡ get_or l u 0
set-apart l t u v other = get_or-set_other l t u v 0 (λ turned. apart t u other (sym turned))

-- what is kept of one
kept-of : (at : ℕ) (H : List Event) (last : Dates) (u : ℕ) → AreDatesFrom at H last → u < length last.dates.items
    → IsKeptOf u at (length (commits (take at H))) (drop at H) (get_or last.taken_back.items u 0) (get_or last.dates.items u 0)
kept-of at H last u known low = record { fewer = known.taken_back u low; same = known.dates u low }

-- after the last event
pub kept-last : (H : List Event) (n above : ℕ) (last : Dates) → n ≡ length (commits H) → last.committed ≡ n → last.taken_back.items ≡ replicate above 0 → last.dates.items ≡ replicate above 0
    → AreDatesFrom (length H) H last
kept-last H n above last count committed taken dates =
    let below : (u : ℕ) → u < length last.dates.items → u < above = λ u low. let many = ap length dates ∙ length-replicate above 0 in omega (arith, many, low) in
    let nothing : drop (length H) H ≡ [] = drop_all (length H) H (omega arith) in
    record {
      committed = committed ∙ count ∙ ap (λ K. length (commits K)) (sym (take_all (length H) H (omega arith)));
      as_many = rw (taken, dates) refl;
      taken_back = λ u low. ap (λ ds. min (get_or ds u 0) (length H)) taken ∙ ap (λ v. min v (length H)) (get_or-replicate above u 0 0 (below u low)) ∙ ap (λ K. min (taken_before u K) (length H)) (sym nothing);
      dates = λ u low. ap (λ ds. get_or ds u 0) dates ∙ get_or-replicate above u 0 0 (below u low) ∙ ap (λ K. date_from u (length (commits (take (length H) H))) K) (sym nothing);
    }

-- before the first event
pub kept-first : (H : List Event) (at : ℕ) (last : Dates) → at ≡ 0 → AreDatesFrom at H last → (u : ℕ) → u < length last.dates.items → is_among (aborts H) u ≡ false → IsDate H u (get_or last.dates.items u 0)
kept-first H at last is known u low none =
    let P : ℕ → Type 0 = λ n. get_or last.dates.items u 0 ≡ date_from u (length (commits (take n H))) (drop n H) in
    subst (IsDate H u) (sym (subst P is (known.dates u low))) (dated H u none)

module _ (H : List Event) (at : ℕ) (e : Event) (here : slice_get H at ≡ Some e) where
  from-here : drop at H ≡ e ∷ drop (at + 1) H
  from-here = next_there H H at e refl (slice_get_within H at e here) (sym (get_or_from_slice_get H at e e here))

  -- how many commit before the events after it
  count-here : length (commits (take at H)) + length (committed_by e.kind) ≡ length (commits (take (at + 1) H))
  count-here = sym (ap (λ K. length (commits K)) (take-found H at e here) ∙ ap length (commits-snoc (take at H) e) ∙ length-append (commits (take at H)) (committed_by e.kind))

  -- what was kept of each is kept
  kept-more : (new : Dates) → new.committed ≡ length (commits (take at H)) → length new.taken_back.items ≡ length new.dates.items
      → ((u : ℕ) → u < length new.dates.items → IsKeptOf u at (length (commits (take at H))) (e ∷ drop (at + 1) H) (get_or new.taken_back.items u 0) (get_or new.dates.items u 0))
      → AreDatesFrom at H new
  kept-more new committed as_many each = record {
    committed = committed;
    as_many = as_many;
    taken_back = λ u low. (each u low).fewer ∙ ap (λ K. min (taken_before u K) at) (sym from-here);
    dates = λ u low. (each u low).same ∙ ap (λ K. date_from u (length (commits (take at H))) K) (sym from-here);
  }

  module _ (old : Dates) (known : AreDatesFrom (at + 1) H old) where
    -- of one of which the event says nothing
    none-of_it : (u : ℕ) → u < length old.dates.items → is_op_of u e.kind ≡ false → taken_back u e.kind ≡ 0
        → IsKeptOf u at (length (commits (take at H))) (e ∷ drop (at + 1) H) (get_or old.taken_back.items u 0) (get_or old.dates.items u 0)
    none-of_it u low op none =
        kept-none u at (length (commits (take at H))) (length (commits (take (at + 1) H))) (get_or old.taken_back.items u 0) (get_or old.dates.items u 0) e (drop (at + 1) H)
        op none count-here (kept-of (at + 1) H old u known low)

    -- an event that says nothing of any but, perhaps, that one commits
    pub dates-none : (new : Dates) → ((u : ℕ) → is_op_of u e.kind ≡ false) → ((u : ℕ) → taken_back u e.kind ≡ 0) → new.committed + length (committed_by e.kind) ≡ old.committed
        → new.taken_back.items ≡ old.taken_back.items → new.dates.items ≡ old.dates.items → AreDatesFrom at H new
    dates-none new op none committed taken dates =
        kept-more new (let count = count-here in let before = known.committed in omega (arith, count, before, committed)) (rw (taken, dates) known.as_many)
        (λ u low. rw (taken, dates) (none-of_it u (rw dates at low) (op u) (none u)))

    -- an event by which none commits
    module _ (new : Dates) (silent : committed_by e.kind ≡ []) (stays : new.committed ≡ old.committed) where
      same-count : length (commits (take (at + 1) H)) ≡ length (commits (take at H))
      same-count = let count = count-here in let none = ap length silent in omega (arith, count, none)

      committed-is : old.committed ≡ length (commits (take at H))
      committed-is = known.committed ∙ same-count

      kept-here : (u : ℕ) → u < length old.dates.items → IsKeptOf u (at + 1) (length (commits (take at H))) (drop (at + 1) H) (get_or old.taken_back.items u 0) (get_or old.dates.items u 0)
      kept-here u low =
          let P : ℕ → Type 0 = λ n. IsKeptOf u (at + 1) n (drop (at + 1) H) (get_or old.taken_back.items u 0) (get_or old.dates.items u 0) in
          subst P same-count (kept-of (at + 1) H old u known low)

      -- an operation
      pub dates-op : (t x k : ℕ) → e.kind ≡ Op k t x → new.taken_back.items ≡ set old.taken_back.items t (get_or old.taken_back.items t 0 - 1)
          → new.dates.items ≡ set old.dates.items t (if get_or old.taken_back.items t 0 == 0 then max (get_or old.dates.items t 0) old.committed else get_or old.dates.items t 0)
          → AreDatesFrom at H new
      dates-op t x k is taken dates =
          let many : length new.dates.items ≡ length old.dates.items = ap length dates ∙ length-set old.dates.items t _ in
          let more : length new.taken_back.items ≡ length old.taken_back.items = ap length taken ∙ length-set old.taken_back.items t _ in
          let both = known.as_many in
          let n = length (commits (take at H)) in
          let K = drop (at + 1) H in
          kept-more new (stays ∙ committed-is) (more ∙ both ∙ sym many)
          (λ u low. elim (cases_Bool (t == u)) [
            | inl same ↦
                let taken_now : ℕ → ℕ = λ v. get_or old.taken_back.items v 0 - 1 in
                let date_now : ℕ → ℕ = λ v. if get_or old.taken_back.items v 0 == 0 then max (get_or old.dates.items v 0) old.committed else get_or old.dates.items v 0 in
                let date_is : (if get_or old.taken_back.items u 0 == 0 then max (get_or old.dates.items u 0) n else get_or old.dates.items u 0) ≡ date_now u =
                ap (λ c. if get_or old.taken_back.items u 0 == 0 then max (get_or old.dates.items u 0) c else get_or old.dates.items u 0) (sym committed-is) in
                kept-same u at n (e ∷ K) _ (taken_now u) _ (if get_or old.taken_back.items u 0 == 0 then max (get_or old.dates.items u 0) n else get_or old.dates.items u 0)
                (ap (λ l. get_or l u 0) taken ∙ set-here old.taken_back.items t u (taken_now u) taken_now same (omega (arith, both, many, low)) refl)
                (ap (λ l. get_or l u 0) dates ∙ set-here old.dates.items t u _ date_now same (omega (arith, many, low)) date_is)
                (kept-kind u at n e K (Op k u x) _ _ (is ∙ ap (λ v. Op k v x) (eqb-true t u same))
                (kept-op u e.worker x k at n (get_or old.taken_back.items u 0) (get_or old.dates.items u 0) K (kept-here u (omega (arith, many, low)))))
            | inr other ↦
                kept-same u at n (e ∷ K) _ (get_or old.taken_back.items u 0) _ (get_or old.dates.items u 0)
                (ap (λ l. get_or l u 0) taken ∙ set-apart old.taken_back.items t u _ other)
                (ap (λ l. get_or l u 0) dates ∙ set-apart old.dates.items t u _ other)
                (none-of_it u (omega (arith, many, low)) (ap (is_op_of u) is ∙ other) (ap (taken_back u) is))
          ])

      -- a rollback
      pub dates-rollback : (t n most : ℕ) → e.kind ≡ Rollback t n → at < most → new.taken_back.items ≡ set old.taken_back.items t (min (get_or old.taken_back.items t 0 + n) most)
          → new.dates.items ≡ old.dates.items → AreDatesFrom at H new
      dates-rollback t n most is inside taken dates =
          let many : length new.dates.items ≡ length old.dates.items = ap length dates in
          let more : length new.taken_back.items ≡ length old.taken_back.items = ap length taken ∙ length-set old.taken_back.items t _ in
          let both = known.as_many in
          let m = length (commits (take at H)) in
          let K = drop (at + 1) H in
          kept-more new (stays ∙ committed-is) (more ∙ both ∙ sym many)
          (λ u low. elim (cases_Bool (t == u)) [
            | inl same ↦
                let taken_now : ℕ → ℕ = λ v. min (get_or old.taken_back.items v 0 + n) most in
                kept-same u at m (e ∷ K) _ (taken_now u) _ (get_or old.dates.items u 0)
                (ap (λ l. get_or l u 0) taken ∙ set-here old.taken_back.items t u (taken_now u) taken_now same (omega (arith, both, many, low)) refl)
                (ap (λ l. get_or l u 0) dates)
                (kept-kind u at m e K (Rollback u n) _ _ (is ∙ ap (λ v. Rollback v n) (eqb-true t u same))
                (kept-rollback u e.worker n at m (get_or old.taken_back.items u 0) (get_or old.dates.items u 0) most K inside (kept-here u (omega (arith, many, low)))))
            | inr other ↦
                kept-same u at m (e ∷ K) _ (get_or old.taken_back.items u 0) _ (get_or old.dates.items u 0)
                (ap (λ l. get_or l u 0) taken ∙ set-apart old.taken_back.items t u _ other)
                (ap (λ l. get_or l u 0) dates)
                (none-of_it u (omega (arith, many, low)) (ap (is_op_of u) is) (ap (taken_back u) is ∙ rw other refl))
          ])
