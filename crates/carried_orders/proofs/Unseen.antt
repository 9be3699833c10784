-- A renewal in an order that keeps that at each object and that of each transaction is unseen.
use Rattle.std.proofs.Common.{◌≡◌, ℕ, zero, suc, ◌+◌, true, false, ◌==◌, List, [], ◌∷◌, ◌++◌, map, length, Some, slice_get, refl, sym, ap, subst, ◌∙◌, inl, inr, append_assoc, append-nil, arith}
use Rattle.std.specs.List.{AllByRecursion}
use Rattle.std.proofs.lemmas.Bool.{cases_Bool, eqb-true, eq-eqb, false≢true}
use Rattle.std.proofs.lemmas.List.{map-append}
use Rattle.std.proofs.lemmas.Option.{none-some, same_Some}
use Rattle.type_table.proofs.Elements.{each-weaker, each-passes, each-places, filter-none, filter-turned}
use Rattle.object_trait.specs.Object.{Object, object_of}
use Rattle.object_trait.specs.declared.event.Event.{Event}
use Rattle.object_trait.specs.declared.event.EventKind.{EventKind}
use Rattle.object_trait.specs.declared.event.EventKind.TheVariants.{Begin}
use Rattle.serial_order.specs.Operations.{is_among, is_by, at_object, of}
use Rattle.serial_order.specs.History.{Summary, summary, surviving, survive_after, begins}
use Rattle.serial_order.specs.Machine.{May, RunsOn, IsRun}
use Rattle.serial_order.specs.After.{summary_next}
use Rattle.serial_order.specs.Epochs.{types_behind}
use Rattle.serial_order.specs.declared.entry.Entry.{Entry}
use Rattle.serial_order.proofs.After.{seen_after_one}
use Rattle.serial_order.proofs.Pairs.{each-all}
use Rattle.committed_states.specs.Committed.{of_these}
use Rattle.committed_states.proofs.Fronts.{runs-front, runs-rest, runs-append}
use Rattle.carried_runs.specs.Carried.{AreOpenOnce, renumbered, begins_from, done_again, carried_by, carried_run, carried_summary}
use Rattle.carried_runs.specs.OldNumbers.{owner_of, named_kind, named_event, named_events}
use Rattle.carried_runs.specs.Laws.{CarriedIsRun, RenewalIsUnseen}
use Rattle.carried_runs.proofs.InRun.{are-less, of-chosen}
use Rattle.carried_runs.proofs.Renumbering.{at-renumbered, of-renumbered}
use Rattle.carried_orders.specs.Orders.{KeepsOrders, OrderedIsUnseen}
use Rattle.carried_orders.proofs.Alike.{AreAlike, in_order, alike-after, order-after, goes-too}

-- ---- what a run goes on by

-- what goes on after N goes on after M too, which says the same in another order; but for events that change nothing
pub record GoesToo (news : List Object) (g : ℕ → ℕ) (M K : List Event) : Type 0 where
  events : List Event
  on : RunsOn news M events
  named : named_events g events ≡ named_events g K

goes : (news : List Object) (g : ℕ → ℕ) (N M : List Event) (W : List Entry) (K : List Event) → summary M ≡ in_order (summary N) W → AreAlike (summary N).survives W
    → RunsOn news N K → GoesToo news g M K
goes news g N M W [] says alike on = record { events = []; on = tt; named = refl }
goes news g N M W (e ∷ K) says alike on =
    elim (goes-too news (summary N) W g e.kind alike on.0) [
      | inl may ↦
          let after : summary (M ++ e ∷ []) ≡ in_order (summary (N ++ e ∷ [])) (survive_after W e.kind) =
          seen_after_one M e ∙ ap (λ (s : Summary). summary_next s e.kind) says ∙ order-after (summary N) W e.kind
          ∙ ap (λ (s : Summary). in_order s (survive_after W e.kind)) (sym (seen_after_one N e)) in
          let still : AreAlike (summary (N ++ e ∷ [])).survives (survive_after W e.kind) =
          subst (λ (s : Summary). AreAlike s.survives (survive_after W e.kind)) (sym (seen_after_one N e)) (alike-after (summary N) W e.kind alike) in
          let rest = goes news g (N ++ e ∷ []) (M ++ e ∷ []) (survive_after W e.kind) K after still on.1 in
          record {
            events = e ∷ rest.events;
            on = (subst (λ (s : Summary). May news s e.kind) (sym says) may, rest.on);
            named = ap (λ es. named_event g e ++ es) rest.named;
          }
      | inr quiet ↦
          let same : summary (N ++ e ∷ []) ≡ summary N = seen_after_one N e ∙ quiet.0 in
          let rest = goes news g (N ++ e ∷ []) M W K (says ∙ ap (λ (s : Summary). in_order s W) (sym same)) (subst (λ (s : Summary). AreAlike s.survives W) (sym same) alike) on.1 in
          record {
            events = rest.events;
            on = rest.on;
            named = rest.named ∙ ap (λ ks. map (λ k. record { worker = e.worker; kind = k }) ks ++ named_events g K) (sym quiet.1);
          }
    ]

-- ---- what is carried, in both orders

shows-begins : (worker : ℕ → ℕ) (before : List Event) (n : ℕ) (P : List ℕ) → summary before ≡ record { begun = n; committed = []; aborted = []; survives = [] }
    → summary (before ++ begins_from worker n P) ≡ record { begun = n + length P; committed = []; aborted = []; survives = [] }
shows-begins worker before n [] is =
    let none : n ≡ n + 0 = omega arith in
    ap summary (append-nil before) ∙ is ∙ ap (λ k. record { begun = k; committed = []; aborted = []; survives = [] }) none
shows-begins worker before n (t ∷ P) is =
    let e : Event = record { worker = worker t; kind = Begin n } in
    let many : suc n + length P ≡ n + suc (length P) = omega arith in
    ap summary (sym (append_assoc before (e ∷ []) (begins_from worker (suc n) P)))
    ∙ shows-begins worker (before ++ e ∷ []) (suc n) P (seen_after_one before e ∙ ap (λ (s : Summary). summary_next s (Begin n)) is)
    ∙ ap (λ k. record { begun = k; committed = []; aborted = []; survives = [] }) many

shows-again : (worker : ℕ → ℕ) (P : List ℕ) (before : List Event) (W U : List Entry) → summary before ≡ carried_summary P W → summary (before ++ map (done_again worker P) U) ≡ carried_summary P (W ++ U)
shows-again worker P before W [] is = ap summary (append-nil before) ∙ is ∙ ap (carried_summary P) (sym (append-nil W))
shows-again worker P before W (e ∷ U) is =
    let event = done_again worker P e in
    ap summary (sym (append_assoc before (event ∷ []) (map (done_again worker P) U)))
    ∙ shows-again worker P (before ++ event ∷ []) (W ++ e ∷ []) U
    (seen_after_one before event ∙ ap (λ (s : Summary). summary_next s event.kind) is
    ∙ ap (λ V. record { begun = length P; committed = []; aborted = []; survives = V }) (sym (map-append (renumbered P) W (e ∷ []))))
    ∙ ap (carried_summary P) (append_assoc W (e ∷ []) U)

-- what is carried says just that
shows : (worker : ℕ → ℕ) (P : List ℕ) (U : List Entry) → summary (carried_by worker P U) ≡ carried_summary P U
shows worker P U =
    let none : 0 + length P ≡ length P = omega arith in
    shows-again worker P (begins_from worker 0 P) [] U (shows-begins worker [] 0 P refl ∙ ap (λ k. record { begun = k; committed = []; aborted = []; survives = [] }) none)

-- what holds of those at each object holds of all
each-at : (Q : Entry → Type 0) (U : List Entry) → ((x : ℕ) → AllByRecursion Q (at_object x U)) → AllByRecursion Q U
each-at Q [] all = tt
each-at Q (e ∷ U) all = ((rw (eq-eqb e.at e.at refl) at (all e.at)).0, each-at Q U others)
  where
    others : (x : ℕ) → AllByRecursion Q (at_object x U)
    others x =
        elim (cases_Bool (e.at == x)) [
          | inl here ↦ (rw here at (all x)).1
          | inr elsewhere ↦ rw elsewhere at (all x)
        ]

-- of a transaction that is none of these, none is
none-of : (P : List ℕ) (t : ℕ) (U : List Entry) → is_among P t ≡ false → AllByRecursion (λ (e : Entry). is_among P e.by ≡ true) U → of t U ≡ []
none-of P t U outside all = filter-none (is_by t) U (each-weaker (λ e inside. other e inside) U all)
  where
    other : (e : Entry) → is_among P e.by ≡ true → (e.by == t) ≡ false
    other e inside =
        elim (cases_Bool (e.by == t)) [
          | inl is ↦ absurd (false≢true (sym outside ∙ ap (is_among P) (sym (eqb-true e.by t is)) ∙ inside))
          | inr isnt ↦ isnt
        ]

module _ (H : List Event) (P : List ℕ) (U : List Entry) (once : AreOpenOnce P H) (keeps : KeepsOrders P H U) where
  abbrev base : List Entry
  base = of_these P (surviving H)

  base-at : (x : ℕ) → at_object x U ≡ at_object x base
  base-at x = keeps.at_each x ∙ sym (filter-turned (λ (e : Entry). e.at == x) (λ e. is_among P e.by) (surviving H))

  of-base : AllByRecursion (λ (e : Entry). is_among P e.by ≡ true) base
  of-base = each-passes (λ (e : Entry). is_among P e.by ≡ true) (λ e. is_among P e.by) (surviving H) (each-all (λ e passes. passes) (surviving H))

  pub of-order : AllByRecursion (λ (e : Entry). is_among P e.by ≡ true) U
  of-order =
      each-at (λ (e : Entry). is_among P e.by ≡ true) U
      (λ x. subst (AllByRecursion (λ (e : Entry). is_among P e.by ≡ true)) (sym (keeps.at_each x))
      (each-passes (λ (e : Entry). is_among P e.by ≡ true) (λ e. is_among P e.by) (at_object x (surviving H)) (each-all (λ e passes. passes) (at_object x (surviving H)))))

  own : (t : ℕ) → of t U ≡ of t base
  own t =
      elim (cases_Bool (is_among P t)) [
        | inl inside ↦ keeps.of_each t inside ∙ sym (of-chosen P t (surviving H) inside)
        | inr outside ↦ none-of P t U outside of-order ∙ sym (none-of P t base outside of-base)
      ]

  -- by their new numbers they are alike
  alike : AreAlike (map (renumbered P) U) (map (renumbered P) base)
  alike = record {
    at_each = λ x. at-renumbered x P U ∙ ap (map (renumbered P)) (base-at x) ∙ sym (at-renumbered x P base);
    of_each = λ j.
        of-renumbered P (summary H).begun j U once.apart (are-less P H once) of-order
        ∙ ap (map (renumbered P)) (own (owner_of P (summary H).begun j))
        ∙ sym (of-renumbered P (summary H).begun j base once.apart (are-less P H once) of-base);
  }

  -- so what goes on after the one goes on after the other
  pub goes-after : (worker g : ℕ → ℕ) (news : List Object) (K : List Event) → RunsOn news (carried_by worker P U) K → GoesToo news g (carried_run worker P H) K
  goes-after worker g news K on =
      goes news g (carried_by worker P U) (carried_run worker P H) (map (renumbered P) base) K
      (shows worker P base ∙ ap (λ (s : Summary). in_order s (map (renumbered P) base)) (sym (shows worker P U)))
      (subst (λ (s : Summary). AreAlike s.survives (map (renumbered P) base)) (sym (shows worker P U)) alike) on

-- ---- workers

begins-alike : (f g : ℕ → ℕ) (n : ℕ) (Q : List ℕ) → AllByRecursion (λ t. f t ≡ g t) Q → begins_from f n Q ≡ begins_from g n Q
begins-alike f g n [] same = refl
begins-alike f g n (t ∷ Q) same =
    ap (λ w. (record { worker = w; kind = Begin n }) ∷ begins_from f (suc n) Q) same.0 ∙ ap (λ es. (record { worker = g t; kind = Begin n }) ∷ es) (begins-alike f g (suc n) Q same.1)

again-alike : (f g : ℕ → ℕ) (P : List ℕ) (U : List Entry) → AllByRecursion (λ (e : Entry). f e.by ≡ g e.by) U → map (done_again f P) U ≡ map (done_again g P) U
again-alike f g P [] same = refl
again-alike f g P (e ∷ U) same =
    ap (λ w. (record (done_again f P e) { worker = w }) ∷ map (done_again f P) U) same.0 ∙ ap (λ es. done_again g P e ∷ es) (again-alike f g P U same.1)

each-is : (P : List ℕ) → AllByRecursion (λ t. is_among P t ≡ true) P
each-is P = each-places (λ t. is_among P t ≡ true) P (λ i t there. found P i t there)
  where
    found : (P : List ℕ) (i t : ℕ) → slice_get P i ≡ Some t → is_among P t ≡ true
    found [] i t there = absurd (none-some t there)
    found (u ∷ P) zero t there = rw (eq-eqb u t (same_Some u t there)) refl
    found (u ∷ P) (suc i) t there =
        elim (cases_Bool (u == t)) [
          | inl here ↦ rw here refl
          | inr other ↦ rw other (found P i t there)
        ]

-- the first events are the same where the same workers began these
pub same-events : (H : List Event) (P : List ℕ) (U : List Entry) (f g : ℕ → ℕ) → AreOpenOnce P H → KeepsOrders P H U → ((t : ℕ) → is_among P t ≡ true → f t ≡ g t)
    → carried_by f P U ≡ carried_by g P U
same-events H P U f g once keeps same =
    ap (λ es. es ++ map (done_again f P) U) (begins-alike f g 0 P (each-weaker (λ t inside. same t inside) P (each-is P)))
    ∙ ap (λ es. begins_from g 0 P ++ es) (again-alike f g P U (each-weaker (λ e inside. same e.by inside) U (of-order H P U once keeps)))

pub ordered_is_unseen : CarriedIsRun → RenewalIsUnseen → OrderedIsUnseen
ordered_is_unseen is_run unseen = λ types e K worker P U checked strong ended once all keeps behind.
    let H = e.history in
    let news = map object_of (types_behind types e) in
    let g = owner_of P (begins H) in
    let it = goes-after H P U once keeps worker g news K (runs-rest news [] (carried_by worker P U) K behind) in
    let both : IsRun news (carried_run worker P H ++ it.events) = runs-append news [] (carried_run worker P H) it.events (is_run types e worker P checked ended once) it.on in
    subst (λ es. IsRun (map object_of (types ++ e.added)) (H ++ es)) it.named (unseen types e it.events worker P checked strong ended once all both)
