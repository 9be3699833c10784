-- Necessity: the runs that break, at an object among any others.
use Rattle.std.proofs.Common.{◌≡◌, ℕ, Bool, true, false, not, ◌&&◌, ◌==◌, List, [], ◌∷◌, ◌++◌, map, Option, Some, slice_get, refl, sym, ap, ◌∙◌, subst, append-nil, append_assoc}
use Rattle.std.specs.List.{AllByRecursion}
use Rattle.std.proofs.lemmas.Bool.{true≢false, eq-eqb}
use Rattle.std.proofs.lemmas.List.Elements.{filter-append}
use Rattle.type_table.specs.Table.{has_op}
use Rattle.type_table.specs.Laws.{RunsAlong, LegalEnds}
use Rattle.type_table.specs.declared.kind.Kind.{Kind}
use Rattle.type_table.specs.declared.kind.Kind.TheVariants.{Undo, Intentions, Escrow}
use Rattle.type_table.proofs.Elements.{each-append, each-filter, each-map, each-weaker}
use Rattle.type_table.proofs.Legal.{legal-front, legal-behind}
use Rattle.object_trait.specs.Object.{Object}
use Rattle.object_trait.specs.declared.event.Event.{Event}
use Rattle.object_trait.specs.declared.event.EventKind.{EventKind}
use Rattle.object_trait.specs.declared.event.EventKind.TheVariants.{Begin, Op, Commit}
use Rattle.serial_order.specs.Operations.{is_among, at_object, is_by, of, ops, serial}
use Rattle.serial_order.specs.History.{Summary, summary, is_open}
use Rattle.serial_order.specs.View.{view, conflicts_with, stops_at}
use Rattle.serial_order.specs.Machine.{May, MayDo, RunsOn, IsRun}
use Rattle.serial_order.specs.Examples.{events}
use Rattle.dynamic_atomicity.specs.Converse.{executed_by, breaking, Goes, StepsHaveOps, UndoBreaks}
use Rattle.serial_order.specs.declared.entry.Entry.{Entry}
use Rattle.serial_order.proofs.Events.{summary_after, summary-snoc}
use Rattle.serial_order.proofs.Facts.{IsLegalAt}
use Rattle.serial_order.proofs.Lists.{ops-append, filter-more, serial-snoc, serial-apart, of-more}
use Rattle.serial_order.proofs.Pairs.{each-all}
use Rattle.serial_order.proofs.Runs.{open_is_uncommitted}

-- ---- runs by what is seen

abbrev pub RunsFrom : List Object → Summary → List EventKind → Type 0
RunsFrom objects s [] = Unit {0}
RunsFrom objects s (k ∷ ks) = May objects s k × RunsFrom objects (summary_after s k) ks

abbrev pub summary_from : Summary → List EventKind → Summary
summary_from s [] = s
summary_from s (k ∷ ks) = summary_from (summary_after s k) ks

runs-events : (objects : List Object) (before : List Event) (ks : List EventKind) → RunsFrom objects (summary before) ks → RunsOn objects before (events ks)
runs-events objects before [] h = tt
runs-events objects before (k ∷ ks) h =
    let e : Event = record { worker = 0; kind = k } in
    (h.0, runs-events objects (before ++ e ∷ []) ks (subst (λ (s : Summary). RunsFrom objects s ks) (sym (summary-snoc before e)) h.1))

summary-events : (before : List Event) (ks : List EventKind) → summary (before ++ events ks) ≡ summary_from (summary before) ks
summary-events before [] = ap summary (append-nil before)
summary-events before (k ∷ ks) =
    let e : Event = record { worker = 0; kind = k } in
    ap summary (sym (append_assoc before (e ∷ []) (events ks))) ∙ summary-events (before ++ e ∷ []) ks ∙ ap (λ (s : Summary). summary_from s ks) (summary-snoc before e)

-- ---- one transaction's operations

abbrev pub done_by : ℕ → ℕ → List ℕ → List Entry
done_by x t w = map (λ k. record { by = t; at = x; op = k }) w

itself : (n : ℕ) → (n == n) ≡ true
itself n = eq-eqb n n refl

ops-done : (x t : ℕ) (w : List ℕ) → ops (done_by x t w) ≡ w
ops-done x t [] = refl
ops-done x t (k ∷ w) = ap (λ rest. k ∷ rest) (ops-done x t w)

of-own : (x t : ℕ) (w : List ℕ) → of t (done_by x t w) ≡ done_by x t w
of-own x t [] = refl
of-own x t (k ∷ w) = simp (itself t) (ap (λ rest. (record { by = t; at = x; op = k }) ∷ rest) (of-own x t w))

of-other : (x t u : ℕ) (w : List ℕ) → (t == u) ≡ false → of u (done_by x t w) ≡ []
of-other x t u [] apart = refl
of-other x t u (k ∷ w) apart = simp apart (of-other x t u w apart)

at-done : (x t : ℕ) (w : List ℕ) → at_object x (done_by x t w) ≡ done_by x t w
at-done x t [] = refl
at-done x t (k ∷ w) = simp (itself x) (ap (λ rest. (record { by = t; at = x; op = k }) ∷ rest) (at-done x t w))

module _ (objects : List Object) (x : ℕ) (along : RunsAlong) (ends : LegalEnds) (o : Object) (there : slice_get objects x ≡ Some o) (named : StepsHaveOps o.table) where
  -- a legal operation is one of the type's
  op-there : (v : List ℕ) (k : ℕ) → IsLegalAt o (v ++ k ∷ []) → has_op o.table k ≡ true
  op-there v k legal =
      let reached = ends o.table (Some o.table.initial) v (legal-front o.table (Some o.table.initial) v (k ∷ []) legal) in
      named reached.0 k (legal-behind along o.table (Some o.table.initial) v (k ∷ []) reached.0 reached.1 legal)

  -- an operation may be done that is legal after the view and that nothing held keeps out
  may_do : (s : Summary) (t k : ℕ) (v : List ℕ) → is_open s t ≡ true → ops (view o.kind s x t) ≡ v → IsLegalAt o (v ++ k ∷ [])
      → AllByRecursion (λ e. conflicts_with o s x t k e ≡ false) (at_object x s.survives) → May objects s (Op k t x)
  may_do s t k v open_now is legal free =
      let allowed : MayDo (Some o) s x t k = (op-there v k legal, rw is legal, free) in
      (open_now, subst (λ (found : Option Object). MayDo found s x t k) (sym there) allowed)

  -- ---- one transaction alone

  abbrev with_surviving : Summary → List Entry → Summary
  with_surviving s V = record { begun = s.begun; committed = s.committed; aborted = s.aborted; survives = V }

  -- what t sees after an operation of its own. Under escrow it sees what it does with deferred update
  view-more-deferred : (s : Summary) (t k : ℕ) → is_among s.committed t ≡ false
      → ops (view Intentions (with_surviving s (s.survives ++ (record { by = t; at = x; op = k }) ∷ [])) x t) ≡ ops (view Intentions s x t) ++ k ∷ []
  view-more-deferred s t k pending =
      let e : Entry = record { by = t; at = x; op = k } in
      let V = at_object x s.survives in
      let mine : is_by t e ≡ true = eq-eqb t t refl in
      ap (λ W. ops (serial s.committed W ++ of t W)) (filter-more (λ (e : Entry). e.at == x) s.survives e (itself x))
      ∙ rw (serial-apart s.committed V e pending, of-more t V e mine, ← (append_assoc (serial s.committed V) (of t V) (e ∷ []))) (ops-append (serial s.committed V ++ of t V) (e ∷ []))

  view-more : (by_kind : Kind) (s : Summary) (t k : ℕ) → is_among s.committed t ≡ false
      → ops (view by_kind (with_surviving s (s.survives ++ (record { by = t; at = x; op = k }) ∷ [])) x t) ≡ ops (view by_kind s x t) ++ k ∷ []
  view-more Undo s t k pending = ap ops (filter-more (λ (e : Entry). e.at == x) s.survives (record { by = t; at = x; op = k }) (itself x)) ∙ ops-append (at_object x s.survives) ((record { by = t; at = x; op = k }) ∷ [])
  view-more Intentions s t k pending = view-more-deferred s t k pending
  view-more Escrow s t k pending = view-more-deferred s t k pending

  -- no other open transaction holds an operation
  abbrev IsAlone : Summary → ℕ → Type 0
  IsAlone s t = AllByRecursion (λ e. (is_open s e.by && not (e.by == t)) ≡ false) s.survives

  alone-free : (s : Summary) (t k : ℕ) → IsAlone s t → AllByRecursion (λ e. conflicts_with o s x t k e ≡ false) (at_object x s.survives)
  alone-free s t k alone =
      each-filter (λ e. conflicts_with o s x t k e ≡ false) (λ (e : Entry). e.at == x) s.survives
      (each-weaker {P = λ (e : Entry). (is_open s e.by && not (e.by == t)) ≡ false} (λ e h. and-more (is_open s e.by) (not (e.by == t)) (stops_at o.kind o s.committed (at_object x s.survives) t k e) h) s.survives alone)
    where
      and-more : (a b c : Bool) → (a && b) ≡ false → (a && (b && c)) ≡ false
      and-more true true c h = absurd (true≢false h)
      and-more true false c h = refl
      and-more false b c h = refl

  -- after an operation
  after-one : (s : Summary) (t k : ℕ) → summary_after s (Op k t x) ≡ with_surviving s (s.survives ++ (record { by = t; at = x; op = k }) ∷ [])
  after-one s t k = rw (append-nil s.committed, append-nil s.aborted) refl

  alone_runs : (s : Summary) (t : ℕ) (r : List ℕ) (rest : List EventKind) → is_open s t ≡ true → IsAlone s t → Goes o.table (ops (view o.kind s x t)) r
      → RunsFrom objects (with_surviving s (s.survives ++ done_by x t r)) rest → RunsFrom objects s (executed_by x t r ++ rest)
  alone_runs s t [] rest open_now alone goes on = rw (append-nil s.survives) at on
  alone_runs s t (k ∷ r) rest open_now alone goes on =
      let e : Entry = record { by = t; at = x; op = k } in
      let next_summary : Summary = with_surviving s (s.survives ++ e ∷ []) in (
        may_do s t k (ops (view o.kind s x t)) open_now refl goes.0 (alone-free s t k alone),
        subst (λ (now : Summary). RunsFrom objects now (executed_by x t r ++ rest)) (sym (after-one s t k))
            (alone_runs next_summary t r rest open_now
            (each-append (λ (e : Entry). (is_open s e.by && not (e.by == t)) ≡ false) s.survives (e ∷ []) alone (own, tt))
            (rw (view-more o.kind s t k (open_is_uncommitted s t open_now)) goes.1)
            (rw (append_assoc s.survives (e ∷ []) (done_by x t r)) on)),
      )
    where
      own : (is_open s t && not (t == t)) ≡ false
      own = rw (open_now, eq-eqb t t refl) refl

  summary_from-by : (s : Summary) (t : ℕ) (r : List ℕ) (rest : List EventKind) → summary_from s (executed_by x t r ++ rest) ≡ summary_from (with_surviving s (s.survives ++ done_by x t r)) rest
  summary_from-by s t [] rest = ap (λ V. summary_from (with_surviving s V) rest) (sym (append-nil s.survives))
  summary_from-by s t (k ∷ r) rest =
      let e : Entry = record { by = t; at = x; op = k } in
      ap (λ (now : Summary). summary_from now (executed_by x t r ++ rest)) (after-one s t k)
      ∙ summary_from-by (with_surviving s (s.survives ++ e ∷ [])) t r rest
      ∙ ap (λ V. summary_from (with_surviving s V) rest) (append_assoc s.survives (e ∷ []) (done_by x t r))

  pub goes_from : (v r : List ℕ) → IsLegalAt o (v ++ r) → Goes o.table v r
  goes_from v [] legal = tt
  goes_from v (k ∷ r) legal =
      let longer : IsLegalAt o ((v ++ k ∷ []) ++ r) = rw (append_assoc v (k ∷ []) r) legal in
      (legal-front o.table (Some o.table.initial) (v ++ k ∷ []) r longer, goes_from (v ++ k ∷ []) r longer)

  -- ---- the run

  module _ (w : List ℕ) (p q : ℕ) where
    abbrev pub first_of_1 : Entry
    first_of_1 = record { by = 1; at = x; op = q }

    abbrev pub first_of_2 : Entry
    first_of_2 = record { by = 2; at = x; op = p }

    abbrev pub survived : List Entry
    survived = (done_by x 0 w ++ first_of_1 ∷ []) ++ first_of_2 ∷ []

    -- what transaction 2 sees
    abbrev view_of_2 : Kind → List ℕ
    view_of_2 Undo = w ++ q ∷ []
    view_of_2 Intentions = w
    view_of_2 Escrow = w

    abbrev with_0 : Summary
    with_0 = record { begun = 3; committed = 0 ∷ []; aborted = []; survives = done_by x 0 w }

    abbrev with_1 : Summary
    with_1 = record { begun = 3; committed = 0 ∷ []; aborted = []; survives = done_by x 0 w ++ first_of_1 ∷ [] }

    at-one : at_object x (done_by x 0 w ++ first_of_1 ∷ []) ≡ done_by x 0 w ++ first_of_1 ∷ []
    at-one = filter-more (λ (e : Entry). e.at == x) (done_by x 0 w) first_of_1 (itself x) ∙ ap (λ V. V ++ first_of_1 ∷ []) (at-done x 0 w)

    pub at-two : at_object x survived ≡ survived
    at-two = filter-more (λ (e : Entry). e.at == x) (done_by x 0 w ++ first_of_1 ∷ []) first_of_2 (itself x) ∙ ap (λ V. V ++ first_of_2 ∷ []) at-one

    pub survived-ops : ops survived ≡ w ++ q ∷ p ∷ []
    survived-ops = ops-append (done_by x 0 w ++ first_of_1 ∷ []) (first_of_2 ∷ []) ∙ ap (λ v. v ++ p ∷ []) (ops-append (done_by x 0 w) (first_of_1 ∷ []) ∙ ap (λ v. v ++ q ∷ []) (ops-done x 0 w)) ∙ append_assoc w (q ∷ []) (p ∷ [])

    view_1_deferred : ops (view Intentions with_0 x 1) ≡ w
    view_1_deferred = rw (at-done x 0 w, of-own x 0 w, of-other x 0 1 w refl) (ap ops (append-nil (done_by x 0 w ++ [])) ∙ ap ops (append-nil (done_by x 0 w)) ∙ ops-done x 0 w)

    view_1 : (by_kind : Kind) → ops (view by_kind with_0 x 1) ≡ w
    view_1 Undo = ap ops (at-done x 0 w) ∙ ops-done x 0 w
    view_1 Intentions = view_1_deferred
    view_1 Escrow = view_1_deferred

    view_2_deferred : ops (view Intentions with_1 x 2) ≡ w
    view_2_deferred =
        rw (at-one, filter-append (is_by 0) (done_by x 0 w) (first_of_1 ∷ []), filter-append (is_by 2) (done_by x 0 w) (first_of_1 ∷ []), of-own x 0 w, of-other x 0 2 w refl)
        (ap ops (append-nil ((done_by x 0 w ++ []) ++ [])) ∙ ap ops (append-nil (done_by x 0 w ++ [])) ∙ ap ops (append-nil (done_by x 0 w)) ∙ ops-done x 0 w)

    view_2 : (by_kind : Kind) → ops (view by_kind with_1 x 2) ≡ view_of_2 by_kind
    view_2 Undo = ap ops at-one ∙ ops-append (done_by x 0 w) (first_of_1 ∷ []) ∙ ap (λ v. v ++ q ∷ []) (ops-done x 0 w)
    view_2 Intentions = view_2_deferred
    view_2 Escrow = view_2_deferred

    free_1 : AllByRecursion (λ e. conflicts_with o with_0 x 1 q e ≡ false) (at_object x (done_by x 0 w))
    free_1 =
        let each : AllByRecursion (λ e. conflicts_with o with_0 x 1 q e ≡ false) (done_by x 0 w) =
        each-map (λ e. conflicts_with o with_0 x 1 q e ≡ false) (λ k. record { by = 0; at = x; op = k }) w (each-all (λ k. refl) w) in
        subst (λ V. AllByRecursion (λ e. conflicts_with o with_0 x 1 q e ≡ false) V) (sym (at-done x 0 w)) each

    -- p isn't stopped by what transaction 1 holds
    abbrev IsLetIn : Type 0
    IsLetIn = (V : List Entry) → stops_at o.kind o (0 ∷ []) V 2 p first_of_1 ≡ false

    free_2 : IsLetIn → AllByRecursion (λ e. conflicts_with o with_1 x 2 p e ≡ false) (at_object x (done_by x 0 w ++ first_of_1 ∷ []))
    free_2 free =
        let each : AllByRecursion (λ e. conflicts_with o with_1 x 2 p e ≡ false) (done_by x 0 w ++ first_of_1 ∷ []) =
        each-append (λ e. conflicts_with o with_1 x 2 p e ≡ false) (done_by x 0 w) (first_of_1 ∷ [])
        (each-map (λ e. conflicts_with o with_1 x 2 p e ≡ false) (λ k. record { by = 0; at = x; op = k }) w (each-all (λ k. refl) w)) (free (at_object x (done_by x 0 w ++ first_of_1 ∷ [])), tt) in
        subst (λ V. AllByRecursion (λ e. conflicts_with o with_1 x 2 p e ≡ false) V) (sym at-one) each

    -- up to the two operations
    prefix_runs : (rest : List EventKind) → IsLetIn → IsLegalAt o (w ++ q ∷ []) → IsLegalAt o (view_of_2 o.kind ++ p ∷ [])
        → RunsFrom objects (record { begun = 3; committed = 0 ∷ []; aborted = []; survives = survived }) rest
        → RunsFrom objects (summary []) (Begin 0 ∷ (executed_by x 0 w ++ (Commit 0 ∷ Begin 1 ∷ Begin 2 ∷ Op q 1 x ∷ Op p 2 x ∷ rest)))
    prefix_runs rest free q_legal p_legal on = (
      refl,
      alone_runs (record { begun = 1; committed = []; aborted = []; survives = [] }) 0 w (Commit 0 ∷ Begin 1 ∷ Begin 2 ∷ Op q 1 x ∷ Op p 2 x ∷ rest) refl tt
          (rw (view_0 o.kind) (goes_from [] w (legal-front o.table (Some o.table.initial) w (q ∷ []) q_legal)))
          (refl, (refl, (refl, (may_do with_0 1 q w refl (view_1 o.kind) q_legal free_1, (may_do with_1 2 p (view_of_2 o.kind) refl (view_2 o.kind) p_legal (free_2 free), on))))),
    )
      where
        view_0 : (by_kind : Kind) → ops (view by_kind (record { begun = 1; committed = []; aborted = []; survives = [] }) x 0) ≡ []
        view_0 Undo = refl
        view_0 Intentions = refl
        view_0 Escrow = refl

    -- from the two commits on
    abbrev ended : ℕ → ℕ → Summary
    ended first second = record { begun = 4; committed = 0 ∷ first ∷ second ∷ []; aborted = []; survives = survived }

    tail_runs : (first second : ℕ) (r : List ℕ) → is_open (record { begun = 3; committed = 0 ∷ []; aborted = []; survives = survived }) first ≡ true
        → is_open (record { begun = 3; committed = 0 ∷ first ∷ []; aborted = []; survives = survived }) second ≡ true
        → is_open (ended first second) 1 ≡ false → is_open (ended first second) 2 ≡ false → is_open (ended first second) 3 ≡ true
        → Goes o.table (ops (view o.kind (ended first second) x 3)) r
        → RunsFrom objects (record { begun = 3; committed = 0 ∷ []; aborted = []; survives = survived }) (Commit first ∷ Commit second ∷ Begin 3 ∷ (executed_by x 3 r ++ Commit 3 ∷ []))
    tail_runs first second r first_open second_open one_closed two_closed three_open goes =
        (first_open, (second_open, (refl, alone_runs (ended first second) 3 r (Commit 3 ∷ []) three_open alone goes (three_open, tt))))
      where
        alone : IsAlone (ended first second) 3
        alone =
            each-append (λ (e : Entry). (is_open (ended first second) e.by && not (e.by == 3)) ≡ false) (done_by x 0 w ++ first_of_1 ∷ []) (first_of_2 ∷ [])
            (each-append (λ (e : Entry). (is_open (ended first second) e.by && not (e.by == 3)) ≡ false) (done_by x 0 w) (first_of_1 ∷ [])
            (each-map (λ (e : Entry). (is_open (ended first second) e.by && not (e.by == 3)) ≡ false) (λ k. record { by = 0; at = x; op = k }) w (each-all (λ k. refl) w))
            (rw one_closed refl, tt)) (rw two_closed refl, tt)

    -- what is seen at its end
    pub summary_at_end : (first second : ℕ) (r : List ℕ) →
        summary (breaking x first second w p q r) ≡ record { begun = 4; committed = 0 ∷ first ∷ second ∷ 3 ∷ []; aborted = []; survives = survived ++ done_by x 3 r }
    summary_at_end first second r =
        let last : List EventKind = executed_by x 3 r ++ Commit 3 ∷ [] in
        let middle : List EventKind = Commit 0 ∷ Begin 1 ∷ Begin 2 ∷ Op q 1 x ∷ Op p 2 x ∷ Commit first ∷ Commit second ∷ Begin 3 ∷ last in
        summary-events [] (Begin 0 ∷ (executed_by x 0 w ++ middle))
        ∙ summary_from-by (record { begun = 1; committed = []; aborted = []; survives = [] }) 0 w middle
        ∙ summary_from-by (ended first second) 3 r (Commit 3 ∷ [])

    -- ---- the serial orders

    module _ (r : List ℕ) where
      abbrev V : List Entry
      V = survived ++ done_by x 3 r

      at-all : at_object x V ≡ V
      at-all = filter-append (λ (e : Entry). e.at == x) survived (done_by x 3 r) ∙ ap (λ W. W ++ at_object x (done_by x 3 r)) at-two ∙ ap (λ W. survived ++ W) (at-done x 3 r)

      of-all : (t : ℕ) → of t V ≡ ((of t (done_by x 0 w) ++ of t (first_of_1 ∷ [])) ++ of t (first_of_2 ∷ [])) ++ of t (done_by x 3 r)
      of-all t =
          filter-append (is_by t) survived (done_by x 3 r)
          ∙ ap (λ W. W ++ of t (done_by x 3 r)) (filter-append (is_by t) (done_by x 0 w ++ first_of_1 ∷ []) (first_of_2 ∷ [])
          ∙ ap (λ W. W ++ of t (first_of_2 ∷ [])) (filter-append (is_by t) (done_by x 0 w) (first_of_1 ∷ [])))

      of-0 : of 0 V ≡ done_by x 0 w
      of-0 = of-all 0 ∙ rw (of-own x 0 w, of-other x 3 0 r refl) (simp append-nil)

      of-1 : of 1 V ≡ first_of_1 ∷ []
      of-1 = of-all 1 ∙ rw (of-other x 0 1 w refl, of-other x 3 1 r refl) refl

      of-2 : of 2 V ≡ first_of_2 ∷ []
      of-2 = of-all 2 ∙ rw (of-other x 0 2 w refl, of-other x 3 2 r refl) refl

      of-3 : of 3 V ≡ done_by x 3 r
      of-3 = of-all 3 ∙ rw (of-other x 0 3 w refl, of-own x 3 r) refl

      pub one_two : ops (serial (0 ∷ 1 ∷ 2 ∷ 3 ∷ []) (at_object x V)) ≡ w ++ q ∷ p ∷ r
      one_two =
          ap (λ W. ops (serial (0 ∷ 1 ∷ 2 ∷ 3 ∷ []) W)) at-all
          ∙ rw (of-0, of-1, of-2, of-3, append-nil (done_by x 3 r))
          (ops-append (done_by x 0 w) (first_of_1 ∷ first_of_2 ∷ done_by x 3 r) ∙ ap (λ v. v ++ ops (first_of_1 ∷ first_of_2 ∷ done_by x 3 r)) (ops-done x 0 w) ∙ ap (λ v. w ++ q ∷ p ∷ v) (ops-done x 3 r))

      pub two_one : ops (serial (0 ∷ 2 ∷ 1 ∷ 3 ∷ []) (at_object x V)) ≡ w ++ p ∷ q ∷ r
      two_one =
          ap (λ W. ops (serial (0 ∷ 2 ∷ 1 ∷ 3 ∷ []) W)) at-all
          ∙ rw (of-0, of-1, of-2, of-3, append-nil (done_by x 3 r))
          (ops-append (done_by x 0 w) (first_of_2 ∷ first_of_1 ∷ done_by x 3 r) ∙ ap (λ v. v ++ ops (first_of_2 ∷ first_of_1 ∷ done_by x 3 r)) (ops-done x 0 w) ∙ ap (λ v. w ++ p ∷ q ∷ v) (ops-done x 3 r))

module _ (objects : List Object) (x : ℕ) (along : RunsAlong) (ends : LegalEnds) (o : Object) (there : slice_get objects x ≡ Some o) (named : StepsHaveOps o.table) (w : List ℕ) (p q : ℕ) (r : List ℕ) (free : o.conflicts p q ≡ false) where
  -- the view of transaction 3, update in place
  view_3_undo : (s : Summary) → s.survives ≡ survived objects x along ends o there named w p q → ops (view Undo s x 3) ≡ w ++ q ∷ p ∷ []
  view_3_undo s is = ap (λ V. ops (at_object x V)) is ∙ ap ops (at-two objects x along ends o there named w p q) ∙ survived-ops objects x along ends o there named w p q

  -- by ways of recovery, that p is let in and legal, and what transaction 3 runs
  let_in : (way : Kind) → o.kind ≡ way → ((V : List Entry) → stops_at way o (0 ∷ []) V 2 p (first_of_1 objects x along ends o there named w p q) ≡ false) → IsLetIn objects x along ends o there named w p q
  let_in way is free_by V = subst (λ (kind : Kind). stops_at kind o (0 ∷ []) V 2 p (first_of_1 objects x along ends o there named w p q) ≡ false) (sym is) (free_by V)

  seen_legal : (way : Kind) → o.kind ≡ way → IsLegalAt o (view_of_2 objects x along ends o there named w p q way ++ p ∷ []) → IsLegalAt o (view_of_2 objects x along ends o there named w p q o.kind ++ p ∷ [])
  seen_legal way is legal = subst (λ (kind : Kind). IsLegalAt o (view_of_2 objects x along ends o there named w p q kind ++ p ∷ [])) (sym is) legal

  goes_on : (way : Kind) → o.kind ≡ way → (s : Summary) → Goes o.table (ops (view way s x 3)) r → Goes o.table (ops (view o.kind s x 3)) r
  goes_on way is s goes = subst (λ (kind : Kind). Goes o.table (ops (view kind s x 3)) r) (sym is) goes

  -- update in place, where the second commits first
  undo_runs : o.kind ≡ Undo → IsLegalAt o (w ++ q ∷ p ∷ r) → IsRun objects (breaking x 2 1 w p q r)
  undo_runs undo legal =
      let begin : Option ℕ = Some o.table.initial in
      let both : IsLegalAt o ((w ++ q ∷ p ∷ []) ++ r) = rw (append_assoc w (q ∷ p ∷ []) r) legal in
      let q_then_p : IsLegalAt o (w ++ q ∷ p ∷ []) = legal-front o.table begin (w ++ q ∷ p ∷ []) r both in
      let p_legal : IsLegalAt o ((w ++ q ∷ []) ++ p ∷ []) = rw (append_assoc w (q ∷ []) (p ∷ [])) q_then_p in
      let q_legal : IsLegalAt o (w ++ q ∷ []) = legal-front o.table begin (w ++ q ∷ []) (p ∷ []) p_legal in
      let rest : List EventKind = Commit 2 ∷ Commit 1 ∷ Begin 3 ∷ (executed_by x 3 r ++ Commit 3 ∷ []) in
      runs-events objects [] (Begin 0 ∷ (executed_by x 0 w ++ (Commit 0 ∷ Begin 1 ∷ Begin 2 ∷ Op q 1 x ∷ Op p 2 x ∷ rest)))
      (prefix_runs objects x along ends o there named w p q rest (let_in Undo undo (λ V. free)) q_legal (seen_legal Undo undo p_legal)
      (tail_runs objects x along ends o there named w p q 2 1 r refl refl refl refl refl (goes_on Undo undo (ended objects x along ends o there named w p q 2 1) (rw (view_3_undo (ended objects x along ends o there named w p q 2 1) refl) (goes_from objects x along ends o there named (w ++ q ∷ p ∷ []) r both)))))

pub undo_breaks : RunsAlong → LegalEnds → UndoBreaks
undo_breaks along ends objects x o w p q r there named undo free legal = (
  undo_runs objects x along ends o there named w p q r free undo legal,
  ap (λ (s : Summary). s.committed) (summary_at_end objects x along ends o there named w p q 2 1 r),
  ap (λ (s : Summary). ops (serial s.committed (at_object x s.survives))) (summary_at_end objects x along ends o there named w p q 2 1 r) ∙ two_one objects x along ends o there named w p q r,
)

-- ---- deferred update

module _ (objects : List Object) (x : ℕ) (along : RunsAlong) (ends : LegalEnds) (o : Object) (there : slice_get objects x ≡ Some o) (named : StepsHaveOps o.table) (w : List ℕ) (p q : ℕ) (r : List ℕ) (free : o.conflicts p q ≡ false) where
  -- the view of transaction 3
  view_one_two : ops (view Intentions (ended objects x along ends o there named w p q 1 2) x 3) ≡ w ++ q ∷ p ∷ []
  view_one_two =
      let S = survived objects x along ends o there named w p q in
      ap (λ V. ops (serial (0 ∷ 1 ∷ 2 ∷ []) (at_object x V) ++ of 3 (at_object x V))) (sym (append-nil S))
      ∙ ap ops (sym (serial-snoc (0 ∷ 1 ∷ 2 ∷ []) 3 (at_object x (S ++ [])))) ∙ one_two objects x along ends o there named w p q []

  view_two_one : ops (view Intentions (ended objects x along ends o there named w p q 2 1) x 3) ≡ w ++ p ∷ q ∷ []
  view_two_one =
      let S = survived objects x along ends o there named w p q in
      ap (λ V. ops (serial (0 ∷ 2 ∷ 1 ∷ []) (at_object x V) ++ of 3 (at_object x V))) (sym (append-nil S))
      ∙ ap ops (sym (serial-snoc (0 ∷ 2 ∷ 1 ∷ []) 3 (at_object x (S ++ [])))) ∙ two_one objects x along ends o there named w p q []

  -- the first commits first
  pub one_two_runs : o.kind ≡ Intentions → IsLegalAt o (w ++ q ∷ []) → IsLegalAt o (w ++ p ∷ []) → Goes o.table (w ++ q ∷ p ∷ []) r → IsRun objects (breaking x 1 2 w p q r)
  one_two_runs deferred q_legal p_legal goes =
      let rest : List EventKind = Commit 1 ∷ Commit 2 ∷ Begin 3 ∷ (executed_by x 3 r ++ Commit 3 ∷ []) in
      runs-events objects [] (Begin 0 ∷ (executed_by x 0 w ++ (Commit 0 ∷ Begin 1 ∷ Begin 2 ∷ Op q 1 x ∷ Op p 2 x ∷ rest)))
      (prefix_runs objects x along ends o there named w p q rest (let_in objects x along ends o there named w p q r free Intentions deferred (λ V. free)) q_legal (seen_legal objects x along ends o there named w p q r free Intentions deferred p_legal)
      (tail_runs objects x along ends o there named w p q 1 2 r refl refl refl refl refl (goes_on objects x along ends o there named w p q r free Intentions deferred (ended objects x along ends o there named w p q 1 2) (rw view_one_two goes))))

  -- the second does
  pub two_one_runs : o.kind ≡ Intentions → IsLegalAt o (w ++ q ∷ []) → IsLegalAt o (w ++ p ∷ []) → Goes o.table (w ++ p ∷ q ∷ []) r → IsRun objects (breaking x 2 1 w p q r)
  two_one_runs deferred q_legal p_legal goes =
      let rest : List EventKind = Commit 2 ∷ Commit 1 ∷ Begin 3 ∷ (executed_by x 3 r ++ Commit 3 ∷ []) in
      runs-events objects [] (Begin 0 ∷ (executed_by x 0 w ++ (Commit 0 ∷ Begin 1 ∷ Begin 2 ∷ Op q 1 x ∷ Op p 2 x ∷ rest)))
      (prefix_runs objects x along ends o there named w p q rest (let_in objects x along ends o there named w p q r free Intentions deferred (λ V. free)) q_legal (seen_legal objects x along ends o there named w p q r free Intentions deferred p_legal)
      (tail_runs objects x along ends o there named w p q 2 1 r refl refl refl refl refl (goes_on objects x along ends o there named w p q r free Intentions deferred (ended objects x along ends o there named w p q 2 1) (rw view_two_one goes))))
