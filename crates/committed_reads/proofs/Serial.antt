-- The history with a reader is serially legal.
use Rattle.std.proofs.Common.{◌≡◌, ℕ, true, false, ◌==◌, List, [], ◌∷◌, ◌++◌, map, Some, slice_get, refl, sym, ap, subst, ◌∙◌, inl, inr, append_assoc, append-nil}
use Rattle.std.specs.List.{AllByRecursion}
use Rattle.std.proofs.lemmas.Bool.{cases_Bool, eqb-true}
use Rattle.std.proofs.lemmas.Option.{same_Some, slice_get-map}
use Rattle.type_table.specs.Table.{Table}
use Rattle.type_table.specs.Run.{run, IsLegal, AreEqui}
use Rattle.type_table.specs.StateSet.{IsClosed}
use Rattle.type_table.specs.Laws.{RunsAlong, EndsInside, LegalEnds}
use Rattle.type_table.specs.declared.kind.Kind.{Kind}
use Rattle.type_table.specs.declared.kind.Kind.TheVariants.{Undo, Intentions, Escrow}
use Rattle.type_table.proofs.Elements.{each-weaker, each-map, each-passes, filter-turned, eqb-sym}
use Rattle.type_table.proofs.Legal.{legal-behind, legal-after}
use Rattle.std.proofs.lemmas.List.{map-id}
use Rattle.std.proofs.lemmas.List.Folds.{list_any-append}
use Rattle.object_trait.specs.declared.event.EventKind.{EventKind}
use Rattle.object_trait.specs.declared.event.EventKind.TheVariants as kind
use Rattle.object_trait.specs.declared.event.EventKind.TheVariants.{Begin, Op, Busy, Commit, Abort, Rollback}
use Rattle.serial_order.specs.Held.{own_after}
use Rattle.serial_order.proofs.Held.{own_after_one}
use Rattle.serial_order.proofs.Events.{commits-snoc}
use Rattle.serial_order.proofs.After.{seen_after_one}
use Rattle.serial_order.proofs.Runs.{open_is_uncommitted, transactions_in_run}
use Rattle.object_trait.specs.Object.{Object, CoversBy}
use Rattle.object_trait.specs.declared.event.Event.{Event}
use Rattle.serial_order.specs.Operations.{is_among, is_by, at_object, ops, of, serial}
use Rattle.serial_order.specs.History.{Summary, summary, begins, commits, surviving, is_open, committed_by, ContinuesHistory, AllContinue, IsHistory}
use Rattle.serial_order.specs.Machine.{IsRun, AreCovered}
use Rattle.serial_order.specs.Serial.{surviving_at, serial_at, serial_state, IsSerial}
use Rattle.serial_order.specs.Laws.{Headline, RunIsHistory}
use Rattle.serial_order.specs.declared.entry.Entry.{Entry}
use Rattle.serial_order.proofs.Lists.{ops-append, is_among-apart}
use Rattle.committed_reads.specs.Still.{ChangesNothing}
use Rattle.committed_states.specs.Committed.{AreCommittedStates}
use Rattle.committed_states.specs.Laws.{CommittedAgrees}
use Rattle.committed_states.proofs.Fronts.{runs-front, continue-rest}
use Rattle.committed_states.proofs.Orders.{serial-like, serial-two}
use Rattle.committed_reads.specs.Readers.{shifted, IsReadOf, with_reader, without_readers, after_readers}
use Rattle.committed_reads.specs.Laws.{IsSerialHistory, ReadsAreSerial, ReadersAreSerial}
use Rattle.committed_reads.proofs.Shifting.{moved}
use Rattle.committed_reads.proofs.InHistory.{IsDone, IsRead_In, read-in}

-- ---- operations at an object

-- the same, of moved numbers
ops-moved : (r x : ℕ) (V : List Entry) → ops (at_object x (map (moved r) V)) ≡ ops (at_object x V)
ops-moved r x [] = refl
ops-moved r x (e ∷ V) =
    elim (cases_Bool (e.at == x)) [
      | inl here ↦ rw here (ap (λ rest. e.op ∷ rest) (ops-moved r x V))
      | inr elsewhere ↦ rw elsewhere (ops-moved r x V)
    ]

-- those of one transaction there
ops-own : (x t : ℕ) (V : List Entry) → ops (of t (at_object x V)) ≡ ops (at_object x (of t V))
ops-own x t V = ap ops (filter-turned (is_by t) (λ (e : Entry). e.at == x) V)

-- ---- what changes nothing

-- a covered object's set is closed
set-closed : (kind : Kind) (o : Object) → CoversBy kind o → IsClosed o.table o.set
set-closed Undo o covers = covers.closed
set-closed Intentions o covers = covers.closed
set-closed Escrow o covers = covers.closed

set-begins : (kind : Kind) (o : Object) → CoversBy kind o → o.set o.table.initial ≡ true
set-begins Undo o covers = covers.begins_inside
set-begins Intentions o covers = covers.begins_inside
set-begins Escrow o covers = covers.begins_inside

-- an operation that is legal in a state, and changes nothing
abbrev IsStill : Object → ℕ → ℕ → Type 0
IsStill o e k = IsLegal o.table (Some e) (k ∷ []) × ChangesNothing o k

-- such operations lead from a state that is equieffective to such a state
record StaysEqui (o : Object) (e c : ℕ) (ks : List ℕ) : Type 0 where
  end : ℕ
  reached : run o.table (Some c) ks ≡ Some end
  equi : AreEqui o.table (Some e) (Some end)

still-run : LegalEnds → (o : Object) → IsClosed o.table o.set → (e c : ℕ) (ks : List ℕ) → o.set c ≡ true → AreEqui o.table (Some e) (Some c) → AllByRecursion (IsStill o e) ks → StaysEqui o e c ks
still-run ends o closed e c [] inside equi all = record { end = c; reached = refl; equi = equi }
still-run ends o closed e c (k ∷ ks) inside equi all =
    let found = ends o.table (Some c) (k ∷ []) (equi.0 (k ∷ []) all.0.0) in
    let same = all.0.1 c found.0 inside found.1 in
    let rest = still-run ends o closed e found.0 ks (closed c k found.0 inside found.1)
    (λ ls legal. same.0 ls (equi.0 ls legal), λ ls legal. equi.1 ls (same.1 ls legal)) all.1 in
    record { end = rest.end; reached = ap (λ from. run o.table from ks) found.1 ∙ rest.reached; equi = rest.equi }

-- ---- what is committed stays

module _ (tables : List Table) (t : ℕ) where
  -- an open transaction is another
  open-other : (s : Summary) (u : ℕ) → is_among s.committed t ≡ true → is_open s u ≡ true → (u == t) ≡ false
  open-other s u inside open_now = eqb-sym u t ∙ is_among-apart s.committed u t (open_is_uncommitted s u open_now) inside

  -- an event leaves what it did
  own-same : (s : Summary) (happened : EventKind) → is_among s.committed t ≡ true → ContinuesHistory tables s happened → own_after t s happened ≡ of t s.survives
  own-same s (Begin u) inside may = refl
  own-same s (Op k u y) inside may = rw (open-other s u inside may.0) refl
  own-same s (Busy c u y v) inside may = refl
  own-same s (kind.None u y c) inside may = refl
  own-same s (Commit u) inside may = refl
  own-same s (Abort u) inside may = rw (open-other s u inside may) refl
  own-same s (Rollback u n) inside may = rw (open-other s u inside may.0) refl

  own-stays : (before K : List Event) → is_among (commits before) t ≡ true → AllContinue tables before K → of t (surviving (before ++ K)) ≡ of t (surviving before)
  own-stays before [] inside on = ap (λ G. of t (surviving G)) (append-nil before)
  own-stays before (e ∷ K) inside on =
      let still : is_among (commits (before ++ e ∷ [])) t ≡ true =
      ap (λ C. is_among C t) (commits-snoc before e) ∙ list_any-append (λ u. u == t) (commits before) (committed_by e.kind) ∙ rw inside refl in
      ap (λ G. of t (surviving G)) (sym (append_assoc before (e ∷ []) K))
      ∙ own-stays (before ++ e ∷ []) K still on.1
      ∙ ap (λ (s : Summary). of t s.survives) (seen_after_one before e)
      ∙ own_after_one (summary before) e.kind t
      ∙ own-same (summary before) e.kind inside on.0

-- ---- the serial order

module _ (along : RunsAlong) (inside : EndsInside) (ends : LegalEnds) (headline : Headline) (agrees : CommittedAgrees)
    (objects : List Object) (H K : List Event) (w : ℕ) (kept : List ℕ) (R : List Entry) (covered : AreCovered objects) (before : IsRun objects H)
    (going : IsHistory (map (λ (o : Object). o.table) objects) (H ++ K)) (serially : IsSerial objects (H ++ K)) (left : AreCommittedStates objects kept H)
    (reads : AllByRecursion (IsReadOf objects kept (begins H)) R) where
  done : AllByRecursion (IsDone (map (λ (o : Object). o.table) objects) (begins H)) R
  done = each-weaker (λ e h. record {
    by = h.by;
    operation = rw (slice_get-map (λ (o : Object). o.table) objects e.at, h.object) h.operation;
  }) R reads

  it : IsRead_In (map (λ (o : Object). o.table) objects) H K w R
  it = read-in (map (λ (o : Object). o.table) objects) H K w R (transactions_in_run objects H before) going done

  module _ (x : ℕ) (o : Object) (there : slice_get objects x ≡ Some o) where
    abbrev V : List Entry
    V = surviving_at x (H ++ K)

    abbrev T : Table
    T = o.table

    -- what each did
    like : (t : ℕ) → ops (of (shifted (begins H) t) (surviving_at x (with_reader w H R K))) ≡ ops (of t V)
    like t =
        ops-own x (shifted (begins H) t) (surviving (with_reader w H R K)) ∙ ap (λ W. ops (at_object x W)) (it.is.own t)
        ∙ ops-moved (begins H) x (of t (surviving (H ++ K))) ∙ sym (ops-own x t (surviving (H ++ K)))

    -- the serial order, with the reads
    order : ops (serial_at x (with_reader w H R K)) ≡ ops (serial (commits H) V) ++ (ops (at_object x R) ++ ops (serial it.is.rest V))
    order =
        let r = begins H in
        let W = surviving_at x (with_reader w H R K) in
        ap (λ C. ops (serial C W)) it.is.now
        ∙ serial-two (map (shifted r) (commits H)) (r ∷ map (shifted r) it.is.rest) W
        ∙ ap (λ v. v ++ ops (serial (r ∷ map (shifted r) it.is.rest) W)) (serial-like (shifted r) (commits H) W V (λ t _. like t))
        ∙ ap (λ v. ops (serial (commits H) V) ++ v)
        (ops-append (of r W) (serial (map (shifted r) it.is.rest) W)
        ∙ ap (λ v. v ++ ops (serial (map (shifted r) it.is.rest) W)) (ops-own x r (surviving (with_reader w H R K)) ∙ ap (λ U. ops (at_object x U)) it.is.reads)
        ∙ ap (λ v. ops (at_object x R) ++ v) (serial-like (shifted r) it.is.rest W V (λ t _. like t)))

    -- what had committed stays
    first : ops (serial (commits H) V) ≡ ops (serial_at x H)
    first =
        ap (λ C. ops (serial C V)) (sym (map-id (commits H)))
        ∙ serial-like (λ t. t) (commits H) V (surviving_at x H)
        (λ t committed. ops-own x t (surviving (H ++ K)) ∙ ap (λ W. ops (at_object x W)) (own-stays (map (λ (o : Object). o.table) objects) t H K committed (continue-rest (map (λ (o : Object). o.table) objects) [] H K going)) ∙ sym (ops-own x t (surviving H)))

    -- without the reads
    whole : IsLegal T (Some T.initial) (ops (serial_at x H) ++ ops (serial it.is.rest V))
    whole =
        let same : ops (serial_at x (H ++ K)) ≡ ops (serial_at x H) ++ ops (serial it.is.rest V) =
        ap (λ C. ops (serial C V)) it.is.committed ∙ serial-two (commits H) it.is.rest V ∙ ap (λ v. v ++ ops (serial it.is.rest V)) first in
        rw same at (serially x o there)

    -- the state that the reads meet
    reached : (e : ℕ) × (run T (Some T.initial) (ops (serial_at x H)) ≡ Some e)
    reached = ends T (Some T.initial) (ops (serial_at x H)) ((headline objects H covered before).serially_legal x o there)

    -- each read is legal there, and changes nothing
    still : AllByRecursion (IsStill o reached.0) (ops (at_object x R))
    still =
        each-map (IsStill o reached.0) (λ (f : Entry). f.op) (at_object x R)
        (each-passes (λ f. IsStill o reached.0 f.op) (λ f. f.at == x) R (each-weaker (λ f h here. one f h (eqb-true f.at x here)) R reads))
      where
        one : (f : Entry) → IsReadOf objects kept (begins H) f → f.at ≡ x → IsStill o reached.0 f.op
        one f h here =
            let its = agrees objects H f.at h.o h.s covered before h.object (left f.at h.o h.s h.object h.state) in
            let legal : IsLegal h.o.table (serial_state h.o f.at H) (f.op ∷ []) = its.looks (f.op ∷ []) h.legal in
            let same : h.o ≡ o = same_Some h.o o (sym h.object ∙ ap (slice_get objects) here ∙ there) in
            let both : IsLegal o.table (serial_state o x H) (f.op ∷ []) × ChangesNothing o f.op =
            subst (λ (q : Object). IsLegal q.table (serial_state q x H) (f.op ∷ []) × ChangesNothing q f.op) same
            (subst (λ y. IsLegal h.o.table (serial_state h.o y H) (f.op ∷ []) × ChangesNothing h.o f.op) here (legal, h.still)) in
            (rw reached.1 at both.0, both.1)

    with_reads : IsLegal T (Some T.initial) (ops (serial_at x (with_reader w H R K)))
    with_reads =
        let closed = set-closed o.kind o (covered x o there) in
        let e = reached.0 in
        let member = inside T o.set T.initial e (ops (serial_at x H)) closed (set-begins o.kind o (covered x o there)) reached.1 in
        let stays = still-run ends o closed e e (ops (at_object x R)) member (λ ks legal. legal, λ ks legal. legal) still in
        let last = legal-behind along T (Some T.initial) (ops (serial_at x H)) (ops (serial it.is.rest V)) e reached.1 whole in
        let after = stays.equi.0 (ops (serial it.is.rest V)) last in
        rw (order, first)
        (legal-after along T (Some T.initial) (ops (serial_at x H)) (ops (at_object x R) ++ ops (serial it.is.rest V)) e reached.1
        (legal-after along T (Some e) (ops (at_object x R)) (ops (serial it.is.rest V)) stays.end stays.reached after))

pub reads_are_serial : RunsAlong → EndsInside → LegalEnds → Headline → CommittedAgrees → ReadsAreSerial
reads_are_serial along inside ends headline agrees = λ objects H K w kept R covered before serially left reads. (
  (it along inside ends headline agrees objects H K w kept R covered before serially.0 serially.1 left reads).history,
  λ x o there. with_reads along inside ends headline agrees objects H K w kept R covered before serially.0 serially.1 left reads x o there,
)

-- ---- several

pub readers_are_serial : RunIsHistory → Headline → ReadsAreSerial → ReadersAreSerial
readers_are_serial history headline reads objects H [] covered going are =
    (history objects (H ++ []) going, (headline objects (H ++ []) covered going).serially_legal)
readers_are_serial history headline reads objects H (p ∷ ps) covered going are =
    let whole : IsRun objects ((H ++ p.behind) ++ without_readers ps) = rw (← (append_assoc H p.behind (without_readers ps))) at going in
    let rest = readers_are_serial history headline reads objects (H ++ p.behind) ps covered whole are.1 in
    let both : IsSerialHistory objects (H ++ (p.behind ++ after_readers (H ++ p.behind) ps)) = subst (IsSerialHistory objects) (append_assoc H p.behind (after_readers (H ++ p.behind) ps)) rest in
    reads objects H (p.behind ++ after_readers (H ++ p.behind) ps) p.worker are.0.0 p.reads covered (runs-front objects [] H (p.behind ++ without_readers ps) going) both are.0.1 are.0.2
