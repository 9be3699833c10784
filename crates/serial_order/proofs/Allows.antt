-- An object that represents a history allows what the machine's view allows.
use Rattle.std.proofs.Common.{◌≡◌, ◌↔◌, ℕ, ◌<◌, Bool, true, false, not, ◌==◌, List, [], ◌∷◌, ◌++◌, map, Some, refl, sym, subst, ◌∙◌}
use Rattle.std.specs.List.{AllByRecursion}
use Rattle.std.proofs.lemmas.Bool.{not-true}
use Rattle.type_table.specs.Run.{IsLegal}
use Rattle.type_table.specs.Laws.{RunsAlong}
use Rattle.type_table.proofs.Elements.{each-weaker, each-both, each-passes, each-filter}
use Rattle.type_table.specs.declared.kind.Kind.{Kind}
use Rattle.type_table.specs.declared.kind.Kind.TheVariants.{Undo, Intentions, Escrow}
use Rattle.object_trait.specs.Object.{Object}
use Rattle.object_trait.specs.Meaning.{object, view_by}
use Rattle.object_trait.specs.Steps.{IsOfAnotherOpen, stops_by, alone_by}
use Rattle.object_trait.specs.declared.log_entry.LogEntry.{LogEntry}
use Rattle.serial_order.specs.Operations.{is_among, at_object, ops, of, serial}
use Rattle.serial_order.specs.History.{Summary, summary}
use Rattle.serial_order.specs.View.{view, is_legal_after, conflicts_with, stops_at, alone_at}
use Rattle.serial_order.specs.Represent.{plain, RepresentsBy}
use Rattle.serial_order.specs.Laws.{AllowsAlike, MachineMayApply}
use Rattle.serial_order.specs.declared.entry.Entry.{Entry}
use Rattle.serial_order.specs.After.{AreInRun}
use Rattle.serial_order.proofs.Runs.{transactions_in_run, pending_is_open, open_is_uncommitted}
use Rattle.serial_order.proofs.Pairs.{each-rest, each-from_map}
use Rattle.serial_order.proofs.RepresentUndo.{undo_represents-run}
use Rattle.serial_order.proofs.RepresentEscrow.{as_deferred, escrow_stops-alike, escrow_alone-alike}
use Rattle.declared_types.proofs.TableOps.{op_below}
use Rattle.serial_order.proofs.RepresentDeferred.{deferred_represents-run}

-- ---- what is legal

-- by kinds of recovery: an operation is legal after what a transaction that didn't commit sees, where it is after its view
allows_by : RunsAlong → (recovery : Kind) (o : Object) (base : ℕ) (log : List LogEntry) (x : ℕ) (s : Summary) (t k : ℕ) → is_among s.committed t ≡ false →
    RepresentsBy recovery o base log x s.committed (at_object x s.survives) → IsLegal o.table (view_by recovery o base log t) (k ∷ []) ↔ (is_legal_after o (view recovery s x t) k ≡ true)
allows_by along Undo o base log x s t k apart represents =
    rw (along o.table (Some o.table.initial) (ops (at_object x s.survives)) (k ∷ []), undo_represents-run o base log x s.committed (at_object x s.survives) represents along)
    (λ h. h, λ h. h)
allows_by along Intentions o base log x s t k apart represents =
    let sees : List Entry = serial s.committed (at_object x s.survives) ++ of t (at_object x s.survives) in
    let equi = deferred_represents-run o base log x s.committed (at_object x s.survives) represents along t apart in
    rw (along o.table (Some o.table.initial) (ops sees) (k ∷ [])) (λ h. equi.0 (k ∷ []) h, λ h. equi.1 (k ∷ []) h)
allows_by along Escrow o base log x s t k apart represents =
    let sees : List Entry = serial s.committed (at_object x s.survives) ++ of t (at_object x s.survives) in
    let like = as_deferred o base log x s.committed (at_object x s.survives) represents in
    let equi = deferred_represents-run o base log x s.committed (at_object x s.survives) like along t apart in
    rw (along o.table (Some o.table.initial) (ops sees) (k ∷ [])) (λ h. equi.0 (k ∷ []) h, λ h. equi.1 (k ∷ []) h)

-- what an object that represents a history allows is what the view allows
pub allows_alike : RunsAlong → AllowsAlike
allows_alike along = λ m x H t k open_now represents.
    allows_by along m.checked.kind (object m) m.base m.log x (summary H) t k (open_is_uncommitted (summary H) t open_now) represents

-- ---- what the machine allows

-- what holds of each operation that survives holds of each entry that isn't done, and its transaction didn't commit
undone_each : (P : Entry → Type 0) (recovery : Kind) (o : Object) (base : ℕ) (log : List LogEntry) (x : ℕ) (C : List ℕ) (V : List Entry) → RepresentsBy recovery o base log x C V → AllByRecursion P V →
    AllByRecursion (λ e. e.done ≡ false → P (plain x e) × (is_among C e.by ≡ false)) log
undone_each P Undo o base log x C V represents all =
    let here = each-from_map P (plain x) log (each-rest P represents.past (map (plain x) log) (rw (← represents.whole) at all)) in
    each-both (λ e p flag undone. (p, sym flag ∙ undone)) log here represents.flags
undone_each P Intentions o base log x C V represents all =
    let test : Entry → Bool = λ e. not (is_among C e.by) in
    let known = each-passes (λ e. P e × (test e ≡ true)) test V (each-weaker (λ e p passes. (p, passes)) V all) in
    let here = each-from_map (λ e. P e × (test e ≡ true)) (plain x) log (rw (← represents.whole) at known) in
    each-weaker (λ e p undone. (p.0, not-true (is_among C e.by) p.1)) log here
undone_each P Escrow o base log x C V represents all =
    let test : Entry → Bool = λ e. not (is_among C e.by) in
    let known = each-passes (λ e. P e × (test e ≡ true)) test V (each-weaker (λ e p passes. (p, passes)) V all) in
    let here = each-from_map (λ e. P e × (test e ≡ true)) (plain x) log (rw (← represents.whole) at known) in
    each-weaker (λ e p undone. (p.0, not-true (is_among C e.by) p.1)) log here

-- an operation that survives, and doesn't keep t from k; in a run its transaction began and didn't abort
record IsHarmless (o : Object) (s : Summary) (x t k : ℕ) (e : Entry) : Type 0 where
  harmless : conflicts_with o s x t k e ≡ false
  began : e.by < s.begun
  kept : is_among s.aborted e.by ≡ false

-- one of another transaction, which didn't commit either, doesn't conflict
harmless-free : (o : Object) (s : Summary) (x t k : ℕ) (e : Entry) → IsHarmless o s x t k e → is_among s.committed e.by ≡ false → (e.by == t) ≡ false → stops_at o.kind o s.committed (at_object x s.survives) t k e ≡ false
harmless-free o s x t k e h pending_now other = rw (pending_is_open s e.by h.began h.kept pending_now, other) at h.harmless

-- the entries of other open transactions don't conflict with what the machine allows
-- by ways of recovery: an entry keeps t from k where its operation does
pub stops_alike : (recovery : Kind) (o : Object) (base : ℕ) (log : List LogEntry) (x : ℕ) (C : List ℕ) (V : List Entry) (t k : ℕ) (e : LogEntry) → RepresentsBy recovery o base log x C V →
    stops_at recovery o C V t k (plain x e) ≡ stops_by recovery o base log t k e
stops_alike Undo o base log x C V t k e represents = refl
stops_alike Intentions o base log x C V t k e represents = refl
stops_alike Escrow o base log x C V t k e represents = escrow_stops-alike o base log x C V represents t k e

-- and its transaction alone does where that of the operation does
pub alone-alike : (recovery : Kind) (o : Object) (base : ℕ) (log : List LogEntry) (x : ℕ) (C : List ℕ) (V : List Entry) (t k : ℕ) (e : LogEntry) → RepresentsBy recovery o base log x C V →
    alone_at recovery o C V t k (plain x e) ≡ alone_by recovery o base log t k e
alone-alike Undo o base log x C V t k e represents = refl
alone-alike Intentions o base log x C V t k e represents = refl
alone-alike Escrow o base log x C V t k e represents = escrow_alone-alike o base log x C V represents t k e

log_free : (recovery : Kind) (o : Object) → o.kind ≡ recovery → (base : ℕ) (log : List LogEntry) (x : ℕ) (s : Summary) (t k : ℕ) → AreInRun s →
    RepresentsBy recovery o base log x s.committed (at_object x s.survives) → AllByRecursion (λ e. conflicts_with o s x t k e ≡ false) (at_object x s.survives) →
    AllByRecursion (λ e. IsOfAnotherOpen t e → stops_by recovery o base log t k e ≡ false) log
log_free recovery o is base log x s t k in_run represents free =
    let known = each-filter (λ e. (e.by < s.begun) × (is_among s.aborted e.by ≡ false)) (λ e. e.at == x) s.survives in_run.survive in
    let all = each-both (λ e h p. record { harmless = h; began = p.0; kept = p.1 }) (at_object x s.survives) free known in
    let undone = undone_each (IsHarmless o s x t k) recovery o base log x s.committed (at_object x s.survives) represents all in
    each-weaker (λ e h apart. sym (stops_alike recovery o base log x s.committed (at_object x s.survives) t k e represents) ∙ subst (λ (way : Kind). stops_at way o s.committed (at_object x s.survives) t k (plain x e) ≡ false) is (harmless-free o s x t k (plain x e) (h apart.0).0 (h apart.0).1 apart.1)) log undone

-- an operation that the machine allows may be executed
pub machine_may_apply : RunsAlong → MachineMayApply
machine_may_apply along = λ objects H w t x k m run may place represents room.
    let does = rw place at may.1 in
    record {
      operation = op_below m.checked.file.table k does.0;
      legal = (allows_alike along m x H t k may.0 represents).1 does.1;
      free = log_free m.checked.kind (object m) refl m.base m.log x (summary H) t k (transactions_in_run objects H run) represents does.2;
      room = room;
    }
