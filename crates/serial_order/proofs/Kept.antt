-- The headline: the serial order is legal, and kept states agree with it.
use Rattle.std.proofs.Common.{◌≡◌, ℕ, List, [], ◌++◌, Some, slice_get, true, ◌==◌, ⊎_elim, sym, ap, ◌∙◌, subst}
use Rattle.std.proofs.lemmas.Bool.{not_from_true, true_from_ne_false, true≢false}
use Rattle.std.proofs.lemmas.List.{append-nil}
use Rattle.type_table.specs.Commute.{CommutesBackwardBothWays, CoversStrongly}
use Rattle.type_table.specs.Run.{run, Looks, AreEqui}
use Rattle.type_table.specs.Laws.{RunsAlong, EndsInside, LegalEnds}
use Rattle.type_table.specs.declared.table_kind.TableKind.TheVariants as table
use Rattle.type_table.specs.declared.kind.Kind.{Kind}
use Rattle.type_table.specs.declared.kind.Kind.TheVariants.{Undo, Intentions, Escrow}
use Rattle.type_table.specs.Lists.{ListsForward}
use Rattle.type_table.proofs.Elements.{each-both, each-filter, filter-none}
use Rattle.type_table.proofs.Legal.{legal-front}
use Rattle.object_trait.specs.Object.{Object, IsCoveredStrongly}
use Rattle.object_trait.specs.Laws.{PartsSort, StruckPart, SortsLook, SortsEqui}
use Rattle.object_trait.specs.Meaning.{Meaning, object, state_by, run_log}
use Rattle.object_trait.specs.declared.event.Event.{Event}
use Rattle.object_trait.specs.declared.log_entry.LogEntry.{LogEntry}
use Rattle.serial_order.specs.Operations.{ops}
use Rattle.serial_order.specs.History.{commits, summary, surviving}
use Rattle.serial_order.specs.Machine.{IsRun, AreCovered}
use Rattle.serial_order.specs.Serial.{surviving_at, serial_at, pending_at, IsSerial}
use Rattle.serial_order.specs.Represent.{RepresentsBy, Represents, IsIdle, KeptAgreesBy, KeptAgrees}
use Rattle.serial_order.specs.Laws.{may_pass, Headline}
use Rattle.serial_order.specs.declared.entry.Entry.{Entry}
use Rattle.serial_order.proofs.Lists.{ops-append}
use Rattle.serial_order.proofs.Undo.{covers_undo, passes_parts, passes-commute}
use Rattle.serial_order.proofs.RepresentUndo.{undo_represents-run}
use Rattle.serial_order.proofs.Facts.{IsLegalAt}
use Rattle.serial_order.proofs.Runs.{transactions_in_run, pending_is_open}
use Rattle.serial_order.proofs.CommitOrder.{undo_in_run}
use Rattle.escrow_laws.specs.Laws.{FreshIsFirm, FirmAfterApply, FirmAfterCommit, FirmAfterStrike, FirmIsLegal, NothingKeeps}
use Rattle.serial_order.proofs.Escrow.{escrow_serial}
use Rattle.serial_order.proofs.Views.{by_kind, deferred_in_run, escrow_in_run}

-- ---- commuting

-- an object that is covered strongly for its kind is so for update in place, where that is its kind
covers_undo_strongly : (o : Object) → IsCoveredStrongly o → o.kind ≡ Undo → CoversStrongly table.Undo o.table o.set o.conflicts
covers_undo_strongly o covered kind = rw kind at covered

-- neighbours of which the first may pass the second commute backward in both ways, where the yes is strong
pub passes_both_ways : (o : Object) → IsCoveredStrongly o → o.kind ≡ Undo → (a b : Entry) → may_pass o a b ≡ true → CommutesBackwardBothWays o.table o.set b.op a.op
passes_both_ways o covered undo a b free =
    (covers_undo_strongly o covered undo).commute b.op a.op (passes_parts o a b free).1

-- ---- idle objects

-- at an idle object nothing is pending
idle_none_pending : (objects : List Object) (H : List Event) (x : ℕ) → IsRun objects H → IsIdle x H → pending_at x H ≡ []
idle_none_pending objects H x run idle = filter-none _ (surviving_at x H)
    (each-both
    (λ e began closed. not_from_true _ (true_from_ne_false _ (λ pending. true≢false (sym (pending_is_open (summary H) e.by (began.0) (began.1) pending) ∙ closed))))
    (surviving_at x H) (each-filter _ (λ e. e.at == x) (surviving H) (transactions_in_run objects H run).survive) idle)

-- ---- the serial order

module _ (along : RunsAlong) (inside : EndsInside) (ends : LegalEnds) (parts : PartsSort Entry) (struck : StruckPart Entry) (look : SortsLook Entry) (equi : SortsEqui Entry) (forward : ListsForward)
    (apply : FirmAfterApply) (firm_commits : FirmAfterCommit) (strikes : FirmAfterStrike) (nothing : NothingKeeps) (firm_legal : FirmIsLegal) (fresh : FreshIsFirm)
    (objects : List Object) (H : List Event) (covered : AreCovered objects) (going : IsRun objects H) where
  -- update in place: commit order is legal, and the view's end looks like its end
  in_commit_order : (x : ℕ) (o : Object) → slice_get objects x ≡ Some o → o.kind ≡ Undo
      → IsLegalAt o (ops (serial_at x H ++ pending_at x H)) × Looks o.table (run o.table (Some o.table.initial) (ops (surviving_at x H))) (run o.table (Some o.table.initial) (ops (serial_at x H ++ pending_at x H)))
  in_commit_order x o there undo =
      let facts = undo_in_run along parts struck look objects H x o covered going there undo in
      look o.table o.set (λ e. e.op) (may_pass o) o.table.initial (surviving_at x H) (serial_at x H ++ pending_at x H)
      ((covers_undo o (covered x o there) undo).closed) ((covers_undo o (covered x o there) undo).begins_inside) (passes-commute o (covers_undo o (covered x o there) undo)) facts.sorts facts.legal

  -- and equieffective to it where the yes is strong
  in_commit_order_strongly : (x : ℕ) (o : Object) → slice_get objects x ≡ Some o → o.kind ≡ Undo → IsCoveredStrongly o
      → AreEqui o.table (run o.table (Some o.table.initial) (ops (surviving_at x H))) (run o.table (Some o.table.initial) (ops (serial_at x H ++ pending_at x H)))
  in_commit_order_strongly x o there undo strong =
      let facts = undo_in_run along parts struck look objects H x o covered going there undo in
      (equi o.table o.set (λ e. e.op) (may_pass o) o.table.initial (surviving_at x H) (serial_at x H ++ pending_at x H)
      (covers_undo_strongly o strong undo).closed (covers_undo_strongly o strong undo).begins_inside (passes_both_ways o strong undo) facts.sorts facts.legal).1

  -- the serial order is legal
  serial_is_legal : IsSerial objects H
  serial_is_legal x o there = ⊎_elim
      (λ (undo : o.kind ≡ Undo). legal-front o.table (Some o.table.initial) (ops (serial_at x H)) (ops (pending_at x H))
      (rw (ops-append (serial_at x H) (pending_at x H)) at ((in_commit_order x o there undo).0)))
      (⊎_elim
      (λ (deferred : o.kind ≡ Intentions). (deferred_in_run along inside ends forward objects H x o covered going there deferred).serial_legal)
      (λ (escrow : o.kind ≡ Escrow). escrow_serial o (commits H) (surviving_at x H) (escrow_in_run along ends apply firm_commits strikes nothing firm_legal fresh objects H x o covered going there escrow)))
      (by_kind o.kind)

  -- ---- kept states

  -- update in place
  kept_undo : (x : ℕ) (o : Object) (base : ℕ) (log : List LogEntry) → slice_get objects x ≡ Some o → o.kind ≡ Undo
      → RepresentsBy Undo o base log x (commits H) (surviving_at x H) → KeptAgreesBy Undo o (run_log o base log) x H
  kept_undo x o base log there undo represents idle =
      let same = sym (undo_represents-run o base log x (commits H) (surviving_at x H) represents along) in
      let none = idle_none_pending objects H x going idle in
      let end = ap (λ W. serial_at x H ++ W) none ∙ append-nil (serial_at x H) in (
        rw (same, ← end) ((in_commit_order x o there undo).1),
        λ strong. rw (same, ← end) (in_commit_order_strongly x o there undo strong),
      )

  -- both kinds
  kept_agrees : (x : ℕ) (m : Meaning) → slice_get objects x ≡ Some (object m) → Represents m x H → KeptAgrees m x H
  kept_agrees x m there represents =
      let P : Kind → Type 0 = λ kind. RepresentsBy kind (object m) m.base m.log x (commits H) (surviving_at x H)
      → KeptAgreesBy kind (object m) (state_by kind (object m) m.base m.log) x H in
      ⊎_elim
      (λ (undo : m.checked.kind ≡ Undo). subst P (sym undo) (kept_undo x (object m) m.base m.log there undo) represents)
      (⊎_elim
      (λ (deferred : m.checked.kind ≡ Intentions). subst P (sym deferred) (λ held. held.reached) represents)
      (λ (escrow : m.checked.kind ≡ Escrow). subst P (sym escrow) (λ held. sym held.reached) represents))
      (by_kind m.checked.kind)

-- the headline
pub headline : RunsAlong → EndsInside → LegalEnds → PartsSort Entry → StruckPart Entry → SortsLook Entry → SortsEqui Entry → ListsForward → FirmAfterApply → FirmAfterCommit → FirmAfterStrike → NothingKeeps → FirmIsLegal → FreshIsFirm → Headline
headline along inside ends parts struck look equi forward apply firm_commits strikes nothing firm_legal fresh objects H covered going = record {
  serially_legal = serial_is_legal along inside ends parts struck look equi forward apply firm_commits strikes nothing firm_legal fresh objects H covered going;
  kept = kept_agrees along inside ends parts struck look equi forward apply firm_commits strikes nothing firm_legal fresh objects H covered going;
}
