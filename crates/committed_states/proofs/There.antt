-- At a sound object that represents a run there is a committed state.
use Rattle.std.proofs.Common.{◌≡◌, ℕ, true, not, List, ◌++◌, map, filter, Some, slice_get, refl, sym, ap, ◌∙◌}
use Rattle.std.proofs.lemmas.List.Elements.{filter-append}
use Rattle.type_table.specs.Run.{run}
use Rattle.type_table.specs.Laws.{RunsAlong, EndsInside, LegalEnds}
use Rattle.type_table.specs.declared.kind.Kind.{Kind}
use Rattle.type_table.specs.declared.kind.Kind.TheVariants.{Undo, Intentions, Escrow}
use Rattle.type_table.proofs.Elements.{each-weaker, filter-all}
use Rattle.type_table.proofs.Legal.{legal-front}
use Rattle.object_trait.specs.Object.{Object}
use Rattle.object_trait.specs.Meaning.{object, run_log}
use Rattle.object_trait.specs.Committed.{done_of, committed_state_by}
use Rattle.object_trait.specs.Sound.{IsSoundBy}
use Rattle.object_trait.specs.Laws.{PartsSort, StruckPart, SortsLook}
use Rattle.object_trait.specs.declared.event.Event.{Event}
use Rattle.object_trait.specs.declared.log_entry.LogEntry.{LogEntry}
use Rattle.serial_order.specs.Operations.{is_among, ops}
use Rattle.serial_order.specs.History.{commits}
use Rattle.serial_order.specs.Machine.{IsRun, AreCovered}
use Rattle.serial_order.specs.Serial.{surviving_at}
use Rattle.serial_order.specs.Represent.{plain, RepresentsBy, RepresentsUndo}
use Rattle.serial_order.specs.Laws.{may_pass}
use Rattle.serial_order.specs.declared.entry.Entry.{Entry}
use Rattle.serial_order.proofs.CommitOrder.{undo_in_run}
use Rattle.serial_order.proofs.Facts.{IsLegalAt}
use Rattle.serial_order.proofs.Legal.{run-append}
use Rattle.serial_order.proofs.Lists.{ops-append}
use Rattle.serial_order.proofs.RepresentLogs.{ops-plain, filter-plain}
use Rattle.serial_order.proofs.Undo.{covers_undo, passes-commute}
use Rattle.committed_states.specs.Committed.{of_these, IsCommittedBy}
use Rattle.committed_states.specs.Laws.{CommittedIsThere}
use Rattle.committed_states.proofs.Leaving.{leaving-sorts}

-- the committed entries are those that moved into base, and the done ones of the log
done-committed : (o : Object) (base : ℕ) (log : List LogEntry) (x : ℕ) (C : List ℕ) (V : List Entry) (represents : RepresentsUndo o base log x C V) → of_these C V ≡ represents.past ++ map (plain x) (done_of log)
done-committed o base log x C V represents =
    ap (of_these C) (sym represents.whole)
    ∙ filter-append (λ (e : Entry). is_among C e.by) represents.past (map (plain x) log)
    ∙ ap (λ W. W ++ of_these C (map (plain x) log)) (filter-all (λ (e : Entry). is_among C e.by) represents.past represents.ended)
    ∙ ap (λ W. represents.past ++ W) (filter-plain (λ e. is_among C e.by) (λ e. e.done) x log (each-weaker (λ e flag. sym flag) log represents.flags))

-- so the state after these is that of the history
done-run : RunsAlong → (o : Object) (base : ℕ) (log : List LogEntry) (x : ℕ) (C : List ℕ) (V : List Entry) → RepresentsUndo o base log x C V →
    run o.table (Some o.table.initial) (ops (of_these C V)) ≡ run_log o base (done_of log)
done-run along o base log x C V represents =
    ap (λ W. run o.table (Some o.table.initial) (ops W)) (done-committed o base log x C V represents)
    ∙ run-append along o.table (Some o.table.initial) represents.past (map (plain x) (done_of log))
    ∙ ap (λ from. run o.table from (ops (map (plain x) (done_of log)))) represents.reached
    ∙ ap (run o.table (Some base)) (ops-plain x (done_of log))

module _ (along : RunsAlong) (inside : EndsInside) (ends : LegalEnds) (parts : PartsSort Entry) (struck : StruckPart Entry) (look : SortsLook Entry)
    (objects : List Object) (H : List Event) (covered : AreCovered objects) (going : IsRun objects H) (x : ℕ) (o : Object) (there : slice_get objects x ≡ Some o) where
  -- the committed ones alone are legal, in the order in which they were executed
  chosen-legal : o.kind ≡ Undo → IsLegalAt o (ops (of_these (commits H) (surviving_at x H)))
  chosen-legal is =
      let facts = undo_in_run along parts struck look objects H x o covered going there is in
      let covers = covers_undo o (covered x o there) is in
      let C = commits H in
      let V = surviving_at x H in
      let rest : List Entry = filter (λ e. not (is_among C e.by)) V in
      let looks = look o.table o.set (λ e. e.op) (may_pass o) o.table.initial V (of_these C V ++ rest) covers.closed covers.begins_inside (passes-commute o covers)
      (leaving-sorts parts o C (λ t. is_among C t) V (λ t fails. fails) facts.locked) facts.legal in
      legal-front o.table (Some o.table.initial) (ops (of_these C V)) (ops rest) (rw (ops-append (of_these C V) rest) at looks.0)

  there-by : (kind : Kind) (base : ℕ) (log : List LogEntry) → o.kind ≡ kind → RepresentsBy kind o base log x (commits H) (surviving_at x H) → IsSoundBy kind o base log
      → (s : ℕ) × (committed_state_by kind o base log ≡ Some s) × (o.set s ≡ true) × IsCommittedBy kind o s (commits H) (surviving_at x H)
  there-by Undo base log is represents sound =
      let covers = covers_undo o (covered x o there) is in
      let found = ends o.table (Some o.table.initial) (ops (of_these (commits H) (surviving_at x H))) (chosen-legal is) in (
        found.0,
        sym (done-run along o base log x (commits H) (surviving_at x H) represents) ∙ found.1,
        inside o.table o.set o.table.initial found.0 (ops (of_these (commits H) (surviving_at x H))) covers.closed covers.begins_inside found.1,
        found.1,
      )
  there-by Intentions base log is represents sound = (base, refl, sound.inside, represents.reached)
  there-by Escrow base log is represents sound = (base, refl, sound.inside, represents.reached)

pub committed_is_there : RunsAlong → EndsInside → LegalEnds → PartsSort Entry → StruckPart Entry → SortsLook Entry → CommittedIsThere
committed_is_there along inside ends parts struck look = λ objects H x m covered going there represents sound.
    let found = there-by along inside ends parts struck look objects H covered going x (object m) there m.checked.kind m.base m.log refl represents sound in
    (found.0, found.1, record { inside = found.2; reached = found.3 })
