use Rattle.std.proofs.Common.{◌∙◌, ap, sym, false, List, [], ◌∷◌, ◌++◌, arith, subst}
use Rattle.object_trait.specs.Meaning.{Meaning}
use Rattle.object_trait.specs.Steps.{applied}
use Rattle.object_trait.specs.declared.log_entry.LogEntry.{LogEntry}
use Rattle.undo_manager.specs.Log.{entries}
use Rattle.undo_manager.specs.declared.undo_entry.UndoEntry.{UndoEntry}
use Rattle.undo_manager.proofs.Applying.{applied-kept}
use Rattle.op_locks.specs.declared.held.Held.{Held}
use Rattle.undo_manager.specs.Held.{held_in}
use Rattle.undo_manager.proofs.Holding.{held-push}
use Rattle.undo_manager.proofs.Keeping.{legal-next, count-length}
use Rattle.undo_manager.proofs.Running.{entries-append}
use Rattle.table_checker.specs.Checked.{Checked}
use Rattle.declared_types.specs.Declarations.{IsByTable}
use Rattle.undo_manager.proofs.recovery.UndoManagerRecovery.apply.Goals as goal

pub table-table-requires : goal.table-table-requires
table-table-requires c = subst IsByTable (sym (ap (λ (x : Checked). x.kind) c.deref.ensures ∙ c.self.invariant.0.in_place)) tt

pub next_state-state-requires-clause-legal : goal.next_state-state-requires-clause-legal
next_state-state-requires-clause-legal c =
    let m = c.self.inside in
    let may = rw (← c.self.view_is) at c.requires in
    rw (c.table-table.ensures, c.deref.ensures) (legal-next (m.checked.value) m.base m.state m.log.items m.opened.items c.args.t c.args.k c.self.invariant.0 may.legal)

pub append-requires-clause-fits : goal.append-requires-clause-fits
append-requires-clause-fits c =
    let m = c.self.inside in
    let may = rw (← c.self.view_is) at c.requires in
    omega (arith, count-length c.args.t (entries m.log.items) m.opened.items c.self.invariant.0.counted, may.room)

pub invariant_of-self-2 : goal.invariant_of-self-2
invariant_of-self-2 c =
    let m = c.self.inside in
    let may = rw (← c.self.view_is) at c.requires in
    let step = rw (c.table-table.ensures, c.deref.ensures) at c.next_state-state.ensures in
    let one : UndoEntry = record { entry = record { by = c.args.t; op = c.args.k; done = false }; before = m.state } in
    rw c.in_ok-append.ensures.log (
      applied-kept c.steps_within.ensures c.sound_after_apply.ensures m.checked.value m.base m.state m.log.items m.opened.items c.append.new.counts.items c.args.t c.args.k c.next_state-state.result
          c.self.invariant.0 may step c.in_ok-append.ensures.counts,
      c.hold.ensures.list ∙ ap (λ k. c.reserve.new.self.held ++ (record { by = c.args.t; op = k }) ∷ []) c.column-column.ensures
          ∙ ap (λ (V : List Held). V ++ (record { by = c.args.t; op = c.args.k }) ∷ []) (c.in_ok-reserve.ensures.list ∙ c.self.invariant.1)
          ∙ sym (held-push (entries m.log.items) c.args.t c.args.k) ∙ ap held_in (sym (entries-append m.log.items (one ∷ []))),
    )

pub returns-clause-applied : goal.returns-clause-applied
returns-clause-applied c =
    let m = c.self.inside in
    let one : UndoEntry = record { entry = record { by = c.args.t; op = c.args.k; done = false }; before = m.state } in
    ap (λ (log : List LogEntry). record { checked = m.checked.value; base = m.base; log = log }) (ap entries c.in_ok-append.ensures.log ∙ entries-append m.log.items (one ∷ []))
    ∙ ap (λ (k : Meaning). applied k c.args.t c.args.k) c.self.view_is
