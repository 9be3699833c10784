use Rattle.std.proofs.Common.{◌<◌, List, Bool, All, length, sym, ap, subst, ◌∙◌}
use Rattle.op_locks.specs.Locks.{blocking_holder}
use Rattle.op_locks.specs.declared.held.Held.{Held}
use Rattle.table_checker.specs.Checked.{Checked}
use Rattle.object_trait.specs.Object.{conflicts_by}
use Rattle.undo_manager.specs.Held.{held_in}
use Rattle.undo_manager.specs.Log.{entries}
use Rattle.undo_manager.proofs.Keeping.{meaning_of}
use Rattle.undo_manager.proofs.Accepted.{rows-in_place}
use Rattle.undo_manager.proofs.Blocking.{held-fits, stopper-told}
use Rattle.declared_types.specs.Declarations.{IsByTable}
use Rattle.undo_manager.proofs.recovery.UndoManagerRecovery.blocker.Goals as goal

pub conflicts-requires : goal.conflicts-requires
conflicts-requires c = subst IsByTable (sym (ap (λ (x : Checked). x.kind) c.deref-2.ensures ∙ c.self.invariant.0.in_place)) tt

pub blocker-requires-clause-held : goal.blocker-requires-clause-held
blocker-requires-clause-held c =
    let inside = c.self.inside in
    let T = inside.checked.value.file.table in
    let height = c.conflicts.ensures.fits.height ∙ ap (λ (x : Checked). length x.file.table.ops) c.deref-2.ensures in
    subst (λ (V : List Held). All (λ (e : Held). e.op < length c.conflicts.result.now) V) (sym c.self.invariant.1)
    (subst (λ n. All (λ (e : Held). e.op < n) (held_in (entries inside.log.items))) (sym height) (held-fits c.steps_within.ensures T c.self.invariant.0.table inside.base inside.state inside.log.items c.self.invariant.0.steps))

pub returns : goal.returns
returns c =
    let inside = c.self.inside in
    let m = meaning_of inside.checked.value inside.base inside.log.items in
    rw (← c.self.view_is)
    (c.blocker.ensures
    ∙ ap (λ k. blocking_holder c.conflicts.result.now c.args.t k inside.held.held) c.column-column.ensures
    ∙ ap (λ (rows : List (List Bool)). blocking_holder rows c.args.t c.args.k inside.held.held)
    (c.conflicts.ensures.exact ∙ ap (λ (x : Checked). x.file.undo) c.deref-2.ensures ∙ rows-in_place inside.checked.value.kind inside.checked.value.file c.self.invariant.0.in_place)
    ∙ ap (blocking_holder (conflicts_by inside.checked.value.kind inside.checked.value.file) c.args.t c.args.k) c.self.invariant.1
    ∙ stopper-told m c.args.t c.args.k c.self.invariant.0.in_place)
