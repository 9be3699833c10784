use Rattle.std.proofs.Common.{not, ◌&&◌, ◌==◌, List, Bool, length, sym, ap, ◌∙◌, arith, subst}
use Rattle.std.specs.List.{find}
use Rattle.std.specs.Option.{option_map}
use Rattle.type_table.specs.ConflictTable.{conflicts}
use Rattle.table_checker.specs.Checked.{Checked}
use Rattle.object_trait.specs.declared.log_entry.LogEntry.{LogEntry}
use Rattle.intentions_manager.proofs.Keeping.{meant, deferred-sound}
use Rattle.intentions_manager.proofs.Blocking.{rows-deferred, stopper-told}
use Rattle.declared_types.specs.Declarations.{IsByTable}
use Rattle.intentions_manager.proofs.manager.IntentionsManagerRecovery.blocker.Goals as goal

pub conflicts-requires : goal.conflicts-requires
conflicts-requires c = subst IsByTable (sym (ap (λ (x : Checked). x.kind) c.deref.ensures ∙ c.self.invariant.0.deferred)) tt

pub first_conflict-requires-clause-few : goal.first_conflict-requires-clause-few
first_conflict-requires-clause-few c =
    let few = c.self.invariant.0.table.ops_fit in
    let height = c.conflicts.ensures.fits.height ∙ ap (λ (x : Checked). length x.file.table.ops) c.deref.ensures in
    omega (arith, few, height)

pub first_conflict-requires-clause-bits : goal.first_conflict-requires-clause-bits
first_conflict-requires-clause-bits c = c.self.invariant.1

pub returns : goal.returns
returns c =
    let inside = c.self.inside in
    let m = meant inside in
    rw (← c.self.view_is)
    (c.first_conflict.ensures
    ∙ ap (λ (rows : List (List Bool)). option_map (λ (e : LogEntry). e.by) (find (λ e. not (e.by == c.args.t) && conflicts rows c.args.k e.op) inside.log.items))
    (c.conflicts.ensures.exact ∙ ap (λ (x : Checked). x.file.intentions) c.deref.ensures ∙ rows-deferred inside.checked.value.kind inside.checked.value.file c.self.invariant.0.deferred)
    ∙ sym (stopper-told m c.args.t c.args.k c.self.invariant.0.deferred (deferred-sound m c.self.invariant.0.deferred c.self.invariant.0.sound).all_open))
