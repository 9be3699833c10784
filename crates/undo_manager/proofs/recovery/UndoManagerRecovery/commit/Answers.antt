use Rattle.std.proofs.Common.{◌∙◌, map, sym, ap}
use Rattle.op_locks.specs.Locks.{held_without}
use Rattle.undo_manager.specs.Held.{held_in}
use Rattle.undo_manager.specs.Log.{entries, unsettled, marked_one}
use Rattle.undo_manager.proofs.Running.{entries-marked}
use Rattle.undo_manager.proofs.Holding.{held-marked, held-settled}
use Rattle.undo_manager.proofs.Committing.{committed, commit-kept}
use Rattle.undo_manager.proofs.recovery.UndoManagerRecovery.commit.Goals as goal

pub invariant_of-self : goal.invariant_of-self
invariant_of-self c =
    let m = c.self.inside in (
      rw (c.settle-self-inside.ensures.base, c.settle-self-inside.ensures.log, c.mark.ensures)
          (commit-kept c.ends_within.ensures c.sound_after_commit.ensures (m.checked.value) m.base m.state m.log.items m.opened.items c.take_count-count.new.counts.items c.args.t c.self.invariant.0 c.take_count-count.ensures.counts),
      c.release.ensures.list ∙ ap (held_without c.args.t) c.self.invariant.1 ∙ sym (held-marked (entries m.log.items) c.args.t)
          ∙ ap held_in (sym (entries-marked c.args.t m.log.items)) ∙ sym (held-settled (map (marked_one c.args.t) m.log.items))
          ∙ ap (λ log. held_in (entries log)) (sym (c.settle-self-inside.ensures.log ∙ ap unsettled c.mark.ensures)),
    )

pub returns : goal.returns
returns c =
    let m = c.self.inside in
    rw (← c.self.view_is, c.settle-self-inside.ensures.base, c.settle-self-inside.ensures.log, c.mark.ensures)
    (committed (m.checked.value) m.base m.state m.log.items m.opened.items c.args.t c.self.invariant.0)
