use Rattle.std.proofs.Common.{arith}
use Rattle.undo_manager.proofs.Folding.{up-legal, up-done, up-open, up-ends}
use Rattle.undo_manager.proofs.stepping.committed_after.Goals as goal
use Rattle.undo_manager.proofs.stepping.committed_after.Goals.{then-one, else-one}

pub next_state-state-requires-clause-legal : goal.next_state-state-requires-clause-legal
next_state-state-requires-clause-legal c =
    up-legal c.args.table.now c.args.base c.args.log.now c.loop-one.one-index c.loop-one.state c.one-item.result c.loop-one.invariant c.loop-one-test.true c.one-item.is c.requires.legal c.if-one.true

pub loop-one-preserved : goal.loop-one-preserved
loop-one-preserved c =
    elim c.if-one.branch [
      | then-one w ↦
          rw w.state-is
          (up-done c.args.table.now c.args.base c.args.log.now c.loop-one.one-index c.loop-one.state c.one-item.result c.loop-one.invariant c.loop-one-test.true c.one-item.is
          w.next_state-state.result w.if-one.true w.next_state-state.ensures)
      | else-one w ↦
          rw w.state-is
          (up-open c.args.table.now c.args.base c.args.log.now c.loop-one.one-index c.loop-one.state c.one-item.result c.loop-one.invariant c.loop-one-test.true c.one-item.is w.if-one.false)
    ]

pub returns : goal.returns
returns c = up-ends c.args.table.now c.args.base c.args.log.now c.loop-one.one-index c.loop-one.state c.loop-one.invariant (omega arith)
