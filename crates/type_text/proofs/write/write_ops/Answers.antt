use Rattle.std.proofs.Common.{take}
use Rattle.std.proofs.lemmas.List.Elements.{All-push}
use Rattle.type_table.specs.declared.op.Op.{Op}
use Rattle.type_text.specs.Canonical.{IsNamed}
use Rattle.type_text.specs.declared.type_line.TypeLine.TheVariants.{Operation}
use Rattle.type_text.proofs.Members.{take-more}
use Rattle.type_text.proofs.Writing.{ops_more, ops_exit}
use Rattle.type_text.proofs.write.write_ops.Goals as goal

pub returns-in_err-write_line-clause-writes : goal.returns-in_err-write_line-clause-writes
returns-in_err-write_line-clause-writes g c =
    ops_exit c.items_in_turn.ensures c.args.ops.now c.loop-op.op-index c.op-item.result c.loop-op-test.true c.op-item.is c.loop-op.invariant.0 c.in_err-write_line.ensures.writes c.from_residual.ensures.1

pub loop-op-preserved : goal.loop-op-preserved
loop-op-preserved g c = (
  ops_more c.texts_in_turn.ensures.joined c.args.ops.now c.loop-op.op-index c.op-item.result c.loop-op-test.true c.op-item.is c.loop-op.invariant.0 c.in_ok-write_line.ensures.writes,
  rw (take-more c.args.ops.now c.loop-op.op-index c.op-item.result c.loop-op-test.true c.op-item.is)
      (All-push (λ (op : Op). IsNamed (Operation op)) (take c.loop-op.op-index c.args.ops.now) c.op-item.result c.loop-op.invariant.1 c.in_ok-write_line.ensures.named),
)
