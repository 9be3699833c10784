use Rattle.table_maker.proofs.FailingPairs.{adds_none, adds_more}
use Rattle.table_maker.proofs.made_conflicts.add_failing.Goals as goal

pub loop-q-init : goal.loop-q-init
loop-q-init c = record {
  square = c.requires.square;
  pairs = adds_none c.args.condition c.args.file.now c.args.p c.args.table.now;
}

pub loop-q-preserved : goal.loop-q-preserved
loop-q-preserved c = record {
  square = c.add_if_failing.ensures.square;
  pairs = adds_more c.args.condition c.args.file.now c.args.p c.loop-q.q c.args.table.now c.loop-q.table c.add_if_failing.new.table c.loop-q.invariant.pairs c.add_if_failing.ensures.pairs;
}
