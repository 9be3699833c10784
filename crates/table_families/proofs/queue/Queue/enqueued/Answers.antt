use Rattle.std.proofs.Common.{◌<◌, suc, length, ◌∙◌, arith}
use Rattle.table_families.specs.Queue.{shorter}
use Rattle.table_families.proofs.QueueSteps.{enqueued}
use Rattle.table_families.proofs.queue.Queue.enqueued.Goals as goal

pub returns : goal.returns
returns c =
    let known = c.args.self.now in
    let n = length known.elements.now in
    let state : c.args.s < shorter n (suc known.capacity) = omega (arith, c.requires.state, known.exact) in
    c.where_legal.ensures ∙ rw known.exact (enqueued n known.capacity c.args.e c.args.s c.requires.element state)
