use Rattle.std.proofs.Common.{ℕ, ◌^◌, length, ap, sym, ◌∙◌, arith}
use Rattle.table_families.specs.Queue.{shorter}
use Rattle.table_families.proofs.QueueLists.{length_at-counted}
use Rattle.table_families.proofs.queue.Queue.as_long.Goals as goal

pub returns-then-s-first-clause-first : goal.returns-then-s-first-clause-first
returns-then-s-first-clause-first c =
    let n = length c.args.self.now.elements.now in
    let loop = c.loop-len in
    let known = loop.invariant in
    known.begin ∙ sym (ap (λ (len : ℕ). shorter n len) (length_at-counted n c.args.self.now.capacity c.args.s loop._len loop.first loop.count (omega arith) known.begin known.power known.low c.if-s-first.true))

pub returns-then-s-first-clause-count : goal.returns-then-s-first-clause-count
returns-then-s-first-clause-count c =
    let n = length c.args.self.now.elements.now in
    let loop = c.loop-len in
    let known = loop.invariant in
    known.power ∙ sym (ap (λ (len : ℕ). n ^ len) (length_at-counted n c.args.self.now.capacity c.args.s loop._len loop.first loop.count (omega arith) known.begin known.power known.low c.if-s-first.true))
