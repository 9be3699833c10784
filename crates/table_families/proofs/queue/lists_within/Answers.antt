use Rattle.std.proofs.Common.{◌≡◌, ℕ, suc, ◌≤◌, ◌*◌, min, ap, ◌∙◌, arith, mul-le-mul}
use Rattle.table_families.specs.Queue.{shorter}
use Rattle.table_families.proofs.QueueSteps.{capped-more}
use Rattle.table_families.proofs.queue.lists_within.Goals as goal

pub overflow_mul-count : goal.overflow_mul-count
overflow_mul-count c =
    let capped : c.loop-len.count ≤ 1025 = omega (arith, c.loop-len.invariant) in
    let product : c.loop-len.count * c.args.n ≤ 1025 * 32 = mul-le-mul capped c.requires.few in
    omega (arith, product)

pub overflow_add-count : goal.overflow_add-count
overflow_add-count c =
    let capped : c.loop-len.count ≤ 1025 = omega (arith, c.loop-len.invariant) in
    let product : c.loop-len.count * c.args.n ≤ 1025 * 32 = mul-le-mul capped c.requires.few in
    omega (arith, product)

pub loop-len-preserved : goal.loop-len-preserved
loop-len-preserved c = c.min-count.ensures ∙ capped-more c.args.n c.loop-len._len _ c.loop-len.count c.requires.some (omega arith) c.loop-len.invariant

pub returns : goal.returns
returns c =
    let whole : c.loop-len._len ≡ suc c.args.most = omega arith in
    c.loop-len.invariant ∙ ap (λ (len : ℕ). min (shorter c.args.n len) 1025) whole
