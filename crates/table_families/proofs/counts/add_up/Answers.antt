use Rattle.std.proofs.Common.{◌≡◌, ◌-◌, arith}
use Rattle.table_families.proofs.Numbers.{IsSummed-none, IsSummed-more, IsSummed-all}
use Rattle.table_families.proofs.counts.add_up.Goals as goal

pub capped_sum-requires-clause-first : goal.capped_sum-requires-clause-first
capped_sum-requires-clause-first c = c.loop-room.invariant.small (c.loop-room.room - 1) (omega arith)

pub capped_sum-requires-clause-second : goal.capped_sum-requires-clause-second
capped_sum-requires-clause-second c = c.loop-room.invariant.small c.loop-room.room (omega arith)

pub loop-room-init : goal.loop-room-init
loop-room-init c = IsSummed-none _ (omega arith) c.requires

pub loop-room-preserved : goal.loop-room-preserved
loop-room-preserved c = IsSummed-more c.args.numbers.now c.loop-room.numbers c.loop-room.room _ c.loop-room.invariant (omega arith) (omega arith) c.capped_sum.ensures

pub returns : goal.returns
returns c = λ n are.
    let last : c.loop-room.room ≡ 1024 = omega arith in
    IsSummed-all c.args.numbers.now c.loop-room.numbers n (rw last at c.loop-room.invariant) are
