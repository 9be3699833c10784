use Rattle.std.proofs.Common.{◌<◌, length, refl, arith}
use Rattle.op_locks.specs.declared.held.Held.{Held}
use Rattle.op_locks.proofs.Compacts.{Compacts-read, Compacts-next}
use Rattle.op_locks.proofs.compacting.compact_both.Goals as goal

nobody : Held
nobody = record { by = 0; op = 0 }

pub overflow_shl-word : goal.overflow_shl-word
unfolding nobody
overflow_shl-word c =
    let i_in : c.loop-i.i < length c.loop-i.held = omega arith in
    Compacts-read _ _ _ _ _ _ _ _ _ nobody c.loop-i.invariant i_in refl c.requires

pub loop-i-preserved : goal.loop-i-preserved
unfolding nobody
loop-i-preserved c =
    let i_in : c.loop-i.i < length c.loop-i.held = omega arith in
    rw (c.saturating_sub-left.ensures)
    (Compacts-next _ _ _ _ _ _ _ _ _ nobody c.loop-i.invariant i_in refl (Compacts-read _ _ _ _ _ _ _ _ _ nobody c.loop-i.invariant i_in refl c.requires)
    c.from-count.result c.from.result c.from-in-loop-i.result c.stays-stays.result c.stays-stays.ensures c.from-count.ensures c.from.ensures c.from-in-loop-i.ensures)
