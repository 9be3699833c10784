use Rattle.std.proofs.Common.{refl}
use Rattle.undo_manager.proofs.Recounting.{gone-there}
use Rattle.undo_manager.proofs.opened.take_count.Goals as goal

pub returns-in-Some-clause-counts : goal.returns-in-Some-clause-counts
returns-in-Some-clause-counts c =
    let there = rw c.deref.ensures.value at c.in-Some.ensures.some in
    rw c.swap_remove.ensures.items (gone-there c.args.t 0 c.in-Some.place c.args.counts.now.items c.swap_remove.result c.requires there c.swap_remove.ensures.value refl)
