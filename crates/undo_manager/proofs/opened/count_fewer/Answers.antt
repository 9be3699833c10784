use Rattle.std.proofs.Common.{◌≡◌, ◌-◌, ap, sym, ◌∙◌, arith}
use Rattle.undo_manager.specs.Opened.{count_of}
use Rattle.undo_manager.proofs.Recounting.{put-there, gone-there, place-count}
use Rattle.undo_manager.proofs.opened.count_fewer.Goals as goal

pub returns-then-count-eq0-clause-counts : goal.returns-then-count-eq0-clause-counts
returns-then-count-eq0-clause-counts c =
    let there = rw c.deref.ensures.value at c.in-Some.ensures.some in
    let whole = place-count c.args.t c.in-Some.place c.args.counts.now.items c.index-one.result.now there c.index-one.ensures in
    let none : count_of c.args.t c.args.counts.now.items - c.args.m ≡ 0 = ap (λ n. n - c.args.m) (sym whole) ∙ c.if-count-eq0.true in
    rw c.swap_remove.ensures.items
    (gone-there c.args.t (count_of c.args.t c.args.counts.now.items - c.args.m) c.in-Some.place c.args.counts.now.items c.swap_remove.result c.requires.listed there c.swap_remove.ensures.value none)

pub returns-else-count-eq0-clause-counts : goal.returns-else-count-eq0-clause-counts
returns-else-count-eq0-clause-counts c =
    let there = rw c.deref.ensures.value at c.in-Some.ensures.some in
    let whole = place-count c.args.t c.in-Some.place c.args.counts.now.items c.index-one.result.now there c.index-one.ensures in
    rw (← whole)
    (put-there c.args.t (c.index-one.result.now.count - c.args.m) c.in-Some.place c.args.counts.now.items c.index-one.result.now c.requires.listed there c.index-one.ensures (omega (arith, c.if-count-eq0.false)))
