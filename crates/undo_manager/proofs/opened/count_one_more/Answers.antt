use Rattle.std.proofs.Common.{◌≡◌, ◌+◌, ap, arith}
use Rattle.undo_manager.specs.Opened.{count_of}
use Rattle.undo_manager.proofs.Recounting.{pushed, put-there, place-count}
use Rattle.undo_manager.proofs.opened.count_one_more.Goals as goal

pub returns-in-Some : goal.returns-in-Some
returns-in-Some c =
    let there = rw c.deref.ensures.value at c.in-Some.ensures.some in
    let more : c.index-one.result.now.count + 1 ≡ count_of c.args.t c.args.counts.now.items + 1 =
    ap (λ n. n + 1) (place-count c.args.t c.in-Some.place c.args.counts.now.items c.index-one.result.now there c.index-one.ensures) in
    rw (← more) (put-there c.args.t (c.index-one.result.now.count + 1) c.in-Some.place c.args.counts.now.items c.index-one.result.now c.requires.listed there c.index-one.ensures (omega arith))

pub returns-in-None : goal.returns-in-None
returns-in-None c =
    let none = rw c.deref.ensures.value at c.in-None.ensures.none in
    rw (none, c.push_reserved.ensures.items) (pushed c.args.t c.args.counts.now.items c.requires.listed none)
