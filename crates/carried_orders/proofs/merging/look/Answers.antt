use Rattle.std.proofs.Common.{◌≡◌, ◌<◌, [], ◌∷◌, ◌++◌, length, map, ap, ◌∙◌, arith}
use Rattle.carried_orders.specs.Merging.{again_event}
use Rattle.carried_orders.proofs.Stepping.{means, looked, turn-inside, next-within}
use Rattle.carried_orders.proofs.merging.look.Goals as goal

pub next_carried-requires-clause-short : goal.next_carried-requires-clause-short
next_carried-requires-clause-short g c κs within =
    let merge = c.args.merge.now in
    c.requires.short c.number-x.result (g.R.Recovery.meaning c.index-objects-x.result)
    (means g.R.Recovery.meaning c.args.objects.now c.args.transactions.now.rows c.args.those.now merge.heads.items merge.counts.items merge.events.items c.args.i c.index-count.result.now
    c.requires.so_far c.requires.inside c.requires.there c.places-places.result.now c.places-places.ensures c.index-count.ensures c.if-count-places.false
    c.index-places-count.result c.number-x.result c.index-places-count.is c.number-x.ensures.exact c.index-objects-x.result c.index-objects-x.is)

pub returns-then-next-i-clause-waits : goal.returns-then-next-i-clause-waits
returns-then-next-i-clause-waits g c =
    turn-inside c.args.those.now (g.R.Recovery.meaning c.index-objects-x.result).log _ c.in-Some.next c.in-Some.ensures.next

pub do_again-requires-clause-place : goal.do_again-requires-clause-place
do_again-requires-clause-place g c =
    let merge = c.args.merge.now in
    let short =
    c.requires.short c.number-x.result (g.R.Recovery.meaning c.index-objects-x.result)
    (means g.R.Recovery.meaning c.args.objects.now c.args.transactions.now.rows c.args.those.now merge.heads.items merge.counts.items merge.events.items c.args.i c.index-count.result.now
    c.requires.so_far c.requires.inside c.requires.there c.places-places.result.now c.places-places.ensures c.index-count.ensures c.if-count-places.false
    c.index-places-count.result c.number-x.result c.index-places-count.is c.number-x.ensures.exact c.index-objects-x.result c.index-objects-x.is) in
    let place = next-within c.args.those.now (g.R.Recovery.meaning c.index-objects-x.result).log _ c.in-Some.next c.in-Some.ensures.next in
    omega (arith, short, place)

pub returns-clause-so_far : goal.returns-clause-so_far
returns-clause-so_far g c =
    let merge = c.args.merge.now in
    looked g.R.Recovery.meaning c.args.objects.now c.args.transactions.now.rows c.args.those.now merge.heads.items merge.counts.items merge.events.items c.args.i c.index-count.result.now
    c.requires.so_far c.requires.inside c.requires.there c.places-places.result.now c.places-places.ensures c.index-count.ensures c.if-count-places.false
    c.index-places-count.result c.number-x.result c.index-places-count.is c.number-x.ensures.exact c.index-objects-x.result c.index-objects-x.is
    c.do_again.new.merge.heads.items c.do_again.new.merge.counts.items c.do_again.new.merge.events.items c.index.result.now c.in-Some.next c.index.ensures c.requires.ascend c.in-Some.ensures.next c.if-next-i.false
    (c.in_ok-do_again.ensures.events ∙ ap (λ w. merge.events.items ++ again_event w c.args.i c.number-x.result c.in-Some.next ∷ []) c.worker.ensures) c.in_ok-do_again.ensures.heads c.in_ok-do_again.ensures.counts
