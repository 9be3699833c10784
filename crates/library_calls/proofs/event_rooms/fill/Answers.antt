use Rattle.std.proofs.Common.{◌+◌, ◌<◌, length, Some, sym, ap, ◌∙◌, arith}
use Rattle.std.proofs.lemmas.Option.{slice_get-get_or}
use Rattle.library_calls.proofs.Rooms.{filled_none, filled_more, filled_all}
use Rattle.library_calls.proofs.event_rooms.fill.Goals as goal

pub loop-i-init : goal.loop-i-init
loop-i-init c = filled_none c.args.events.now c.args.from c.args.room.now

pub loop-i-preserved : goal.loop-i-preserved
loop-i-preserved c =
    let inside : c.args.from + c.loop-i.i < length c.args.events.now = grind (arith, c.min-reach.ensures, c.loop-i-test.true, c.if-from-events.false) in
    let in_room : c.loop-i.i < length c.args.room.now = grind (arith, c.min-reach.ensures, c.loop-i-test.true) in
    rw c.event_words.ensures (filled_more c.args.events.now c.args.from c.loop-i.i c.args.room.now c.loop-i.room c.index-events-from.result in_room c.loop-i.auto.room
    (slice_get-get_or c.args.events.now (c.args.from + c.loop-i.i) c.index-events-from.result inside ∙ ap Some (sym c.index-events-from.is)) c.loop-i.invariant)

pub returns-clause-filled : goal.returns-clause-filled
returns-clause-filled c = filled_all c.args.events.now c.args.from c.loop-i.i c.args.room.now c.loop-i.room c.loop-i.invariant (λ j above inside. grind (arith, c.min-reach.ensures, c.loop-i-test.false, above, inside))
