use Rattle.std.proofs.Common.{refl, ap, ◌∙◌}
use Rattle.store_laws.specs.Words.{as_event}
use Rattle.store.proofs.FollowedOps.{unreplied-made, unreplied-not-made, unreplied-told}
use Rattle.store.proofs.event_replay.follow_unreplied.Goals as goal

pub follow_call-requires-clause-by : goal.follow_call-requires-clause-by
follow_call-requires-clause-by g c κs within =
    unreplied-made c.args.store.now c.args.event.now c.args.t c.args.x c.args.place c.args.holder c.call_unreplied.result c.requires.told c.call_unreplied.ensures.found c.in-Some.c c.in-Some.is c.in-Some.ensures.place

pub follow_call-requires-clause-told : goal.follow_call-requires-clause-told
follow_call-requires-clause-told g c κs within =
    ap (as_event c.args.t c.args.x c.in-Some.c) c.busy_with.ensures ∙ unreplied-told c.args.event.now.kind c.args.t c.args.x c.args.place c.in-Some.c c.args.holder c.requires.told c.in-Some.ensures.place

pub returns-in-None : goal.returns-in-None
returns-in-None g c = (
  unreplied-not-made c.args.store.now c.args.event.now c.args.t c.args.x c.args.place c.args.holder c.call_unreplied.result c.requires.told c.call_unreplied.ensures.found c.in-None.is,
  refl,
)
