use Rattle.std.proofs.Common.{Result, subst, sym}
use Rattle.store.specs.declared.event_replay.Stray.{Stray}
use Rattle.store.specs.Follows.{Follows}
use Rattle.store.proofs.FollowedOps.{called-follows}
use Rattle.store.proofs.event_replay.follow_call.Goals as goal

pub returns : goal.returns
returns g c =
    let its = c.call_if.ensures in
    let Become : Result (Unit {0}) Stray → Type 0 = λ r. Follows c.args.store.now c.args.event.now r c.call_if.new.self in
    subst Become (sym c.made_or_stray.ensures)
    (called-follows c.args.store.now c.call_if.new.self c.args.event.now c.args.t c.args.x c.args.c c.args.answer c.requires.by c.requires.told c.call_if.result its.named its.err its.step)
