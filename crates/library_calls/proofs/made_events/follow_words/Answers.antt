use Rattle.std.proofs.Common.{refl}
use Rattle.library_calls.specs.Histories.{none}
use Rattle.library_calls.proofs.Followed.{one_more, stopped}
use Rattle.library_calls.proofs.made_events.follow_words.Goals as goal

pub loop-at-init : goal.loop-at-init
loop-at-init c = none

pub returns-in-Err : goal.returns-in-Err
returns-in-Err c =
    stopped c.args.store.now c.loop-at.store c.follow_one.new.store c.args.events.now c.loop-at.at _ _ c.loop-at.invariant c.loop-at-test.true refl c.in-Err.code c.in-Err.ensures

pub loop-at-preserved : goal.loop-at-preserved
loop-at-preserved c =
    one_more c.args.store.now c.loop-at.store c.follow_one.new.store c.args.events.now c.loop-at.at _ _ c.loop-at.invariant c.loop-at-test.true refl c.in_default.ensures
