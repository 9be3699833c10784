use Rattle.std.proofs.Common.{◌≡◌, ◌<◌, length, arith}
use Rattle.library_calls.proofs.AttemptRooms.{left-behind}
use Rattle.library_calls.proofs.NumberedAttempts.{filled-more, stopped-there, filled-all}
use Rattle.library_calls.proofs.attempt_numbers.make_numbered.Goals as goal

pub returns-in-Err-clause-made : goal.returns-in-Err-clause-made
returns-in-Err-clause-made c =
    stopped-there c.args.store.now c.loop-at.store c.args.w c.args.t c.args.xs.now c.args.calls.now c.loop-at.room c.loop-at.at c.loop-at-test.true c.requires.as_many c.loop-at.invariant.made
    c.make_number.new.store c.in-Err.how c.in-Err.ensures

pub loop-at-preserved : goal.loop-at-preserved
loop-at-preserved c =
    let fits : c.loop-at.at < length c.loop-at.room = omega (arith, c.loop-at-test.true, c.requires.places) in
    record {
      made = filled-more c.args.store.now c.loop-at.store c.args.w c.args.t c.args.xs.now c.args.calls.now c.loop-at.room c.loop-at.at c.loop-at-test.true c.requires.as_many c.loop-at.invariant.made
          c.replays_join.ensures c.make_number.new.store c.in-Ok.k c.number_of.result c.number_of.ensures fits c.in-Ok.ensures;
      rest = left-behind c.loop-at.room c.args.room.now c.loop-at.at c.number_of.result c.loop-at.invariant.rest;
    }

pub returns-clause-made : goal.returns-clause-made
returns-clause-made c =
    let end : c.loop-at.at ≡ length c.args.xs.now = omega (arith, c.loop-at-test.false) in
    filled-all c.args.store.now c.loop-at.store c.args.w c.args.t c.args.xs.now c.args.calls.now c.loop-at.room c.loop-at.at c.requires.as_many end c.loop-at.invariant.made
