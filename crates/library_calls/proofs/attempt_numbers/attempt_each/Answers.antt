use Rattle.std.proofs.Common.{◌≡◌, ◌≤◌, length, refl, ap, arith}
use Rattle.std.proofs.lemmas.Bool.Decides.{nat_tests}
use Rattle.library_calls.specs.Codes.{number}
use Rattle.library_calls.proofs.NumberedAttempts.{begun-by-numbers, not-begun-by-numbers}
use Rattle.library_calls.proofs.attempt_numbers.attempt_each.Goals as goal

pub returns-in-Ok-clause-attempted : goal.returns-in-Ok-clause-attempted
returns-in-Ok-clause-attempted c =
    let same : length c.args.calls.now ≡ length c.args.xs.now = first_of (omega arith, grind (arith, nat_tests, c.if-calls-xs.false)) in
    let fits : length c.args.xs.now ≤ length c.args.room.now = first_of (omega arith, grind (arith, nat_tests, c.if-room-xs.false)) in
    begun-by-numbers c.args.store.now c.begin_attempt.new.store c.transact.new.store c.args.worker c.args.xs.now c.args.calls.now c.args.room.now c.transact.new.room same fits c.replays_join.ensures
    c.in-Ok.t c.transact.result c.made_words.result c.in-Ok.ensures.begun c.transact.ensures.ended c.transact.ensures.rest c.made_words.ensures

pub returns-in-Err-clause-attempted : goal.returns-in-Err-clause-attempted
returns-in-Err-clause-attempted c =
    let same : length c.args.calls.now ≡ length c.args.xs.now = first_of (omega arith, grind (arith, nat_tests, c.if-calls-xs.false)) in
    let fits : length c.args.xs.now ≤ length c.args.room.now = first_of (omega arith, grind (arith, nat_tests, c.if-room-xs.false)) in
    not-begun-by-numbers c.args.store.now c.args.store.now c.begin_attempt.new.store c.args.worker c.args.xs.now c.args.calls.now c.args.room.now c.args.room.now same fits
    c.in-Err.refusal (number c.code_of.result) c.args.outcome.now (ap number c.code_of.ensures) c.in-Err.ensures.refused.0 c.in-Err.ensures.refused.1 refl
