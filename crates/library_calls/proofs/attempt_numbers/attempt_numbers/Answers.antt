use Rattle.std.proofs.Common.{◌≡◌, ◌≤◌, ◌∙◌, length, get_or, sym, arith}
use Rattle.std.proofs.lemmas.Bool.Decides.{nat_tests}
use Rattle.library_calls.specs.Codes.{number}
use Rattle.library_calls.proofs.Attempted.{only-one}
use Rattle.library_calls.proofs.NumberedAttempts.{one-by-number, still-by-numbers}
use Rattle.library_calls.proofs.attempt_numbers.attempt_numbers.Goals as goal
use Rattle.library_calls.proofs.attempt_numbers.attempt_numbers.Goals.{else-xs-eq1-via-then-xs-eq1+then-calls-eq1+then-not-is_empty+else-do_number, else-xs-eq1-via-then-xs-eq1+then-calls-eq1+else-not-is_empty, else-xs-eq1-via-then-xs-eq1+else-calls-eq1, else-xs-eq1-via-else-xs-eq1}

pub returns-then-do_number-clause-attempted : goal.returns-then-do_number-clause-attempted
returns-then-do_number-clause-attempted c =
    let xs = c.args.xs.now in
    let calls = c.args.calls.now in
    let one : length xs ≡ 1 = first_of (omega arith, grind (arith, nat_tests, c.if-xs-eq1.true)) in
    let its : length calls ≡ 1 = first_of (omega arith, grind (arith, nat_tests, c.if-calls-eq1.true)) in
    let some : 1 ≤ length c.args.room.now = grind (arith, nat_tests, c.is_empty.ensures, c.if-not-is_empty.true) in
    let fits : length xs ≤ length c.args.room.now = rw one some in
    one-by-number c.args.store.now c.do_number.new.store c.args.worker (get_or xs 0 0) (get_or calls 0 0) xs calls c.args.room.now c.do_number.new.room 0
    c.do_number.new.outcome (its ∙ sym one) fits (only-one xs 0 one) (only-one calls 0 its) (c.do_number.ensures.done c.if-do_number.true)

pub returns-clause-attempted : goal.returns-clause-attempted
returns-clause-attempted c =
    let same : (c.else-xs-eq1.store ≡ c.args.store.now) × (c.else-xs-eq1.room ≡ c.args.room.now) =
    elim c.else-xs-eq1.branch [
      | else-xs-eq1-via-then-xs-eq1+then-calls-eq1+then-not-is_empty+else-do_number w ↦ (w.store-is ∙ (w.do_number.ensures.none w.if-do_number.false).0, w.room-is ∙ (w.do_number.ensures.none w.if-do_number.false).1)
      | else-xs-eq1-via-then-xs-eq1+then-calls-eq1+else-not-is_empty w ↦ (w.store-is, w.room-is)
      | else-xs-eq1-via-then-xs-eq1+else-calls-eq1 w ↦ (w.store-is, w.room-is)
      | else-xs-eq1-via-else-xs-eq1 w ↦ (w.store-is, w.room-is)
    ] in
    still-by-numbers c.args.store.now c.else-xs-eq1.store c.attempt_each.new.store c.args.worker c.args.xs.now c.args.calls.now c.args.room.now c.else-xs-eq1.room c.attempt_each.new.room
    (number c.attempt_each.result) c.attempt_each.new.outcome same.0 same.1 c.attempt_each.ensures.attempted
