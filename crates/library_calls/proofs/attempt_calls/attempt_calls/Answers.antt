use Rattle.std.proofs.Common.{◌≡◌, ◌∙◌, length, get_or, arith}
use Rattle.std.proofs.lemmas.Bool.Decides.{nat_tests}
use Rattle.library_calls.specs.Codes.{number}
use Rattle.library_calls.proofs.Attempted.{of-word, only-one, still-attempted}
use Rattle.library_calls.proofs.attempt_calls.attempt_calls.Goals as goal
use Rattle.library_calls.proofs.attempt_calls.attempt_calls.Goals.{else-xs-eq1-via-then-xs-eq1+then-not-is_empty+then-is_word+else-do_name, else-xs-eq1-via-then-xs-eq1+then-not-is_empty+else-is_word, else-xs-eq1-via-then-xs-eq1+else-not-is_empty, else-xs-eq1-via-else-xs-eq1}

pub returns-then-do_name-clause-attempted : goal.returns-then-do_name-clause-attempted
returns-then-do_name-clause-attempted c =
    let xs = c.args.xs.now in
    let one : length xs ≡ 1 = first_of (omega arith, grind (arith, nat_tests, c.if-xs-eq1.true)) in
    of-word c.args.store.now c.do_name.new.store c.args.worker (get_or xs 0 0) xs c.args.names.now c.args.room.now c.do_name.new.room 0 c.do_name.new.outcome
    (only-one xs 0 one) (c.is_word.ensures c.if-is_word.true) (c.do_name.ensures.done c.if-do_name.true)

pub returns-clause-attempted : goal.returns-clause-attempted
returns-clause-attempted c =
    let same : (c.else-xs-eq1.store ≡ c.args.store.now) × (c.else-xs-eq1.room ≡ c.args.room.now) =
    elim c.else-xs-eq1.branch [
      | else-xs-eq1-via-then-xs-eq1+then-not-is_empty+then-is_word+else-do_name w ↦ (w.store-is ∙ (w.do_name.ensures.none w.if-do_name.false).0, w.room-is ∙ (w.do_name.ensures.none w.if-do_name.false).1)
      | else-xs-eq1-via-then-xs-eq1+then-not-is_empty+else-is_word w ↦ (w.store-is, w.room-is)
      | else-xs-eq1-via-then-xs-eq1+else-not-is_empty w ↦ (w.store-is, w.room-is)
      | else-xs-eq1-via-else-xs-eq1 w ↦ (w.store-is, w.room-is)
    ] in
    still-attempted c.args.store.now c.else-xs-eq1.store c.attempt_words.new.store c.args.worker c.args.xs.now c.args.names.now c.args.room.now c.else-xs-eq1.room c.attempt_words.new.room
    (number c.attempt_words.result) c.attempt_words.new.outcome same.0 same.1 c.attempt_words.ensures.attempted
