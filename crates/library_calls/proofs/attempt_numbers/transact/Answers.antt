use Rattle.std.proofs.Common.{◌≡◌, length, take, drop, sym, subst}
use Rattle.store_laws.specs.Stored.{objects}
use Rattle.attempts.specs.Made.{EndsCalls}
use Rattle.attempts.specs.Numbered.{named_calls}
use Rattle.library_calls.specs.NumberedAttempts.{made_count}
use Rattle.library_calls.proofs.attempt_numbers.transact.Goals as goal

pub returns-clause-ended : goal.returns-clause-ended
returns-clause-ended c =
    let s = c.args.store.now in
    let n = length c.args.xs.now in
    let filled = c.make_numbered-made.new.room in
    let calls = named_calls (objects s) c.args.xs.now c.args.calls.now in
    subst (λ r. EndsCalls s c.args.w c.args.t calls (take (made_count n r) filled) c.end_calls.result c.end_calls.new.store) (sym c.end_calls.ensures.same)
    (c.end_calls.ensures.ends s calls (take (made_count n c.make_numbered-made.result) filled) c.make_numbered-made.ensures.made)

pub returns-clause-rest : goal.returns-clause-rest
returns-clause-rest c =
    let n = length c.args.xs.now in
    subst (λ r. drop (made_count n r) c.make_numbered-made.new.room ≡ drop (made_count n r) c.args.room.now) (sym c.end_calls.ensures.same) c.make_numbered-made.ensures.rest
