use Rattle.std.proofs.Common.{◌≤◌, length, arith}
use Rattle.std.proofs.lemmas.List.{take_all}
use Rattle.outputs.proofs.Turns.{Puts-exit_at}
use Rattle.number_text.proofs.Writing.{call_text, calls_text}
use Rattle.number_text.proofs.write.write_calls.Goals as goal

pub returns-in_err-write_call : goal.returns-in_err-write_call
returns-in_err-write_call g c =
    rw (calls_text c.args.calls.now)
    (Puts-exit_at c.items_in_turn.ensures call_text c.args.calls.now c.loop-listed.listed-index _ c.loop-listed-test.true c.loop-listed.invariant c.in_err-write_call.ensures c.from_residual.ensures.1)

pub returns : goal.returns
returns g c =
    let all : length c.args.calls.now ≤ c.loop-listed.listed-index = omega arith in
    rw (calls_text c.args.calls.now) (rw (take_all c.loop-listed.listed-index c.args.calls.now all) at c.loop-listed.invariant)
