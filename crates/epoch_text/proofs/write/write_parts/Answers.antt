use Rattle.std.proofs.Common.{◌++◌}
use Rattle.std.specs.Prelude.{codes}
use Rattle.outputs.proofs.Turns.{Puts-append, Puts-exit}
use Rattle.epoch_text.proofs.write.write_parts.Goals as goal

pub returns-in_err-write_objects : goal.returns-in_err-write_objects
returns-in_err-write_objects g c =
    Puts-append c.texts_in_turn.ensures.joined c.in_ok-write_size.ensures
    (Puts-exit c.texts_in_turn.ensures.stopped (c.args.lines.now ++ codes "end\n") c.in_err-write_objects.ensures c.from_residual-in_err-write_objects.ensures.1)

pub returns-in_err-put : goal.returns-in_err-put
returns-in_err-put g c =
    Puts-append c.texts_in_turn.ensures.joined c.in_ok-write_size.ensures
    (Puts-append c.texts_in_turn.ensures.joined c.in_ok-write_objects.ensures (Puts-exit c.texts_in_turn.ensures.stopped (codes "end\n") c.in_err-put.ensures c.from_residual-in_err-put.ensures.1))

pub returns : goal.returns
returns g c =
    Puts-append c.texts_in_turn.ensures.joined c.in_ok-write_size.ensures
    (Puts-append c.texts_in_turn.ensures.joined c.in_ok-write_objects.ensures (Puts-append c.texts_in_turn.ensures.joined c.in_ok-put.ensures c.put-2.ensures))
