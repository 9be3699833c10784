use Rattle.std.proofs.Common.{[], ◌∷◌, ◌++◌, map}
use Rattle.outputs.proofs.Turns.{Puts-append, Puts-exit}
use Rattle.line_text.specs.Spelling.{spaced, text_of}
use Rattle.number_text.specs.Canonical.{words_of}
use Rattle.number_text.specs.declared.number_line.NumberLine.TheVariants.{Call, End}
use Rattle.number_text.proofs.Writing.{text-parts}
use Rattle.number_text.proofs.write.write_number.Goals as goal

pub returns-in_err-write_head-clause-writes : goal.returns-in_err-write_head-clause-writes
returns-in_err-write_head-clause-writes g c =
    let v = c.args.file.now in
    let behind = text_of words_of (map Call v.calls) ++ (spaced (words_of End) ++ 10 ∷ []) in
    rw (← text-parts v) (Puts-exit c.texts_in_turn.ensures.stopped behind c.in_err-write_head.ensures.writes c.from_residual.ensures.1)

pub returns-in_err-write_calls-clause-writes : goal.returns-in_err-write_calls-clause-writes
returns-in_err-write_calls-clause-writes g c =
    let v = c.args.file.now in
    let calls = rw c.calls.ensures.exact at c.in_err-write_calls.ensures in
    rw (← text-parts v) (Puts-append c.texts_in_turn.ensures.joined c.in_ok-write_head.ensures.writes (Puts-exit c.texts_in_turn.ensures.stopped (spaced (words_of End) ++ 10 ∷ []) calls c.from_residual-in_err-write_calls.ensures.1))

pub returns-clause-writes : goal.returns-clause-writes
returns-clause-writes g c =
    let v = c.args.file.now in
    let calls = rw c.calls.ensures.exact at c.in_ok-write_calls.ensures in
    rw (← text-parts v) (Puts-append c.texts_in_turn.ensures.joined c.in_ok-write_head.ensures.writes (Puts-append c.texts_in_turn.ensures.joined calls c.put_line.ensures))
