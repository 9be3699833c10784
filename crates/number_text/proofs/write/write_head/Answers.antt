use Rattle.std.proofs.Common.{[], ◌∷◌, append-nil}
use Rattle.outputs.proofs.Turns.{Puts-append, Puts-exit}
use Rattle.line_text.specs.Spelling.{text_of}
use Rattle.number_text.specs.Canonical.{words_of}
use Rattle.number_text.specs.declared.number_line.NumberLine.TheVariants.{Max, Initial}
use Rattle.number_text.proofs.write.write_head.Goals as goal

pub returns-in_err-put_line-clause-writes : goal.returns-in_err-put_line-clause-writes
returns-in_err-put_line-clause-writes g c =
    let v = c.args.file.now in
    let first = rw (c.as_bytes.ensures.exact, c.name.ensures) at c.in_err-put_line.ensures in
    Puts-exit c.texts_in_turn.ensures.stopped (text_of words_of (Max v.max ∷ Initial v.initial ∷ [])) first c.from_residual.ensures.1

pub returns-in_err-put_numbers-clause-writes : goal.returns-in_err-put_numbers-clause-writes
returns-in_err-put_numbers-clause-writes g c =
    let v = c.args.file.now in
    let first = rw (c.as_bytes.ensures.exact, c.name.ensures) at c.in_ok-put_line.ensures in
    let second = rw c.max.ensures at c.in_err-put_numbers.ensures in
    Puts-append c.texts_in_turn.ensures.joined first (Puts-exit c.texts_in_turn.ensures.stopped (text_of words_of (Initial v.initial ∷ [])) second c.from_residual-in_err-put_numbers.ensures.1)

pub returns-clause-writes : goal.returns-clause-writes
returns-clause-writes g c =
    let first = rw (c.as_bytes.ensures.exact, c.name.ensures) at c.in_ok-put_line.ensures in
    let second = rw c.max.ensures at c.in_ok-put_numbers.ensures in
    let third = rw c.initial.ensures at c.put_numbers-2.ensures in
    rw append-nil (Puts-append c.texts_in_turn.ensures.joined first (Puts-append c.texts_in_turn.ensures.joined second third))
