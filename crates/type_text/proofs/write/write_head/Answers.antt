use Rattle.std.proofs.Common.{[], ◌∷◌, append-nil}
use Rattle.outputs.proofs.Turns.{Puts-append, Puts-exit}
use Rattle.line_text.specs.Spelling.{text_of}
use Rattle.type_text.specs.Canonical.{words_of}
use Rattle.type_text.specs.declared.type_line.TypeLine.TheVariants.{States, Initial}
use Rattle.type_text.proofs.write.write_head.Goals as goal

pub returns-in_err-write_line-clause-writes : goal.returns-in_err-write_line-clause-writes
returns-in_err-write_line-clause-writes g c =
    let T = c.args.table.now in
    let first = rw c.name.ensures at c.in_err-write_line.ensures.writes in
    Puts-exit c.texts_in_turn.ensures.stopped (text_of words_of (States T.states ∷ Initial T.initial ∷ [])) first c.from_residual.ensures.1

pub returns-in_err-write_line-2-clause-writes : goal.returns-in_err-write_line-2-clause-writes
returns-in_err-write_line-2-clause-writes g c =
    let T = c.args.table.now in
    let first = rw c.name.ensures at c.in_ok-write_line.ensures.writes in
    let second = rw c.states.ensures.exact at c.in_err-write_line-2.ensures.writes in
    Puts-append c.texts_in_turn.ensures.joined first (Puts-exit c.texts_in_turn.ensures.stopped (text_of words_of (Initial T.initial ∷ [])) second c.from_residual-in_err-write_line-2.ensures.1)

pub returns-clause-writes : goal.returns-clause-writes
returns-clause-writes g c =
    let first = rw c.name.ensures at c.in_ok-write_line.ensures.writes in
    let second = rw c.states.ensures.exact at c.in_ok-write_line-2.ensures.writes in
    let third = rw c.initial.ensures.exact at c.write_line-3.ensures.writes in
    rw append-nil (Puts-append c.texts_in_turn.ensures.joined first (Puts-append c.texts_in_turn.ensures.joined second third))
