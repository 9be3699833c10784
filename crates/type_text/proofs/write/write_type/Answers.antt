use Rattle.std.proofs.Common.{[], ◌∷◌, ◌++◌, map}
use Rattle.std.specs.List.{flat_map}
use Rattle.outputs.proofs.Turns.{Puts-append, Puts-exit}
use Rattle.line_text.specs.Spelling.{spaced, text_of}
use Rattle.type_text.specs.Canonical.{words_of, lines_of_entries}
use Rattle.type_text.specs.declared.type_line.TypeLine.TheVariants.{Operation, End}
use Rattle.type_text.proofs.Writing.{all_sections, text-parts}
use Rattle.type_text.proofs.write.write_type.Goals as goal

pub returns-in_err-write_head-clause-writes : goal.returns-in_err-write_head-clause-writes
returns-in_err-write_head-clause-writes g c =
    let F = c.args.file.now in
    let behind = text_of words_of (map Operation F.table.ops) ++ (text_of words_of (flat_map (lines_of_entries F) all_sections) ++ (spaced (words_of End) ++ 10 ∷ [])) in
    rw (← text-parts F) (Puts-exit c.texts_in_turn.ensures.stopped behind c.in_err-write_head.ensures.writes c.from_residual.ensures.1)

pub returns-in_err-write_ops-clause-writes : goal.returns-in_err-write_ops-clause-writes
returns-in_err-write_ops-clause-writes g c =
    let F = c.args.file.now in
    let behind = text_of words_of (flat_map (lines_of_entries F) all_sections) ++ (spaced (words_of End) ++ 10 ∷ []) in
    let ops = rw c.ops.ensures at c.in_err-write_ops.ensures.writes in
    rw (← text-parts F) (Puts-append c.texts_in_turn.ensures.joined c.in_ok-write_head.ensures.writes (Puts-exit c.texts_in_turn.ensures.stopped behind ops c.from_residual-in_err-write_ops.ensures.1))

pub returns-in_err-write_sections-clause-writes : goal.returns-in_err-write_sections-clause-writes
returns-in_err-write_sections-clause-writes g c =
    let F = c.args.file.now in
    let ops = rw c.ops.ensures at c.in_ok-write_ops.ensures.writes in
    rw (← text-parts F) (Puts-append c.texts_in_turn.ensures.joined c.in_ok-write_head.ensures.writes (Puts-append c.texts_in_turn.ensures.joined ops
    (Puts-exit c.texts_in_turn.ensures.stopped (spaced (words_of End) ++ 10 ∷ []) c.in_err-write_sections.ensures c.from_residual-in_err-write_sections.ensures.1)))

pub returns-clause-writes : goal.returns-clause-writes
returns-clause-writes g c =
    let F = c.args.file.now in
    let ops = rw c.ops.ensures at c.in_ok-write_ops.ensures.writes in
    rw (← text-parts F) (Puts-append c.texts_in_turn.ensures.joined c.in_ok-write_head.ensures.writes (Puts-append c.texts_in_turn.ensures.joined ops (Puts-append c.texts_in_turn.ensures.joined c.in_ok-write_sections.ensures c.write_line.ensures.writes)))
