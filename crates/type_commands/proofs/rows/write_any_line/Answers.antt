use Rattle.outputs.proofs.Turns.{Puts-append, Puts-exit}
use Rattle.type_commands.proofs.rows.write_any_line.Goals as goal

pub returns-in_err-put : goal.returns-in_err-put
returns-in_err-put g c = Puts-exit c.texts_in_turn.ensures.stopped _ c.in_err-put.ensures c.from_residual.ensures.1

pub returns-in_err-write_word : goal.returns-in_err-write_word
returns-in_err-write_word g c =
    Puts-append c.texts_in_turn.ensures.joined c.in_ok-put.ensures (Puts-exit c.texts_in_turn.ensures.stopped _ c.in_err-write_word.ensures c.from_residual-in_err-write_word.ensures.1)

pub returns-in_err-write_any_words : goal.returns-in_err-write_any_words
returns-in_err-write_any_words g c =
    Puts-append c.texts_in_turn.ensures.joined c.in_ok-put.ensures
    (Puts-append c.texts_in_turn.ensures.joined c.in_ok-write_word.ensures
    (Puts-exit c.texts_in_turn.ensures.stopped _ c.in_err-write_any_words.ensures c.from_residual-in_err-write_any_words.ensures.1))

pub returns : goal.returns
returns g c =
    Puts-append c.texts_in_turn.ensures.joined c.in_ok-put.ensures
    (Puts-append c.texts_in_turn.ensures.joined c.in_ok-write_word.ensures
    (Puts-append c.texts_in_turn.ensures.joined c.in_ok-write_any_words.ensures c.put-2.ensures))
