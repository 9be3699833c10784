use Rattle.std.proofs.Common.{◌++◌, map}
use Rattle.outputs.proofs.Turns.{Puts-append, Puts-exit}
use Rattle.line_text.specs.Spelling.{text_of}
use Rattle.store_text.specs.declared.line.Line.TheVariants.{End}
use Rattle.history_text.specs.Canonical.{words_of, object_line, event_line}
use Rattle.history_text.proofs.Writing.{line_text, text-parts}
use Rattle.history_text.proofs.write.write_history.Goals as goal

pub returns-in_err-write_size : goal.returns-in_err-write_size
returns-in_err-write_size g c =
    let behind = text_of words_of (map object_line c.args.objects.now) ++ (text_of words_of (map event_line c.args.events.now) ++ line_text End) in
    rw (← text-parts c.args.objects.now c.args.events.now) (Puts-exit c.texts_in_turn.ensures.stopped behind c.in_err-write_size.ensures c.from_residual.ensures.1)

pub returns-in_err-write_objects : goal.returns-in_err-write_objects
returns-in_err-write_objects g c =
    let behind = text_of words_of (map event_line c.args.events.now) ++ line_text End in
    rw (← text-parts c.args.objects.now c.args.events.now)
    (Puts-append c.texts_in_turn.ensures.joined c.in_ok-write_size.ensures (Puts-exit c.texts_in_turn.ensures.stopped behind c.in_err-write_objects.ensures c.from_residual-in_err-write_objects.ensures.1))

pub returns-in_err-write_events : goal.returns-in_err-write_events
returns-in_err-write_events g c =
    rw (← text-parts c.args.objects.now c.args.events.now)
    (Puts-append c.texts_in_turn.ensures.joined c.in_ok-write_size.ensures
    (Puts-append c.texts_in_turn.ensures.joined c.in_ok-write_objects.ensures (Puts-exit c.texts_in_turn.ensures.stopped (line_text End) c.in_err-write_events.ensures c.from_residual-in_err-write_events.ensures.1)))

pub returns : goal.returns
returns g c =
    rw (← text-parts c.args.objects.now c.args.events.now)
    (Puts-append c.texts_in_turn.ensures.joined c.in_ok-write_size.ensures
    (Puts-append c.texts_in_turn.ensures.joined c.in_ok-write_objects.ensures (Puts-append c.texts_in_turn.ensures.joined c.in_ok-write_events.ensures c.put_line.ensures)))
