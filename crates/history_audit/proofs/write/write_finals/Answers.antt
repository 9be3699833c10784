use Rattle.std.proofs.Common.{refl}
use Rattle.std.specs.List.{enumerate_from}
use Rattle.outputs.proofs.Turns.{Puts-append, Puts-exit_at}
use Rattle.history_audit.specs.Text.{serial_line}
use Rattle.history_audit.proofs.PlacedTexts.{is_placed, text-at, texts-more, texts-all}
use Rattle.history_audit.proofs.write.write_finals.Goals as goal

pub returns-in_err-write_serial : goal.returns-in_err-write_serial
returns-in_err-write_serial g c =
    let finals = c.args.finals.now in
    let inside = c.loop-x-test.true in
    let stop = text-at serial_line finals c.loop-x.x 0 inside _ refl c.in_err-write_serial.ensures in
    Puts-exit_at c.items_in_turn.ensures serial_line (enumerate_from 0 finals) c.loop-x.x (0, 0) (is_placed serial_line finals c.loop-x.x 0 inside) c.loop-x.invariant stop
    c.from_residual.ensures.1

pub loop-x-preserved : goal.loop-x-preserved
loop-x-preserved g c =
    rw (texts-more serial_line c.args.finals.now c.loop-x.x 0 c.loop-x-test.true _ refl)
    (Puts-append c.texts_in_turn.ensures.joined c.loop-x.invariant c.in_ok-write_serial.ensures)

pub returns : goal.returns
returns g c = rw (texts-all c.args.finals.now c.loop-x.x c.loop-x-test.false) at c.loop-x.invariant
