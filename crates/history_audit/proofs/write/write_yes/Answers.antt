use Rattle.std.proofs.Common.{◌++◌}
use Rattle.std.specs.List.{flat_map, enumerate_from}
use Rattle.outputs.proofs.Turns.{Puts-append, Puts-exit}
use Rattle.history_audit.specs.Text.{committed_line, serial_line}
use Rattle.history_audit.proofs.write.write_yes.Goals as goal

pub returns-in_err-put_line : goal.returns-in_err-put_line
returns-in_err-put_line g c =
    let behind = flat_map committed_line c.args.audit.now.order.items ++ flat_map serial_line (enumerate_from 0 c.args.audit.now.finals.items) in
    Puts-exit c.texts_in_turn.ensures.stopped behind c.in_err-put_line.ensures c.from_residual.ensures.1

pub returns-in_err-write_order : goal.returns-in_err-write_order
returns-in_err-write_order g c =
    let behind = flat_map serial_line (enumerate_from 0 c.args.audit.now.finals.items) in
    let stop = rw c.as_slice-order.ensures.value at c.in_err-write_order.ensures in
    Puts-append c.texts_in_turn.ensures.joined c.in_ok-put_line.ensures (Puts-exit c.texts_in_turn.ensures.stopped behind stop c.from_residual-in_err-write_order.ensures.1)

pub returns : goal.returns
returns g c =
    let order = rw c.as_slice-order.ensures.value at c.in_ok-write_order.ensures in
    let finals = rw c.as_slice-finals.ensures.value at c.write_finals.ensures in
    Puts-append c.texts_in_turn.ensures.joined c.in_ok-put_line.ensures (Puts-append c.texts_in_turn.ensures.joined order finals)
