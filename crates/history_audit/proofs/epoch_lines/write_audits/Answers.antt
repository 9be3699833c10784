use Rattle.std.proofs.Common.{◌-◌, ◌++◌, length, slice_get}
use Rattle.std.specs.List.{flat_map, enumerate_from}
use Rattle.outputs.proofs.Turns.{Puts-append, Puts-exit}
use Rattle.history_audit.specs.Text.{serial_line}
use Rattle.history_audit.specs.EpochText.{finals_of, order_lines}
use Rattle.history_audit.proofs.epoch_lines.write_audits.Goals as goal

pub returns-in_err-put_line : goal.returns-in_err-put_line
returns-in_err-put_line g c =
    let audits = c.args.audits.now.items in
    let behind = flat_map order_lines (enumerate_from 0 audits) ++ flat_map serial_line (enumerate_from 0 (finals_of (slice_get audits (length audits - 1)))) in
    Puts-exit c.texts_in_turn.ensures.stopped behind c.in_err-put_line.ensures c.from_residual.ensures.1

pub returns-in_err-write_orders : goal.returns-in_err-write_orders
returns-in_err-write_orders g c =
    let audits = c.args.audits.now.items in
    let behind = flat_map serial_line (enumerate_from 0 (finals_of (slice_get audits (length audits - 1)))) in
    let stop = rw c.deref.ensures.value at c.in_err-write_orders.ensures in
    Puts-append c.texts_in_turn.ensures.joined c.in_ok-put_line.ensures (Puts-exit c.texts_in_turn.ensures.stopped behind stop c.from_residual-in_err-write_orders.ensures.1)

pub returns : goal.returns
returns g c =
    let orders = rw c.deref.ensures.value at c.in_ok-write_orders.ensures in
    let finals = rw c.deref-2.ensures.value at c.write_last.ensures in
    Puts-append c.texts_in_turn.ensures.joined c.in_ok-put_line.ensures (Puts-append c.texts_in_turn.ensures.joined orders finals)
