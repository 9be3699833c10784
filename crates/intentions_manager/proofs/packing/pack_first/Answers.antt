use Rattle.std.proofs.Common.{◌<◌, length, rules, arith, ap, ◌∙◌, ◌≡◌, false}
use mir.Val.{bool_byte}
use Rattle.type_table.proofs.Elements.{each_there}
use Rattle.object_trait.specs.Meaning.{is_open_of}
use Rattle.intentions_manager.proofs.Cutting.{cut-next}
use Rattle.intentions_manager.proofs.packing.pack_first.Goals as goal

pub stays-stays-requires : goal.stays-stays-requires
stays-stays-requires c =
    let h = c.loop-i.invariant in
    let long = h.long in
    let within : c.loop-i.i < length c.loop-i.log = search rules in
    each_there (λ e. e.done ≡ false) c.args.log.now c.loop-i.log c.loop-i.i c.index-log-i.result c.requires.open h.rest (omega (arith, within, long)) c.index-log-i.is

pub column-requires : goal.column-requires
column-requires c =
    let h = c.loop-i.invariant in
    let long = h.long in
    let within : c.loop-i.i < length c.loop-i.log = search rules in
    each_there (λ e. e.op < 64) c.args.log.now c.loop-i.log c.loop-i.i c.index-log-i.result c.requires.few h.rest (omega (arith, within, long)) c.index-log-i.is

pub overflow_shl-word : goal.overflow_shl-word
overflow_shl-word c =
    let h = c.loop-i.invariant in
    let long = h.long in
    let within : c.loop-i.i < length c.loop-i.log = search rules in
    let low = each_there (λ e. e.op < 64) c.args.log.now c.loop-i.log c.loop-i.i c.index-log-i.result c.requires.few h.rest (omega (arith, within, long)) c.index-log-i.is in
    let is = c.column.ensures in
    omega (arith, low, is)

pub loop-i-preserved : goal.loop-i-preserved
loop-i-preserved c =
    let h = c.loop-i.invariant in
    let long = h.long in
    let within : c.loop-i.i < length c.loop-i.log = search rules in
    let low = each_there (λ e. e.op < 64) c.args.log.now c.loop-i.log c.loop-i.i c.index-log-i.result c.requires.few h.rest (omega (arith, within, long)) c.index-log-i.is in
    let is = c.column.ensures in
    rw c.saturating_sub-left.ensures
    (cut-next (is_open_of c.args.t) c.args.first c.args.log.now c.loop-i.log c.loop-i.left c.loop-i.count c.loop-i.word c.loop-i.i c.index-log-i.result h within c.index-log-i.is
    c.column.result c.from-count.result c.from.result c.from-in-loop-i.result c.stays-stays.result is (omega (arith, low, is)) c.stays-stays.ensures c.from-count.ensures c.from.ensures
    (c.from-in-loop-i.ensures ∙ ap bool_byte c.is_of.ensures))

pub is_of-requires : goal.is_of-requires
is_of-requires c =
    let h = c.loop-i.invariant in
    let long = h.long in
    let within : c.loop-i.i < length c.loop-i.log = search rules in
    each_there (λ e. e.done ≡ false) c.args.log.now c.loop-i.log c.loop-i.i c.index-log-i.result c.requires.open h.rest (omega (arith, within, long)) c.index-log-i.is
