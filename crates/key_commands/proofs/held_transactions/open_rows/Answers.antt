use Rattle.std.proofs.Common.{◌∙◌, false, length, ap, sym, arith}
use Rattle.std.specs.List.{slice_index_or}
use Rattle.event_text.specs.EventText.{events_of_kinds}
use Rattle.key_commands.proofs.Objects.{all_so_far, clones_empty, more_so_far, none_so_far}
use Rattle.key_commands.proofs.held_transactions.open_rows.Goals as goal

pub loop-kind-init : goal.loop-kind-init
loop-kind-init c = record {
  count = omega (arith, c.in_ok-rows.rows.ok, c.in_ok-marks.marks.ok, c.in_ok-rows.ensures.len, c.len.ensures);
  are = none_so_far (events_of_kinds c.args.happened.now) c.in_ok-rows.rows.items (clones_empty _ _ c.new.result c.in_ok-rows.rows.items c.new.ensures.items c.in_ok-rows.ensures.items);
}

pub note-requires : goal.note-requires
note-requires c = c.loop-kind.invariant.count ∙ ap length (sym c.deref.ensures.value)

pub loop-kind-preserved : goal.loop-kind-preserved
loop-kind-preserved c = record {
  count = c.in_ok-note.ensures.count ∙ c.loop-kind.invariant.count;
  are = more_so_far c.args.happened.now _ _ _ c.loop-kind.kind-index c.kind-item.result c.loop-kind-test.true c.kind-item.is
      (λ t. ap (λ ms. slice_index_or ms t false) c.deref.ensures.value ∙ c.in_ok-marks.ensures t) c.loop-kind.invariant.are c.in_ok-note.ensures.objects;
}

pub returns : goal.returns
returns c = all_so_far c.args.happened.now _ c.loop-kind.kind-index c.loop-kind-test.false c.loop-kind.invariant.are
