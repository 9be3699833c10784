use Rattle.std.proofs.Common.{Ok, take}
use Rattle.std.specs.List.{flat_map}
use Rattle.outputs.specs.Out.{Puts}
use Rattle.std.specs.Prelude.{[], if◌then◌else◌}
use Rattle.need_text.specs.Text.{is_plain, pair_text}
use Rattle.need_text.proofs.write.write_row_notes.Given as goal

abbrev pub invariant-loop-pair : goal.invariant-loop-pair
invariant-loop-pair g l = Puts (g.W.Out.taken l.fn.out) (g.W.Out.taken l.out) (g.W.Out.fault l.out) (flat_map (λ e. if is_plain e then [] else pair_text l.kind l.file l.led e) (take l.pair-index l.pairs)) (Ok tt)
