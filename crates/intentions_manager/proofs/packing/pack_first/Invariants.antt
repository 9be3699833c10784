use Rattle.object_trait.specs.Meaning.{is_open_of}
use Rattle.intentions_manager.proofs.Cutting.{IsCut}
use Rattle.intentions_manager.proofs.packing.pack_first.Given as goal

abbrev pub invariant-loop-i : goal.invariant-loop-i
invariant-loop-i l = IsCut (is_open_of l.t) l.first l.initial.log l.log l.left l.count l.word l.i
