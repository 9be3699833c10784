use Rattle.object_trait.specs.Meaning.{is_open_of}
use Rattle.intentions_manager.proofs.Cutting.{IsCut}
use Rattle.intentions_manager.proofs.packing.pack_others.Given as goal

abbrev pub invariant-loop-i : goal.invariant-loop-i
invariant-loop-i l = IsCut (is_open_of l.t) 0 l.initial.log l.log 0 l.count l.word l.i
