use Rattle.object_trait.specs.Meaning.{is_open_of}
use Rattle.escrow_manager.proofs.Passing.{IsKeeping}
use Rattle.escrow_manager.proofs.entries.keep_first.Given as goal

abbrev pub invariant-loop-i : goal.invariant-loop-i
invariant-loop-i l = IsKeeping (is_open_of l.t) l.n l.initial.log.items l.log.items l.kept l.i l.left
