use Rattle.std.proofs.Common.{◌≡◌, take}
use Rattle.escrow_laws.specs.Marks.{mark_of}
use Rattle.object_trait.specs.Meaning.{own_of}
use Rattle.escrow_manager.specs.Numeric.{bounds_in, greatest}
use Rattle.escrow_manager.proofs.entries.mark_of.Given as goal

-- the mark of what t did so far
abbrev pub invariant-loop-entry : goal.invariant-loop-entry
invariant-loop-entry l = l.mark ≡ mark_of (greatest l.checked) (bounds_in l.checked) (own_of (take l.entry-index l.log.items) l.t)
