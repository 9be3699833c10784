use Rattle.std.proofs.Common.{◌≡◌, false, take}
use Rattle.type_table.specs.Op.{has_twin}
use Rattle.type_text.specs.TypeLines.{ops_of}
use Rattle.type_text.proofs.build.ops_of.Given as goal

-- the set has the operations of the lines so far, in their order
abbrev pub invariant-loop-line : goal.invariant-loop-line
invariant-loop-line l = (l.ops.keys ≡ ops_of (take l.line-index l.lines)) × (has_twin l.ops.keys ≡ false)
