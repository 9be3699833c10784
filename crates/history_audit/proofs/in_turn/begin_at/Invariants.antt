-- The first types begin at their states.
use Rattle.std.proofs.Common.{◌≡◌, map, take}
use Rattle.declared_types.specs.Declarations.{table_of}
use Rattle.history_audit.specs.Epochs.{tables_at}
use Rattle.history_audit.proofs.in_turn.begin_at.Given as goal

abbrev pub invariant-loop-x : goal.invariant-loop-x
invariant-loop-x l = map table_of l.types.items ≡ tables_at (map table_of l.fn.types.items) (take l.x l.states)
