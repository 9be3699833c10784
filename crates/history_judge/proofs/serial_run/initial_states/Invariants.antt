-- The states of the first objects are the initial ones.
use Rattle.std.proofs.Common.{◌≡◌, ◌<◌, map, take}
use Rattle.std.specs.List.{AllByRecursion}
use Rattle.declared_types.specs.Declarations.{table_of}
use Rattle.history_judge.proofs.serial_run.initial_states.Given as goal

abbrev pub invariant-loop-declared : goal.invariant-loop-declared
invariant-loop-declared l = record {
  initial : l.states.items ≡ map (λ t. (table_of t.now).initial) (take l.declared-index l.types);
  inside : AllByRecursion (λ t. (table_of t.now).initial < (table_of t.now).states) (take l.declared-index l.types);
}
