use Rattle.std.proofs.lemmas.List.{take_all}
use Rattle.history_judge.proofs.Replayed.{initial-all}
use Rattle.declared_types.specs.Declarations.{table_of}
use Rattle.history_judge.proofs.serial_run.initial_states.Goals as goal

pub returns : goal.returns
returns c =
    let all = take_all c.loop-declared.declared-index c.args.types.now c.loop-declared-test.false in
    initial-all (λ t. table_of t.now) c.args.types.now c.loop-declared.states.items (rw all at c.loop-declared.invariant.initial) (rw all at c.loop-declared.invariant.inside)
