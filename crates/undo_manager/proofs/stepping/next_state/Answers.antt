use Rattle.std.proofs.Common.{[]}
use Rattle.type_table.specs.Table.{next}
use Rattle.type_table.proofs.Legal.{from_state}
use Rattle.undo_manager.proofs.stepping.next_state.Goals as goal

pub next-requires-clause-state : goal.next-requires-clause-state
next-requires-clause-state c =
    let step = from_state c.args.table.now (next c.args.table.now c.args.s c.args.k) [] c.requires.legal in
    (c.steps_within.ensures c.args.table.now c.args.s c.args.k step.0 c.requires.table step.1).0

pub column-requires : goal.column-requires
column-requires c =
    let step = from_state c.args.table.now (next c.args.table.now c.args.s c.args.k) [] c.requires.legal in
    (c.steps_within.ensures c.args.table.now c.args.s c.args.k step.0 c.requires.table step.1).1
