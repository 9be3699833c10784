use Rattle.std.proofs.Common.{sym, ◌∙◌}
use Rattle.declared_types.specs.Declarations.{table_of}
use Rattle.object_calls.proofs.Held.{found_by_name}
use Rattle.object_calls.proofs.call_table.CallTable.by_name.Goals as goal

pub returns-in-Some-clause-named : goal.returns-in-Some-clause-named
returns-in-Some-clause-named c =
    sym (found_by_name (table_of c.args.declared.now) c.args.self.now c.requires c.args.name.now c.in-Some.call (sym c.held_by_name.ensures ∙ c.in-Some.is)).0

pub returns-in-Some-clause-call : goal.returns-in-Some-clause-call
returns-in-Some-clause-call c =
    (found_by_name (table_of c.args.declared.now) c.args.self.now c.requires c.args.name.now c.in-Some.call (sym c.held_by_name.ensures ∙ c.in-Some.is)).1
