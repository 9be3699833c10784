use Rattle.std.proofs.Common.{◌≡◌, ◌∙◌, arith, replicate, true, List}
use Rattle.std.specs.Prelude.{Bool, IfOk, Result, Ok, Err}
use Rattle.type_table.specs.Table.{Table}
use Rattle.declared_types.specs.declared.type_file.TypeFile.{TypeFile}
use Rattle.table_maker.specs.Made.{Family, IsFileOfFamily, IsMadeFile, IsTableOfFamily}
use Rattle.table_maker.specs.declared.make_error.MakeError.{MakeError}
use Rattle.table_maker.proofs.Entries.{some_state}
use Rattle.table_maker.proofs.family.make_file.Goals as goal

-- a made file with the family's table and the set of all states is the family's
file_of : (f : Family) (T : Table) (set : List Bool) (made : Result TypeFile MakeError) → IsTableOfFamily f T → set ≡ replicate f.states true
    → IfOk made (λ file. file.table ≡ T) → IfOk made (λ file. file.reach ≡ set) → IfOk made IsMadeFile → IfOk made (IsFileOfFamily f)
file_of f T set (Ok file) is_table all table reach is_made = record { table = rw table is_table; reach = reach ∙ all; made = is_made }
file_of f T set (Err error) is_table all table reach is_made = tt

pub make_tables-requires-clause-some : goal.make_tables-requires-clause-some
make_tables-requires-clause-some g c = rw c.all.ensures (some_state c.args.states (omega (arith, c.requires.states, c.requires.family.some_states)))

pub returns-clause-file : goal.returns-clause-file
returns-clause-file g c = file_of (g.F.FamilyRules.family c.args.rules.now) c.in_ok-table.table c.all.result c.make_tables.result c.in_ok-table.ensures (rw (← c.requires.states) c.all.ensures) c.make_tables.ensures.table c.make_tables.ensures.set c.make_tables.ensures.made
