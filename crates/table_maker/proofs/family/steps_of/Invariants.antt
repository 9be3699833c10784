use Rattle.std.proofs.Common.{◌≡◌}
use Rattle.table_maker.specs.Made.{table_entries}
use Rattle.table_maker.proofs.family.steps_of.Given as goal

-- the entries so far are the family's
abbrev pub invariant-loop-place : goal.invariant-loop-place
invariant-loop-place g l = l.steps.items ≡ table_entries (g.F.FamilyRules.family l.rules) l.place
