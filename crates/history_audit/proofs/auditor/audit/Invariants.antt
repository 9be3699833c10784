-- The events so far were taken.
use Rattle.std.proofs.Common.{map, take}
use Rattle.history_audit.specs.Auditor.{IsAuditing}
use Rattle.declared_types.specs.Declarations.{table_of}
use Rattle.history_audit.proofs.auditor.audit.Given as goal

abbrev pub invariant-loop-at : goal.invariant-loop-at
invariant-loop-at l = IsAuditing (map (λ t. table_of t.now) l.types) (take l.at l.events) l.auditor
