-- The first histories have their audits, and the types begin where they end.
use Rattle.std.proofs.Common.{◌≡◌, map, take}
use Rattle.declared_types.specs.Declarations.{table_of}
use Rattle.history_audit.specs.Epochs.{AreAudits, tables_after, told_epoch}
use Rattle.history_audit.proofs.in_turn.audit_each.Given as goal

abbrev pub invariant-loop-epoch : goal.invariant-loop-epoch
invariant-loop-epoch l = record {
  audits : AreAudits (map table_of l.fn.types.items) (take l.epoch (map told_epoch l.histories)) l.audits.items;
  tables : map table_of l.types.items ≡ tables_after (map table_of l.fn.types.items) l.audits.items;
}
