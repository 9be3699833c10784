-- The types so far are there, with their tables.
use Rattle.std.proofs.Common.{◌≡◌, ◌≤◌, length, map, take, vec_capacity, vec_len}
use Rattle.declared_types.specs.Declarations.{table_of as declared_table}
use Rattle.store_commands.specs.StoreAudit.{table_of_checked}
use Rattle.store_commands.proofs.store_audit.declared_of.Given as goal

abbrev pub invariant-loop-checked : goal.invariant-loop-checked
invariant-loop-checked l = record {
  room : length l.types ≤ vec_capacity l.declared;
  count : vec_len l.declared ≡ l.checked-index;
  are : map (λ t. declared_table t.now) l.declared.items ≡ map table_of_checked (take l.checked-index l.types);
}
