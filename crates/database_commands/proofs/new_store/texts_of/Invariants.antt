-- The types so far have their texts.
use Rattle.std.proofs.Common.{◌≡◌, ◌≤◌, length, map, take, vec_capacity, vec_len}
use Rattle.declared_text.specs.Canonical.{canonical_text}
use Rattle.database_commands.proofs.new_store.texts_of.Given as goal

abbrev pub invariant-loop-declared : goal.invariant-loop-declared
invariant-loop-declared l = record {
  room : length l.types ≤ vec_capacity l.texts;
  count : vec_len l.texts ≡ l.declared-index;
  are : l.texts.items ≡ map canonical_text (take l.declared-index l.types);
}
