-- What a torn write is supposed to leave.
use Rattle.std.specs.Prelude.{Bool, true, false}
use Rattle.database_files.specs.declared.torn_writes.TornWrites.{TornWrites}
use Rattle.database_files.specs.declared.torn_writes.TornWrites.TheVariants.{AnyBytes, OldOrNew}

-- each byte is the old one or the one that was written
abbrev pub is_old_or_new : TornWrites → Bool
is_old_or_new AnyBytes = false
is_old_or_new OldOrNew = true
