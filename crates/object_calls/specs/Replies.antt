-- The reply of a call in a state, whoever holds what.
use Rattle.std.specs.Prelude.{ℕ, Bool, [], ◌&&◌, length, Option, is_some}
use Rattle.type_table.specs.Least.{first_below}
use Rattle.type_table.specs.Table.{Table, next, is_same_call}
use Rattle.type_table.specs.declared.kind.Kind.TheVariants.{Undo}
use Rattle.declared_types.specs.declared.type_file.TypeFile.{TypeFile}
use Rattle.object_trait.specs.Meaning.{Meaning}

-- operation k is of the call whose first operation is c, and legal in state s
abbrev pub is_reply_at : Table → ℕ → ℕ → ℕ → Bool
is_reply_at T s c k = is_same_call T k c && is_some (next T s k)

-- the first such operation, in table order
abbrev pub reply_at : Table → ℕ → ℕ → Option ℕ
reply_at T s c = first_below (length T.ops) (is_reply_at T s c)

-- an object of a type at state s, at which nobody is open
abbrev pub idle_at : TypeFile → ℕ → Meaning
idle_at file s = record { checked = record { kind = Undo; file = file }; base = s; log = [] }
