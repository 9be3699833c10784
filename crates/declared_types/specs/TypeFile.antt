-- A type that is declared by a table: its parts.
use Rattle.std.specs.Prelude.{◌≡◌, ℕ, Bool, List}
use Rattle.std.specs.List.{list_all}
use Rattle.type_table.specs.Table.{table_at}
use Rattle.type_table.specs.declared.table_kind.TableKind.{TableKind}
use Rattle.type_table.specs.declared.table_kind.TableKind.TheVariants.{Undo, Intentions}
use Rattle.declared_types.specs.declared.type_file.TypeFile.{TypeFile}

-- the file of the type that begins at s
abbrev pub file_at : TypeFile → ℕ → TypeFile
file_at file s = record file { table = table_at file.table s }

-- the file's conflict table for a kind
abbrev pub conflicts_of : TableKind → TypeFile → List (List Bool)
conflicts_of Undo file = file.undo
conflicts_of Intentions file = file.intentions

-- a set is that of all states
abbrev pub is_whole : List Bool → Bool
is_whole members = list_all (λ member. member) members

-- two files with the same parts
pub record IsSameFile (a b : TypeFile) : Type 0 where
  pub table : a.table ≡ b.table
  pub reach : a.reach ≡ b.reach
  pub relation : a.relation ≡ b.relation
  pub undo : a.undo ≡ b.undo
  pub intentions : a.intentions ≡ b.intentions

-- two files with the same parts are one
abbrev pub PartsTellTheFile : Type 0
PartsTellTheFile = (a b : TypeFile) → IsSameFile a b → a ≡ b
