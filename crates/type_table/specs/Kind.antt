-- Kinds of recovery.
use Rattle.std.specs.Prelude.{ℕ, List, Option, Some, None, codes, if◌then◌else◌}
use Rattle.std.specs.Str.{bytes_eq}
use Rattle.type_table.specs.declared.kind.Kind.{Kind}
use Rattle.type_table.specs.declared.kind.Kind.TheVariants.{Undo, Intentions, Escrow}
use Rattle.type_table.specs.declared.table_kind.TableKind.{TableKind}
use Rattle.type_table.specs.declared.table_kind.TableKind.TheVariants as tabled

-- the word of a kind in a text and on the command line
abbrev pub kind_word : Kind → List ℕ
kind_word Undo = codes "undo"
kind_word Intentions = codes "intentions"
kind_word Escrow = codes "escrow"

-- the kind of a word, where it is one's
abbrev pub kind_of : List ℕ → Option Kind
kind_of word =
    if bytes_eq word (kind_word Undo) then Some Undo
    else (if bytes_eq word (kind_word Intentions) then Some Intentions
    else (if bytes_eq word (kind_word Escrow) then Some Escrow else None))

-- ---- those that have a conflict table

abbrev pub of_table : TableKind → Kind
of_table tabled.Undo = Undo
of_table tabled.Intentions = Intentions

-- the same kind as one of them
abbrev pub table_kind : Kind → Option TableKind
table_kind Undo = Some tabled.Undo
table_kind Intentions = Some tabled.Intentions
table_kind Escrow = None

-- the word of one of them
abbrev pub table_kind_word : TableKind → List ℕ
table_kind_word kind = kind_word (of_table kind)

-- and the one of a word
abbrev pub table_kind_of : List ℕ → Option TableKind
table_kind_of word =
    if bytes_eq word (table_kind_word tabled.Undo) then Some tabled.Undo
    else (if bytes_eq word (table_kind_word tabled.Intentions) then Some tabled.Intentions else None)
