-- What `check` says of what `make` and `tables` wrote.
use Rattle.std.specs.Prelude.{◌≡◌, ◌↔◌, ℕ, true, List}
use Rattle.command_files.specs.declared.status.Verdict.{Verdict}
use Rattle.command_files.specs.declared.status.Verdict.TheVariants.{Yes}
use Rattle.declared_text.specs.Canonical.{canonical_text, IsReadBack}
use Rattle.declared_text.specs.Declared.{Declares}
use Rattle.declared_types.specs.Declarations.{file_of, IsByTable}
use Rattle.declared_types.specs.declared.declared_type.Declaration.{Declaration}
use Rattle.declared_types.specs.declared.declared_type.Declaration.TheVariants.{Table, Number as Numbers}
use Rattle.declared_types.specs.declared.type_file.TypeFile.{TypeFile}
use Rattle.made_answers.specs.Answers.{HasClosedSet}
use Rattle.number_types.specs.Number.{IsNumber}
use Rattle.type_table.specs.Kind.{of_table}
use Rattle.type_table.specs.declared.kind.Kind.{Kind}
use Rattle.type_table.specs.declared.kind.Kind.TheVariants.{Escrow}
use Rattle.type_table.specs.declared.table_kind.TableKind.{TableKind}
use Rattle.type_text.specs.Canonical.{IsTypeFile}
use Rattle.type_commands.specs.Made.{IsMadeFor, IsMadeOf}
use Rattle.type_commands.specs.Request.{Wanted, account, counter, stock, set, semiqueue, queue, seats, number}
use Rattle.type_commands.specs.Verdict.{SaysOf, yes_line}

-- what is known of the parts of each declaration
abbrev pub IsKnownFile : Declaration → Type 0
IsKnownFile (Table file) = IsTypeFile file
IsKnownFile (Numbers v) = IsNumber v

-- the second is read from the text that was written of the first, which declares the first too
pub record IsReadFrom (made back : Declaration) : Type 0 where
  pub made_known : IsKnownFile made
  pub written : IsReadBack made
  pub back_known : IsKnownFile back
  pub read : Declares (canonical_text made) back

-- the kinds for which `check` says yes of what is asked for
abbrev pub IsFor : Wanted → Kind → Type 0
IsFor (account cap amounts) kind = Unit {0}
IsFor (counter cap amounts) kind = Unit {0}
IsFor (stock cap amounts) kind = Unit {0}
IsFor (set elements) kind = IsByTable kind
IsFor (semiqueue elements capacity) kind = IsByTable kind
IsFor (queue elements capacity) kind = IsByTable kind
IsFor (seats count) kind = IsByTable kind
IsFor (number max amounts) kind = kind ≡ Escrow

-- its answer is a yes, with this line
pub record IsSaidStrongly (verdict : Verdict) (line : List ℕ) : Type 0 where
  pub yes : verdict ≡ Yes
  pub strong : line ≡ yes_line true

-- it says `yes strong` of what is read from what `make` wrote
abbrev pub SaysYesOfMade : Type 0
SaysYesOfMade =
    (wanted : Wanted) (made back : Declaration) (kind : Kind) (verdict : Verdict) (line : List ℕ) → IsMadeFor wanted made → IsFor wanted kind
    → IsReadFrom made back → SaysOf kind (file_of back) verdict line → IsSaidStrongly verdict line

-- and yes of what is read from what `tables` wrote, exactly where the set is closed and holds the initial state
abbrev pub SaysYesOfTables : Type 0
SaysYesOfTables =
    (given file : TypeFile) (back : Declaration) (kind : TableKind) (verdict : Verdict) (line : List ℕ) → IsMadeOf given file
    → IsReadFrom (Table file) back → SaysOf (of_table kind) (file_of back) verdict line → (verdict ≡ Yes) ↔ HasClosedSet given
