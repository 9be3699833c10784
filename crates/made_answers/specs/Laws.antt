-- Statements of laws.
use Rattle.std.specs.Prelude.{◌≡◌, ◌↔◌, ℕ, ◌<◌, ◌≤◌, List, Some}
use Rattle.type_table.specs.Commute.{Covers, CoversStrongly}
use Rattle.type_table.specs.ConflictTable.{conflicts}
use Rattle.type_table.specs.Kind.{of_table}
use Rattle.type_table.specs.Run.{Looks}
use Rattle.type_table.specs.StateSet.{has}
use Rattle.type_table.specs.Table.{Table}
use Rattle.type_table.specs.declared.kind.Kind.{Kind}
use Rattle.type_table.specs.declared.kind.Kind.TheVariants.{Undo, Intentions, Escrow}
use Rattle.type_table.specs.declared.table_kind.TableKind.{TableKind}
use Rattle.escrow_laws.specs.Amounts.{Amounts, IsNumeric}
use Rattle.number_types.specs.Calls.{most_number}
use Rattle.declared_types.specs.Declarations.{number_file}
use Rattle.declared_types.specs.TypeFile.{conflicts_of}
use Rattle.declared_types.specs.declared.type_file.TypeFile.{TypeFile}
use Rattle.table_checker.specs.Checked.{IsStrong}
use Rattle.exact_tables.specs.Exact.{IsExactFile}
use Rattle.table_maker.specs.Made.{Family, IsFileOfFamily, IsMadeFile}
use Rattle.table_families.specs.Account.{account}
use Rattle.table_families.specs.Amounts.{AreAmounts}
use Rattle.table_families.specs.Counter.{counter}
use Rattle.table_families.specs.Number.{amounts_number, AreNumberAmounts, NumberFits}
use Rattle.table_families.specs.Queue.{queue}
use Rattle.table_families.specs.Seats.{seats}
use Rattle.table_families.specs.Semiqueue.{semiqueue}
use Rattle.table_families.specs.Set.{set}
use Rattle.table_families.specs.Stock.{stock}
use Rattle.made_answers.specs.Answers.{HasClosedSet, IsAnsweredStrongly, IsAnsweredYes}

-- ---- files with an exact relation

-- the answer is a yes exactly where the conflict table covers, over all lists of operations
abbrev pub ExactAnswers : Type 0
ExactAnswers =
    (kind : TableKind) (file : TypeFile) → IsExactFile file
    → IsAnsweredYes (of_table kind) file ↔ Covers kind file.table (has file.reach) (conflicts (conflicts_of kind file))

-- and it is strong exactly where the table covers strongly
abbrev pub ExactStrength : Type 0
ExactStrength =
    (kind : TableKind) (file : TypeFile) → IsExactFile file
    → IsStrong (record { kind = of_table kind; file = file }) ↔ CoversStrongly kind file.table (has file.reach) (conflicts (conflicts_of kind file))

-- ---- made files

-- a made file whose set is closed and holds the initial state has an exact relation there
abbrev pub MadeIsExact : Type 0
MadeIsExact = (file : TypeFile) → IsMadeFile file → HasClosedSet file → IsExactFile file

-- the answer to a made file is a yes exactly where its set is closed and holds the initial state
abbrev pub MadeIsAccepted : Type 0
MadeIsAccepted = (kind : TableKind) (file : TypeFile) → IsMadeFile file → IsAnsweredYes (of_table kind) file ↔ HasClosedSet file

-- for deferred update it is strong then
abbrev pub MadeIsStrong : Type 0
MadeIsStrong = (file : TypeFile) → IsMadeFile file → HasClosedSet file → IsAnsweredStrongly Intentions file

-- ---- families

-- the set of a family's file is closed and holds the initial state
abbrev pub FamiliesHaveClosedSets : Type 0
FamiliesHaveClosedSets = (f : Family) (file : TypeFile) → IsFileOfFamily f file → HasClosedSet file

-- so the answer to it is a yes for each kind with a conflict table
abbrev pub FamiliesAreAccepted : Type 0
FamiliesAreAccepted = (f : Family) (kind : TableKind) (file : TypeFile) → IsFileOfFamily f file → IsAnsweredYes (of_table kind) file

-- ---- types of which no state looks like another

-- each state looks like itself alone
abbrev pub LooksAlone : Table → Type 0
LooksAlone T = (s t : ℕ) → s < T.states → t < T.states → Looks T (Some s) (Some t) → s ≡ t

-- a yes for update in place is strong there
abbrev pub AloneIsStrong : Type 0
AloneIsStrong = (file : TypeFile) → IsExactFile file → LooksAlone file.table → IsAnsweredYes Undo file → IsAnsweredStrongly Undo file

-- each file of a family is of such a type
abbrev pub HasLoneStates : Family → Type 0
HasLoneStates f = (file : TypeFile) → IsFileOfFamily f file → LooksAlone file.table

abbrev pub SetsHaveLoneStates : Type 0
SetsHaveLoneStates = (elements : List (List ℕ)) → HasLoneStates (set elements)

abbrev pub SeatsHaveLoneStates : Type 0
SeatsHaveLoneStates = (count : ℕ) → HasLoneStates (seats count)

abbrev pub QueuesHaveLoneStates : Type 0
QueuesHaveLoneStates = (elements : List (List ℕ)) (capacity : ℕ) → HasLoneStates (queue elements capacity)

abbrev pub SemiqueuesHaveLoneStates : Type 0
SemiqueuesHaveLoneStates = (elements : List (List ℕ)) (capacity : ℕ) → HasLoneStates (semiqueue elements capacity)

-- the answer to each file of a family is a strong yes for each kind with a conflict table
abbrev pub IsForTables : Family → Type 0
IsForTables f = (kind : TableKind) (file : TypeFile) → IsFileOfFamily f file → IsAnsweredStrongly (of_table kind) file

-- it is where no state looks like another
abbrev pub LoneStatesAreStrong : Type 0
LoneStatesAreStrong = (f : Family) → HasLoneStates f → IsForTables f

-- so it is for these families
pub record AreForTables (elements : List (List ℕ)) (number : ℕ) : Type 0 where
  pub sets : IsForTables (set elements)
  pub semiqueues : IsForTables (semiqueue elements number)
  pub queues : IsForTables (queue elements number)
  pub seats : IsForTables (seats number)

abbrev pub ElementsAreAccepted : Type 0
ElementsAreAccepted = (elements : List (List ℕ)) (number : ℕ) → AreForTables elements number

-- ---- types of numbers

-- a yes for update in place is strong where the type is numeric, since two operations lead to the same number in either order
abbrev pub NumericIsStrong : Type 0
NumericIsStrong = (file : TypeFile) (a : Amounts) → IsExactFile file → IsNumeric file.table a → IsAnsweredYes Undo file → IsAnsweredStrongly Undo file

-- the answer to each file of a family is a strong yes for each kind
abbrev pub IsForEachKind : Family → Type 0
IsForEachKind f = (kind : Kind) (file : TypeFile) → IsFileOfFamily f file → IsAnsweredStrongly kind file

-- the families of numbers
pub record AreForEachKind (cap : ℕ) (amounts : List ℕ) : Type 0 where
  pub accounts : IsForEachKind (account cap amounts)
  pub counters : IsForEachKind (counter cap amounts)
  pub stocks : IsForEachKind (stock cap amounts)

abbrev pub AmountsAreAccepted : Type 0
AmountsAreAccepted = (cap : ℕ) (amounts : List ℕ) → AreAmounts cap amounts → AreForEachKind cap amounts

-- the answer to the file of a made number is a strong yes for escrow
abbrev pub NumbersAreAccepted : Type 0
NumbersAreAccepted =
    (max : ℕ) (amounts : List ℕ) → max ≤ most_number → AreNumberAmounts max amounts → NumberFits amounts
    → IsAnsweredStrongly Escrow (number_file (amounts_number max amounts))
