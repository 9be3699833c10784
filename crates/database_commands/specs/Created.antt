-- What `create DATABASE OBJECTS TYPE...` answers.
use Rattle.std.specs.Prelude.{◌≡◌, ◌≢◌, ◌⊎◌, ℕ, List, [], map, Option, IfSome, Result, Ok, Err}
use Rattle.sqlite_trees.specs.Tree.{Trees}
use Rattle.table_checker.specs.Checked.{Checked}
use Rattle.declared_types.specs.declared.declared_type.Declaration.{Declaration}
use Rattle.declared_text.specs.Canonical.{canonical_text}
use Rattle.store_text.specs.declared.line.ObjectLine.{ObjectLine}
use Rattle.history_text.specs.declared.history_file.HistoryFile.{HistoryFile}
use Rattle.object_types.specs.Types.{AreTypesOf, HasAcceptedType, IsFirstWith, value_of}
use Rattle.object_types.specs.declared.object_fault.ObjectFault.TheVariants.{NoType, NeedsEscrow, Refused as RefusedType}
use Rattle.journal.specs.Contents.{contents_of}
use Rattle.durable_store.specs.Created.{IsNewFile}
use Rattle.command_files.specs.Answers.{Answers, IsEarlyFault}
use Rattle.command_files.specs.declared.fault.Fault.{Fault}
use Rattle.command_files.specs.declared.status.Verdict.TheVariants.{Yes, No}
use Rattle.store_files.specs.Histories.{DescribesHistory, IsFaultyHistory}
use Rattle.store_files.specs.ObjectTypes.{HasFault, SaysRefused}
use Rattle.store_files.specs.declared.found_types.ObjectTypes.{ObjectTypes}
use Rattle.store_files.specs.declared.found_types.ObjectTypes.TheVariants.{Accepted, Refused}
use Rattle.store_files.specs.Types.{Held, AreDeclaredAt}

-- ---- the objects

-- a text describes objects: it is a history's without events
abbrev pub DescribesObjects : List ℕ → List ObjectLine → Type 0
DescribesObjects text objects = (history : HistoryFile) × DescribesHistory text history × (history.events.items ≡ []) × (history.objects.items ≡ objects)

-- it has a fault, or events
abbrev pub AreFaultyObjects : List ℕ → Type 0
AreFaultyObjects text = IsFaultyHistory text ⊎ ((history : HistoryFile) × DescribesHistory text history × (history.events.items ≢ []))

-- ---- the file

-- it is that of a new store, with some bytes that no other store has, of these objects and the canonical texts of these types
abbrev pub IsCreated : List Declaration → List ObjectLine → Trees → Type 0
IsCreated declared objects db = (id : List ℕ) × IsNewFile id (map canonical_text declared) objects (contents_of db)

-- ---- the command

-- the objects that were read and what is declared at the TYPE words, and the type of each object is accepted
pub record HaveAcceptedTypes (holds : Held) (path : List ℕ) (words : List (List ℕ)) (objects : List ObjectLine) (declared : List Declaration) : Type 0 where
  pub objects_held : IfSome (holds path) (λ text. DescribesObjects text objects)
  pub types_held : AreDeclaredAt holds words declared
  pub types : List Checked
  pub are : AreTypesOf declared objects types

-- yes with no text, and the file is there, if no wrong answer of a disk was taken as true; or no with the line of an object whose type isn't
-- accepted
abbrev pub CreatesStore : Type 0 → Option Trees → Held → List ℕ → List (List ℕ) → Answers
CreatesStore clean made holds path words Yes text =
    (objects : List ObjectLine) × (declared : List Declaration) × HaveAcceptedTypes holds path words objects declared × (text ≡ []) × (clean → IfSome made (IsCreated declared objects))
CreatesStore clean made holds path words No text =
    (objects : List ObjectLine) × IfSome (holds path) (λ text. DescribesObjects text objects) × SaysRefused holds words objects text

-- the path holds what it held, or the file of a new store as a whole
abbrev pub LeavesWhole : Type 0 → Option Trees → Option Trees → Type 0
LeavesWhole clean before after = (after ≡ before) ⊎ (clean → IfSome after (λ db. (declared : List Declaration) × (objects : List ObjectLine) × IsCreated declared objects db))

-- the objects have a fault; or they have none, and a type's text has one, or an object names no type, or a number without escrow
abbrev pub HasCreateFault : Held → List ℕ → List (List ℕ) → Type 0
HasCreateFault = HasFault DescribesObjects AreFaultyObjects (λ (objects : List ObjectLine). objects)

-- ---- inside the command

-- an object names no type, or a number without escrow, and the types of the objects before it are accepted
abbrev pub HasUntyped : List Declaration → List ObjectLine → Type 0
HasUntyped declared objects =
    ((x : ℕ) × (place : ℕ) × IsFirstWith HasAcceptedType declared objects (NoType x place)) ⊎ ((x : ℕ) × IsFirstWith HasAcceptedType declared objects (NeedsEscrow x))

-- the types of the objects among the declared ones, or the first that isn't accepted; or why there are none
abbrev pub FindsAmong : List Declaration → List ObjectLine → Result ObjectTypes Fault → Type 0
FindsAmong declared objects (Ok (Accepted types)) = AreTypesOf declared objects (map value_of types.items)
FindsAmong declared objects (Ok (Refused x refusal)) = IsFirstWith HasAcceptedType declared objects (RefusedType x refusal)
FindsAmong declared objects (Err fault) = IsEarlyFault (HasUntyped declared objects) fault

-- yes with no text, and the file is there
abbrev pub CreatesDatabase : Type 0 → Option Trees → List Declaration → List ObjectLine → Answers
CreatesDatabase clean made declared objects Yes text = (text ≡ []) × (clean → IfSome made (IsCreated declared objects))
CreatesDatabase clean made declared objects No text = ⊥
