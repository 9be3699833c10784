-- What `extend DATABASE OBJECTS TYPE...` answers.
use Rattle.std.specs.Prelude.{◌≡◌, ℕ, ◌+◌, List, [], ◌++◌, length, map, Option, IfSome}
use Rattle.sqlite_trees.specs.Tree.{Trees}
use Rattle.table_checker.specs.declared.refusal.CheckRefusal.{CheckRefusal}
use Rattle.declared_types.specs.declared.declared_type.Declaration.{Declaration}
use Rattle.declared_text.specs.Canonical.{canonical_text}
use Rattle.store_laws.specs.Stored.{Stored}
use Rattle.store.specs.Ends.{closing_but}
use Rattle.event_text.specs.EventText.{events_of_kinds}
use Rattle.journal.specs.declared.prepared_row.Prepared.{Prepared}
use Rattle.durable_store.specs.Held.{prepared_numbers}
use Rattle.store_text.specs.declared.line.ObjectLine.{ObjectLine}
use Rattle.journal.specs.Contents.{Contents, contents_of}
use Rattle.durable_store.specs.Durable.{prepared_in}
use Rattle.durable_store.specs.Growth.{Grows}
use Rattle.durable_store.specs.Recovered.{recovered}
use Rattle.durable_store.specs.Types.{HasTypes}
use Rattle.command_files.specs.Answers.{Answers}
use Rattle.command_files.specs.declared.status.Verdict.TheVariants.{Yes, No}
use Rattle.store_files.specs.Lines.{refused_object_line}
use Rattle.store_files.specs.ObjectTypes.{IsRefusedObject}
use Rattle.store_files.specs.Types.{Held}
use Rattle.store_files.specs.declared.found_types.ObjectTypes.{ObjectTypes}
use Rattle.store_files.specs.declared.found_types.ObjectTypes.TheVariants.{Accepted, Refused}
use Rattle.database_commands.specs.Created.{DescribesObjects, HaveAcceptedTypes}

-- the store of what a file said, where each transaction that was open and isn't prepared is aborted
pub record IsReopened (was : Contents) (s : Stored) : Type 0 where
  pub types : HasTypes was s.types
  pub history : s.history ≡ events_of_kinds was.events ++ closing_but (prepared_numbers (prepared_in was)) (events_of_kinds was.events)

-- a file is what another one becomes where its open transactions are aborted that aren't prepared, and then these objects, whose types have these texts, are added
pub record HasGrown (texts : List (List ℕ)) (objects : List ObjectLine) (was now : Contents) : Type 0 where
  pub old : Stored
  pub opened : IsReopened was old
  pub new : Stored
  pub prepared : List Prepared
  pub grows : Grows texts objects old (prepared_in was) new prepared (recovered was) now

-- the text is the line of the first object whose type isn't accepted, by its number behind so many others
abbrev pub SaysRefusedBehind : ℕ → Held → List (List ℕ) → List ObjectLine → List ℕ → Type 0
SaysRefusedBehind count holds words objects text = (x : ℕ) × (refusal : CheckRefusal) × IsRefusedObject holds words objects x refusal × (text ≡ refused_object_line (count + x) refusal)

-- ---- the command

-- yes with no text, and the file has grown, if no wrong answer of a disk was taken as true; or no with the line of an object whose type isn't
-- accepted, by its number in the whole store, and the file says what it said
abbrev pub ExtendsStore : Type 0 → Option Trees → Option Trees → Held → List ℕ → List (List ℕ) → Answers
ExtendsStore clean held left holds path words Yes text =
    (objects : List ObjectLine) × (declared : List Declaration) × HaveAcceptedTypes holds path words objects declared × (text ≡ [])
    × (clean → IfSome held (λ was. IfSome left (λ now. HasGrown (map canonical_text declared) objects (contents_of was) (contents_of now))))
ExtendsStore clean held left holds path words No text =
    (objects : List ObjectLine) × IfSome (holds path) (λ text. DescribesObjects text objects)
    × ((count : ℕ) × SaysRefusedBehind count holds words objects text
    × (clean → IfSome held (λ was. IfSome left (λ now. (count ≡ length (contents_of was).objects) × (contents_of now ≡ contents_of was)))))

-- ---- inside the command

-- the same where this was found of the objects' types
abbrev pub AnswersFound : Type 0 → Option Trees → Option Trees → List (List ℕ) → List ObjectLine → ObjectTypes → Answers
AnswersFound clean held left texts objects (Accepted types) Yes text =
    (text ≡ []) × (clean → IfSome held (λ was. IfSome left (λ now. HasGrown texts objects (contents_of was) (contents_of now))))
AnswersFound clean held left texts objects (Refused x refusal) No text =
    (count : ℕ) × (text ≡ refused_object_line (count + x) refusal)
    × (clean → IfSome held (λ was. IfSome left (λ now. (count ≡ length (contents_of was).objects) × (contents_of now ≡ contents_of was))))
AnswersFound clean held left texts objects found verdict text = ⊥
