-- What `serve DATABASE` writes to its client, and what it leaves.
use Rattle.std.specs.Prelude.{◌≡◌, ◌⊎◌, false, ℕ, suc, List, [], ◌++◌, map, Option, None, Some, IfSome, MatchBool, IsTrue, Result, Ok, Err}
use Rattle.std.specs.Io.KnownBytes.{Appends, Consumes, IsAtEnd}
use Rattle.event_text.specs.EventText.{events_of_kinds}
use Rattle.command_files.specs.Answers.{Answers}
use Rattle.command_files.specs.Status.{is_input}
use Rattle.command_files.specs.declared.fault.Fault.{Fault}
use Rattle.command_files.specs.declared.status.Verdict.{Verdict}
use Rattle.command_files.specs.declared.status.Verdict.TheVariants.{Yes}
use Rattle.sqlite_trees.specs.declared.store.Store.{Ghosts}
use Rattle.sqlite_trees.specs.Tree.{Trees}
use Rattle.sqlite_trees.specs.View.{IsClean, View}
use Rattle.store_laws.specs.Stored.{Stored}
use Rattle.store.specs.Ends.{closing_but}
use Rattle.journal.specs.declared.prepared_row.Prepared.{Prepared}
use Rattle.journal.specs.Contents.{Contents, IsFile, contents_of, with_least}
use Rattle.journal.specs.Journal.{Clean, ShowsCommit, may_leave, written}
use Rattle.journal.specs.declared.header.Header.{Header}
use Rattle.durable_store.specs.declared.durable.Durable.{Durable}
use Rattle.durable_store.specs.Durable.{IsDurable, kinds}
use Rattle.durable_store.specs.Durable as durable
use Rattle.durable_store.specs.Held.{prepared_numbers}
use Rattle.durable_store.specs.Epochs.{firsts}
use Rattle.durable_store.specs.Recovered.{IsStoreOf, recovered}
use Rattle.durable_store.specs.Types.{HasTypes}
use Rattle.request_text.specs.declared.request.Asked.{Asked}
use Rattle.request_text.specs.declared.request.TransactionName.{TransactionName}
use Rattle.serving.specs.declared.answer_line.Answered.{Answered}
use Rattle.serving.specs.Acknowledged.{AreLast}
use Rattle.serving.specs.CommitsFound.{CommitsAreFound, HasCommit, TellsCommit}
use Rattle.serving.specs.declared.extension.Extension.{Extension}
use Rattle.serving.specs.EpochEnd.{ends_epoch, last_answers}
use Rattle.serving.specs.Epochs.{closed_by}
use Rattle.serving.specs.Group.{AreFirstLines}
use Rattle.serving.specs.Left.{Began, IsInLife, IsLeftAfter, Survives, began_at}
use Rattle.serving.specs.Lines.{AreLines}
use Rattle.serving.specs.Names.{KnownNames, given_names}
use Rattle.serving.specs.NextEpoch.{IsNextStore, SaysNext, SaysSame, late_answer}
use Rattle.serving.specs.Prepared.{now_says}
use Rattle.serving.specs.Served.{Serves}
use Rattle.serving.specs.Told.{AppendsPart, answers_text, greeting}
use Rattle.serving.specs.Whole.{ServesClient, StopsServing, session_of}

-- with this many events more than it began with an epoch is full
abbrev pub epoch_events : ℕ
epoch_events = 32768

-- the store that was opened of what a file said, and the file as it was left then: at least so many of the last outcomes stay from now on
pub record IsOpened (least : ℕ) (said file : Contents) (began : Stored) : Type 0 where
  pub types : HasTypes said began.types
  pub history : began.history ≡ events_of_kinds said.events ++ closing_but (prepared_numbers (durable.prepared_in said)) (events_of_kinds said.events)
  pub left : file ≡ with_least (recovered said) least

-- lines of a client that were done, in their order, by a store, and so they were answered, epoch after epoch; if no wrong answer of a disk was
-- taken as true, it is the store of what a file said, the client knows who is prepared by the names that the file says, and what is read of the file is so
pub record ClientWork (least : ℕ) (clean : Type 0) (held : Option Trees) : Type 0 where
  pub names : KnownNames
  pub file : Contents
  pub began : Stored
  pub lines : List (List ℕ)
  pub told : List Answered
  pub last : KnownNames
  pub said : Contents
  pub reached : Stored
  pub ended : Option Asked
  pub waits : Option Extension
  pub lives : clean → IsInLife file names.life
  pub named : clean → names ≡ given_names names.life (durable.prepared_in file)
  pub opened : clean → IfSome held (λ db. IsOpened least (contents_of db) file began)
  pub serves : Serves clean epoch_events file names lines began told last said reached ended waits

-- the lines that a client gets of it
abbrev pub told_text : {least : ℕ} {clean : Type 0} {held : Option Trees} → ClientWork least clean held → List ℕ
told_text w = (greeting w.names.life ++ answers_text w.told) ++ answers_text (last_answers (late_answer w.waits w.reached) w.ended)

-- the ids of stores in the headers of a file
abbrev pub ids_in : Contents → List (List ℕ)
ids_in c = map (λ (h : Header). h.id) c.headers

-- a file that came from this one begins a new epoch at the states of this store, after this life, with its events and with these transactions prepared: with the
-- texts and objects that it said last, and those of an extension that waited, of the store with the same id, in the next life
pub record BeginsEpoch (file said : Contents) (waits : Option Extension) (last : ℕ) (db : Trees) (s : Stored) (ps : List Prepared) : Type 0 where
  pub events : (contents_of db).events ≡ kinds s.history
  pub states : (contents_of db).states ≡ firsts s.types
  pub says : SaysNext waits ps said (contents_of db)
  pub id : ids_in (contents_of db) ≡ ids_in file
  pub life : IsInLife (contents_of db) (suc last)

-- a file that came from this one is that of this store in this life: with the texts and objects that it said last, of the store with the same id
pub record StaysInLife (file said : Contents) (life : ℕ) (s : Stored) (db : Trees) : Type 0 where
  pub store : IsStoreOf (contents_of db) s
  pub says : SaysSame said (contents_of db)
  pub id : ids_in (contents_of db) ≡ ids_in file
  pub lives : IsInLife (contents_of db) life

-- after this work the file begins a new epoch, in which what was prepared goes on
pub record RenewsFile {least : ℕ} {clean : Type 0} {held : Option Trees} (work : ClientWork least clean held) (prepared : List Prepared) (left : Option Trees) : Type 0 where
  pub now : Stored
  pub goes_on : List Prepared
  pub renews : IsNextStore work.waits prepared (closed_by false prepared work.reached) now goes_on
  pub left_is : clean → IfSome left (λ db. BeginsEpoch work.file work.said work.waits work.last.life db now goes_on)

-- or its epoch goes on
abbrev pub KeepsFile : {least : ℕ} {clean : Type 0} {held : Option Trees} → ClientWork least clean held → List Prepared → Option Trees → Type 0
KeepsFile {least} {clean} work prepared left = clean → IfSome left (StaysInLife work.file work.said work.last.life (closed_by false prepared work.reached))

-- a text that a client gets: the greeting, the answers and that of the end; of the input these bytes were taken, which are those lines and
-- after them a half one, or what comes after the end; what was open and wasn't prepared is aborted; and the file begins a new epoch where the end was asked for
-- or an extension waited
pub record IsServed (least : ℕ) (clean : Type 0) (held left : Option Trees) (given given_now : Option (List ℕ)) (text : List ℕ) : Type 0 where
  pub work : ClientWork least clean held
  pub seen : List ℕ
  pub half : List ℕ
  pub rest : List ℕ
  pub consumed : Consumes given given_now (seen ++ rest)
  pub asked : AreLines seen work.lines half
  pub all : work.ended ≡ None → (rest ≡ []) × IsAtEnd given_now
  pub told : text ≡ told_text work
  pub prepared : List Prepared
  pub are : clean → prepared ≡ durable.prepared_in (now_says work.said work.reached)
  pub ends : MatchBool (ends_epoch work.waits work.ended) (RenewsFile work prepared left) (KeepsFile work prepared left)

-- what serving answers: never no
abbrev pub ServesDatabase : ℕ → Type 0 → Option Trees → Option Trees → Option (List ℕ) → Option (List ℕ) → Answers
ServesDatabase least clean held left given given_now v text = (v ≡ Yes) × IsServed least clean held left given given_now text

-- where it began
abbrev pub work_began : {least : ℕ} {clean : Type 0} {held : Option Trees} → ClientWork least clean held → Began
work_began w = record { most = epoch_events; file = w.file; names = w.names; store = w.began }

-- whatever may be left is the file after the lines of the first bytes that were read, and has each commit that was answered
pub record LeavesWork {least : ℕ} {clean : Type 0} {held : Option Trees} (w : ClientWork least clean held) (bytes : List ℕ) (given_now : Option (List ℕ)) (may_be_left : Trees → Type 0) : Type 0 where
  pub left : (db : Trees) → may_be_left db → IsFile db × ((waiting : List Answered) × IsLeftAfter (work_began w) (AreLast w.lines w.ended given_now) bytes w.told waiting (contents_of db))
  pub found : (t : TransactionName) → TellsCommit w.lines w.told t → (db : Trees) → may_be_left db → HasCommit (work_began w) (AreLast w.lines w.ended given_now) (contents_of db) t

-- a text of which a client may have got a beginning, where serving stopped: the greeting, the answers to the first lines of its input, which
-- were done, and that of the end; and what may be left then is what these lines and others that were read asked for
pub record BeginsBefore (least : ℕ) (clean : Type 0) (held : Option Trees) (may_be_left : Trees → Type 0) (given given_now : Option (List ℕ)) (text : List ℕ) : Type 0 where
  pub work : ClientWork least clean held
  pub told : text ≡ told_text work
  pub read : AreFirstLines given work.lines
  pub leaves : clean → LeavesWork work (read.seen ++ read.rest) given_now may_be_left

-- this, and what is held at the path then is what may be left
abbrev pub BeginsServing : ℕ → Type 0 → Option Trees → Option Trees → Option (List ℕ) → Option (List ℕ) → List ℕ → Type 0
BeginsServing least clean held left given given_now text = BeginsBefore least clean held (λ db. left ≡ Some db) given given_now text

-- what comes of serving: an answer with its text; or a fault before anything was written, or one that is nothing of what the user gave, and
-- the output took a beginning of such a text
abbrev pub ComesOfServing : (List ℕ → Type 0) → Answers → Result Verdict Fault → Option (List ℕ) → Option (List ℕ) → Type 0
ComesOfServing begun answers (Ok verdict) old new = (text : List ℕ) × answers verdict text × Appends old new text
ComesOfServing begun answers (Err fault) old new = (new ≡ old) ⊎ ((is_input fault ≡ false) × ((text : List ℕ) × begun text × AppendsPart old new text))

-- ---- before serving begins

-- the file as an opening leaves it that said this: in the next life, with an abort of each transaction that was open and isn't prepared; as many of the last
-- outcomes stay as before, or at least so many
abbrev pub IsAsOpened : ℕ → Contents → Contents → Type 0
IsAsOpened least said file = (file ≡ recovered said) ⊎ (file ≡ with_least (recovered said) least)

-- what is held where serving ended before it began: what was held, or the file as an opening leaves it. Each outcome that was known is
pub record IsUnserved (least : ℕ) (was now : Trees) : Type 0 where
  pub left : (now ≡ was) ⊎ (IsFile now × IsAsOpened least (contents_of was) (contents_of now))
  pub known : (contents_of now).outcomes.at ≡ (contents_of was).outcomes.at

-- whatever may be left is so
abbrev pub LeavesUnserved : ℕ → Type 0 → Option Trees → (Trees → Type 0) → Type 0
LeavesUnserved least clean held may_be_left = clean → IfSome held (λ was. (db : Trees) → may_be_left db → IsUnserved least was db)

-- what serving leaves where it fails: it hasn't begun, or what may be left is what a beginning of its lines asked for
abbrev pub FailsBefore : ℕ → Type 0 → Option Trees → (Trees → Type 0) → Option (List ℕ) → Option (List ℕ) → Type 0
FailsBefore least clean held may_be_left given given_now =
    LeavesUnserved least clean held may_be_left ⊎ ((text : List ℕ) × BeginsBefore least clean held may_be_left given given_now text)

-- this, and what is held at the path then is what may be left
abbrev pub FailsServing : ℕ → Type 0 → Option Trees → Option Trees → Option (List ℕ) → Option (List ℕ) → Type 0
FailsServing least clean held left given given_now = FailsBefore least clean held (λ db. left ≡ Some db) given given_now

-- ---- inside the command

-- what is held at the path of these trees is their last commit
abbrev pub IsHeld : View → Option Trees → Type 0
IsHeld v held = IsClean v → IsTrue v.is_open → IfSome held (λ db. v.committed ≡ db)

-- and nothing else may be left of them
abbrev pub LeavesHeld : {S : Type 0} (g : Ghosts S) → S → Option Trees → Type 0
LeavesHeld g trees held = IsClean (g.view trees) → IfSome held (λ was. (db : Trees) → g.recovers trees db → db ≡ was)

-- a crash at this moment leaves the file where at least so many of the last outcomes stay, or what it could have left before
abbrev pub LeavesStaying : {S : Type 0} (g : Ghosts S) → ℕ → Durable S → Durable S → Type 0
LeavesStaying g least old new =
    (db : Trees) → may_leave g new.journal db → (IsFile db × (contents_of db ≡ with_least (written g old.journal) least)) ⊎ may_leave g old.journal db

-- a client was served, and these are the trees
pub record ServesIn {S : Type 0} (g : Ghosts S) (began : Durable S) (given taken : Option (List ℕ)) (trees : S) (given_now taken_now : Option (List ℕ)) : Type 0 where
  pub now : Durable S
  pub are : trees ≡ now.journal.store
  pub clean : Clean g now.journal → Clean g began.journal
  pub sound : IsDurable g now
  pub shows : ShowsCommit g now.journal
  pub serves : ServesClient g epoch_events began given taken now given_now taken_now

-- serving stopped, and these are the trees; what a crash leaves of them then is what lines that were read asked for, with each commit that was
-- answered to the client
pub record StopsIn {S : Type 0} (g : Ghosts S) (began : Durable S) (given taken : Option (List ℕ)) (trees : S) (given_now taken_now : Option (List ℕ)) : Type 0 where
  pub now : Durable S
  pub are : trees ≡ now.journal.store
  pub clean : Clean g now.journal → Clean g began.journal
  pub stops : StopsServing g epoch_events began given taken now taken_now
  pub left : Clean g now.journal
      → Survives g (began_at g (session_of epoch_events began)) (AreLast stops.lines stops.ended given_now) (stops.read.seen ++ stops.read.rest) stops.answers now
  pub found : Clean g now.journal → CommitsAreFound g (began_at g (session_of epoch_events began)) (AreLast stops.lines stops.ended given_now) stops.lines stops.answers now
