-- What a crash leaves of a store that serves: the file as it was after some of the lines that were read, and nothing that they didn't ask for.
use Rattle.std.specs.Prelude.{◌≡◌, ◌⊎◌, ◌≤◌, ℕ, Bool, true, false, List, [], ◌∷◌, ◌++◌, length, take, drop, Option}
use Rattle.sqlite_trees.specs.declared.store.Store.{Ghosts}
use Rattle.sqlite_trees.specs.Tree.{Trees}
use Rattle.store_laws.specs.Stored.{Stored}
use Rattle.journal.specs.declared.header.Header.{Header}
use Rattle.journal.specs.Contents.{Contents, IsFile, contents_of}
use Rattle.journal.specs.Journal.{may_leave, written}
use Rattle.durable_store.specs.declared.durable.Durable.{Durable}
use Rattle.durable_store.specs.Recovered.{IsStoreOf}
use Rattle.request_text.specs.declared.request.Asked.{Asked}
use Rattle.serving.specs.declared.answer_line.Answered.{Answered}
use Rattle.serving.specs.declared.extension.Extension.{Extension}
use Rattle.serving.specs.declared.session.Session.{Session}
use Rattle.serving.specs.Does.{is_epoch_full}
use Rattle.serving.specs.Epochs.{closed_by}
use Rattle.serving.specs.Lines.{AreLines}
use Rattle.serving.specs.Names.{KnownNames}
use Rattle.serving.specs.NextEpoch.{IsNextFile, WhereStrong, full_with, limit_while}
use Rattle.serving.specs.Prepared.{now_says}
use Rattle.durable_store.specs.Durable.{prepared_in}
use Rattle.journal.specs.declared.prepared_row.Prepared.{Prepared}
use Rattle.serving.specs.Served.{Serves}
use Rattle.serving.specs.Told.{has_lasting}

-- ---- where serving began

-- what its file said then, by which names its client knew its transactions, its store, and with how many events an epoch is full
pub record Began : Type 0 where
  pub most : ℕ
  pub file : Contents
  pub names : KnownNames
  pub store : Stored

abbrev pub began_at : {S : Type 0} (g : Ghosts S) → Session S → Began
began_at g s = record { most = s.most_events; file = written g s.store.journal; names = s.names; store = s.store.store }

-- ---- the file of a store

-- the file says that this is its life
abbrev pub IsInLife : Contents → ℕ → Type 0
IsInLife c life = (h : Header) × (c.headers ≡ h ∷ []) × (h.life ≡ life)

-- the file knows this of keys, and of who was prepared
abbrev pub KnowsKeys : Contents → Contents → Type 0
KnowsKeys said c = (c.outcomes ≡ said.outcomes) × (c.prepared ≡ said.prepared)

-- after what happens as an epoch ends, by what the file says is prepared
abbrev pub closed_store : Bool → Contents → Stored → Stored
closed_store goes said s = closed_by goes (prepared_in (now_says said s)) s

-- the file of this store in this life, which knows of keys and of who was prepared what was said; where its epoch is over, also that file
-- after what happens as it ends, and the file that begins anew from there, with what waits to be added
pub data IsStoreFile (over : Bool → Type 0) (waits : Option Extension) (life : ℕ) (said : Contents) (s : Stored) : Contents → Type 0 where
  present : (c : Contents) → IsStoreOf c s → IsInLife c life → KnowsKeys said c → IsStoreFile over waits life said s c
  closed : (goes : Bool) (c : Contents) → over goes → IsStoreOf c (closed_store goes said s) → IsInLife c life → KnowsKeys said c → IsStoreFile over waits life said s c
  anew : (goes : Bool) (c now : Contents) (next : Stored) (ps : List Prepared) → over goes → IsStoreOf c (closed_store goes said s) → IsInLife c life → KnowsKeys said c
      → IsNextFile waits (prepared_in (now_says said s)) (closed_store goes said s) next ps c now → IsStoreFile over waits life said s now

-- an epoch may end where it is full or an extension waits, and then all that is open goes over if each yes is strong; or where these lines are the last, and then
-- nothing does but what is prepared
abbrev pub MayEnd : ℕ → Option Extension → KnownNames → Stored → Type 0 → Bool → Type 0
MayEnd most waits names reached last goes =
    ((is_epoch_full (limit_while waits (full_with most names)) reached ≡ true) × WhereStrong goes reached) ⊎ (last × (goes ≡ false))

-- since serving began these lines were done and so answered, and this is the file then; its epoch may have ended
pub record IsFileAfter (b : Began) (last : List (List ℕ) → Type 0) (lines : List (List ℕ)) (done : List Answered) (c : Contents) : Type 0 where
  pub names : KnownNames
  pub reached : Stored
  pub said : Contents
  pub ended : Option Asked
  pub waits : Option Extension
  pub serves : Serves (Unit {0}) b.most b.file b.names lines b.store done names said reached ended waits
  pub file : IsStoreFile (MayEnd b.most waits names reached (last lines)) waits names.life said reached c

-- ---- after a crash

-- the answers that the client may have got, and those that it didn't get, begin with what these lines were answered; and no answer that it
-- may have got and that comes after them is to a commit
pub record AreFirstAnswers (told waiting done : List Answered) : Type 0 where
  pub others : List Answered
  pub all : told ++ waiting ≡ done ++ others
  pub none : has_lasting (drop (length done) told) ≡ false

-- this is the file after the lines of the first bytes that were read, of which the client may have got these answers, and others wait
pub record IsLeftAfter (b : Began) (last : List (List ℕ) → Type 0) (bytes : List ℕ) (told waiting : List Answered) (c : Contents) : Type 0 where
  pub count : ℕ
  pub within : count ≤ length bytes
  pub lines : List (List ℕ)
  pub half : List ℕ
  pub asked : AreLines (take count bytes) lines half
  pub done : List Answered
  pub first : AreFirstAnswers told waiting done
  pub file : IsFileAfter b last lines done c

-- a crash at this moment leaves such a file, while these answers wait
abbrev pub LeavesLines : {S : Type 0} (g : Ghosts S) → Began → (List (List ℕ) → Type 0) → List ℕ → List Answered → List Answered → Durable S → Type 0
LeavesLines g b last bytes told waiting now = (db : Trees) → may_leave g now.journal db → IsFile db × IsLeftAfter b last bytes told waiting (contents_of db)

-- the same, whatever waits
abbrev pub Survives : {S : Type 0} (g : Ghosts S) → Began → (List (List ℕ) → Type 0) → List ℕ → List Answered → Durable S → Type 0
Survives g b last bytes told now = (db : Trees) → may_leave g now.journal db → IsFile db × ((waiting : List Answered) × IsLeftAfter b last bytes told waiting (contents_of db))
