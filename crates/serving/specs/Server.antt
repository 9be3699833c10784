-- What a server has done of what its client asked.
use Rattle.std.specs.Prelude.{◌≡◌, ◌⊎◌, ℕ, true, ◌≤◌, List, [], ◌∷◌, ◌++◌, length, take, nat_lt, ◌==◌, if◌then◌else◌, MatchBool, Some, None}
use Rattle.sqlite_trees.specs.declared.store.Store.{Ghosts}
use Rattle.serial_order.specs.History.{summary}
use Rattle.serial_order.specs.Replay.{open_count}
use Rattle.journal.specs.Contents.{Contents}
use Rattle.journal.specs.Journal.{Clean, written}
use Rattle.durable_store.specs.declared.durable.Durable.{Durable}
use Rattle.durable_store.specs.Durable.{IsDurable}
use Rattle.serving.specs.declared.answer_line.AnswerLine.{AnswerLine}
use Rattle.serving.specs.declared.answer_line.Answered.{Answered}
use Rattle.serving.specs.declared.session.Session.{Session}
use Rattle.serving.specs.declared.server.Server.{Server}
use Rattle.serving.specs.Epochs.{LeavesEpochs, WritesEpochs}
use Rattle.serving.specs.Follows.{LeavesMore, WritesMore}
use Rattle.serving.specs.Keys.{said_after}
use Rattle.serving.specs.Lines.{AreLines, asks_end, may_wait}
use Rattle.serving.specs.Names.{KnownNames, given_names}
use Rattle.serving.specs.NextEpoch.{SaysSame, begin_limit, full_with, limit_while}
use Rattle.request_text.specs.Requests.{asked_by}
use Rattle.serving.specs.Served.{IsAnswered, IsAskedMore, Serves}

-- the most bytes that are kept of a line: with one more it is too long, whatever follows
abbrev pub most_kept : ℕ
most_kept = 4096

-- the number of a store's life
abbrev pub life_of : {S : Type 0} → Durable S → ℕ
life_of d = d.journal.header.life

-- the names by which its client knows its transactions, where a session begins
abbrev pub first_names : {S : Type 0} → Durable S → KnownNames
first_names d = given_names (life_of d) d.prepared.items

-- with this many events the epoch of a session is over, where nothing is open that can't go over
abbrev pub full_at : {S : Type 0} → Session S → ℕ
full_at s = limit_while s.waiting (full_with s.most_events s.names)

-- with this many no transaction begins
abbrev pub begins_until : {S : Type 0} → Session S → ℕ
begins_until s = begin_limit s.store.strong s.waiting (full_with s.most_events s.names)

-- a full epoch may end at once: all that is open goes over, or nothing is open but what is prepared
abbrev pub MayEndNow : {S : Type 0} → Session S → Type 0
MayEndNow s = (s.store.strong ≡ true) ⊎ (open_count (summary s.store.store.history) ≤ length s.store.prepared.items)

-- a session goes on from another, in the same epoch
pub record StaysInEpoch {S : Type 0} (g : Ghosts S) (old new : Session S) : Type 0 where
  pub sound : IsDurable g new.store
  pub names : new.names ≡ old.names
  pub most : new.most_events ≡ old.most_events
  pub same : life_of new.store ≡ life_of old.store
  pub follows : WritesMore g old.store new.store
  pub clean : Clean g new.store.journal → Clean g old.store.journal
  pub crash : LeavesMore g old.store new.store

-- the same, epoch after epoch; what an archive keeps of them is said apart
pub record Lasts {S : Type 0} (g : Ghosts S) (old new : Session S) : Type 0 where
  pub sound : IsDurable g new.store
  pub named : new.names.life ≡ life_of new.store
  pub most : new.most_events ≡ old.most_events
  pub reaches : WritesEpochs g old.store new.store None None
  pub clean : Clean g new.store.journal → Clean g old.store.journal
  pub crash : LeavesEpochs g old.store new.store None None

-- since it began, its client has asked these bytes; the answers that it got, and those that wait, are those of a store
pub record HasServed {S : Type 0} (g : Ghosts S) (began : Session S) (told : List Answered) (bytes : List ℕ) (now : Server S) : Type 0 where
  pub lines : List (List ℕ)
  pub half : List ℕ
  pub asked : AreLines bytes lines half
  pub kept : now.line.items ≡ take most_kept half
  pub lasts : Lasts g began now.session
  pub said : Contents
  pub says : Clean g now.session.store.journal → SaysSame said (written g now.session.store.journal)
  pub serves : Serves (Clean g now.session.store.journal) began.most_events (written g began.store.journal) began.names lines began.store.store (told ++ now.answers.items) now.session.names said now.session.store.store now.end now.session.waiting

-- what is written says of keys, and of who was prepared, what it said
abbrev pub KeepsAll : {S : Type 0} (g : Ghosts S) → Durable S → Durable S → Type 0
KeepsAll g old new =
    Clean g new.journal → ((written g new.journal).outcomes ≡ (written g old.journal).outcomes) × ((written g new.journal).prepared ≡ (written g old.journal).prepared)

-- what is written says of keys, and of who was prepared, what it says after this line
abbrev pub KeepsKeys : {S : Type 0} (g : Ghosts S) → KnownNames → Durable S → List ℕ → AnswerLine → Durable S → Type 0
KeepsKeys g names old line answer new =
    Clean g new.journal → ((written g new.journal).outcomes ≡ (said_after names (written g old.journal) line answer).outcomes)
    × ((written g new.journal).prepared ≡ (said_after names (written g old.journal) line answer).prepared)

-- a line is answered: what it asks for may wait now; or it is done, in the same epoch
abbrev pub DoesAsked : {S : Type 0} (g : Ghosts S) → Session S → List ℕ → Answered → Session S → Type 0
DoesAsked g old line a new =
    MatchBool (may_wait old.waiting line) (IsAskedMore line a new.waiting × (new ≡ record old { waiting = new.waiting }))
    (StaysInEpoch g old new × (new.waiting ≡ old.waiting) × IsAnswered (Clean g new.store.journal) (begins_until old) old.names (written g old.store.journal) line old.store.store a new.store.store
    × KeepsKeys g old.names old.store line a.answer new.store)

pub record AnswersLine {S : Type 0} (g : Ghosts S) (old new : Server S) : Type 0 where
  pub a : Answered
  pub does : DoesAsked g old.session old.line.items a new.session
  pub told : new.answers.items ≡ old.answers.items ++ a ∷ []
  pub others : new ≡ record old { session = new.session; line = new.line; answers = new.answers }

-- it asks for the end
pub record TakesEnd {S : Type 0} (old new : Server S) : Type 0 where
  pub others : new ≡ record old { line = new.line; end = Some (asked_by old.line.items) }

-- the line that was kept is done
pub record DoesLine {S : Type 0} (g : Ghosts S) (old new : Server S) : Type 0 where
  pub line : new.line.items ≡ []
  pub done : MatchBool (asks_end old.line.items) (TakesEnd old new) (AnswersLine g old new)

-- a byte of a line is kept where there is room for it
pub record KeepsByte {S : Type 0} (old : Server S) (b : ℕ) (new : Server S) : Type 0 where
  pub line : new.line.items ≡ (if nat_lt (length old.line.items) most_kept then old.line.items ++ b ∷ [] else old.line.items)
  pub others : new ≡ record old { line = new.line }

-- a byte ends a line, or is one of it
abbrev pub TakesByte : {S : Type 0} (g : Ghosts S) → Server S → ℕ → Server S → Type 0
TakesByte g old b new = MatchBool (b == 10) (DoesLine g old new) (KeepsByte old b new)

-- of these bytes a beginning is served: all of them, or those up to the line that asks for the end
pub record ServesBytes {S : Type 0} (g : Ghosts S) (began : Session S) (told : List Answered) (seen : List ℕ) (bytes : List ℕ) (new : Server S) : Type 0 where
  pub count : ℕ
  pub within : count ≤ length bytes
  pub served : HasServed g began told (seen ++ take count bytes) new
  pub all : new.end ≡ None → count ≡ length bytes
