-- What a client was answered survives a crash, and nothing else is there. A crash while it is served is a disk that fails from some call on:
-- serving then stops, and what is said of where it stopped is said of that crash.
use Rattle.std.specs.Prelude.{◌≡◌, ℕ, List, [], ◌++◌, Option, None}
use Rattle.std.specs.Io.KnownBytes.{IsAtEnd}
use Rattle.sqlite_trees.specs.declared.store.Store.{Ghosts}
use Rattle.journal.specs.Journal.{Clean, ShowsCommit}
use Rattle.durable_store.specs.declared.durable.Durable.{Durable}
use Rattle.request_text.specs.declared.request.Asked.{Asked}
use Rattle.serving.specs.declared.session.Session.{Session}
use Rattle.serving.specs.declared.server.Server.{Server}
use Rattle.serving.specs.Group.{HasTold, StopsTelling}
use Rattle.serving.specs.Left.{LeavesLines, Survives, began_at}
use Rattle.serving.specs.Whole.{ServesClient, StopsServing, session_of}

-- ---- while a client is served

-- no lines are the last: others may come
abbrev pub NoneLast : List (List ℕ) → Type 0
NoneLast lines = ⊥

-- a client got all answers so far, and a crash leaves what it asked for, with each commit that was answered; where nothing waited to become
-- durable when that began, and no wrong answer of the disk was taken as true
pub record TellsSafely {S : Type 0} (g : Ghosts S) (began : Session S) (given taken : Option (List ℕ)) (now : Server S) (given_now taken_now : Option (List ℕ)) : Type 0 where
  pub tells : HasTold g began given taken now given_now taken_now
  pub safe : ShowsCommit g began.store.journal → Clean g now.session.store.journal → LeavesLines g (began_at g began) NoneLast (tells.seen ++ tells.rest) tells.told [] now.session.store

-- a server stopped: its client got a beginning of some answers, and of a crash the same holds
pub record StopsSafely {S : Type 0} (g : Ghosts S) (began : Session S) (given taken : Option (List ℕ)) (now : Durable S) (taken_now : Option (List ℕ)) : Type 0 where
  pub stops : StopsTelling g began given taken now taken_now
  pub safe : ShowsCommit g began.store.journal → Clean g now.journal → Survives g (began_at g began) NoneLast (stops.read.seen ++ stops.read.rest) stops.answers now

-- ---- from the greeting to the end

-- these lines are all: the end was asked for, or the input has ended
abbrev pub AreLast : List (List ℕ) → Option Asked → Option (List ℕ) → List (List ℕ) → Type 0
AreLast all ended given_now lines = (lines ≡ all) × (ended ≡ None → IsAtEnd given_now)

-- a client was served, and of a crash the same holds
pub record ServesSafely {S : Type 0} (g : Ghosts S) (most : ℕ) (began : Durable S) (given taken : Option (List ℕ)) (now : Durable S) (given_now taken_now : Option (List ℕ)) : Type 0 where
  pub serves : ServesClient g most began given taken now given_now taken_now
  pub safe : ShowsCommit g began.journal → Clean g now.journal
      → Survives g (began_at g (session_of most began)) (AreLast serves.tells.served.lines serves.served.end given_now) (serves.tells.seen ++ serves.tells.rest) serves.tells.told now

-- serving stopped: the client got a beginning of what it gets for some answers, and of a crash the same holds
pub record StopsServingSafely {S : Type 0} (g : Ghosts S) (most : ℕ) (began : Durable S) (given taken : Option (List ℕ)) (now : Durable S) (given_now taken_now : Option (List ℕ)) : Type 0 where
  pub stops : StopsServing g most began given taken now taken_now
  pub safe : ShowsCommit g began.journal → Clean g now.journal
      → Survives g (began_at g (session_of most began)) (AreLast stops.lines stops.ended given_now) (stops.read.seen ++ stops.read.rest) stops.answers now
