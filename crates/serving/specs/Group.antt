-- What a client got.
use Rattle.std.specs.Prelude.{◌≡◌, ℕ, Bool, true, false, List, [], ◌++◌, drop, Option, None, option_map}
use Rattle.std.specs.Io.KnownBytes.{Appends, Consumes, IsAtEnd}
use Rattle.sqlite_trees.specs.declared.store.Store.{Ghosts}
use Rattle.store_laws.specs.Stored.{Stored}
use Rattle.journal.specs.Contents.{Contents}
use Rattle.journal.specs.Journal.{Clean, written}
use Rattle.durable_store.specs.declared.durable.Durable.{Durable}
use Rattle.request_text.specs.declared.request.Asked.{Asked}
use Rattle.serving.specs.declared.answer_line.Answered.{Answered}
use Rattle.serving.specs.declared.extension.Extension.{Extension}
use Rattle.serving.specs.declared.session.Session.{Session}
use Rattle.serving.specs.declared.server.Server.{Server}
use Rattle.serving.specs.Lines.{AreLines}
use Rattle.serving.specs.Served.{Serves}
use Rattle.serving.specs.Names.{KnownNames}
use Rattle.serving.specs.Server.{HasServed, first_names}
use Rattle.serving.specs.Told.{AppendsPart, answers_text}

-- since it began a server has taken these bytes of its input, done the lines of them up to one that asks for the end, and written
-- its client all of the answers, and nothing else
pub record HasTold {S : Type 0} (g : Ghosts S) (began : Session S) (given taken : Option (List ℕ)) (now : Server S) (given_now taken_now : Option (List ℕ)) : Type 0 where
  pub told : List Answered
  pub seen : List ℕ
  pub rest : List ℕ
  pub consumed : Consumes given given_now (seen ++ rest)
  pub all : now.end ≡ None → rest ≡ []
  pub waits : now.answers.items ≡ []
  pub served : HasServed g began told seen now
  pub appended : Appends taken taken_now (answers_text told)

-- more may come: the end wasn't asked for. If none may come, it was, or the input has ended
abbrev pub IsMore : {S : Type 0} → Bool → Server S → Option (List ℕ) → Type 0
IsMore true now given_now = now.end ≡ None
IsMore false now given_now = now.end ≡ None → IsAtEnd given_now

-- of the input that was given these are the first lines; after them the beginning of another was read, or more
pub record AreFirstLines (given : Option (List ℕ)) (lines : List (List ℕ)) : Type 0 where
  pub seen : List ℕ
  pub half : List ℕ
  pub rest : List ℕ
  pub left : Option (List ℕ)
  pub consumed : Consumes given left (seen ++ rest)
  pub asked : AreLines seen lines half

-- a known rest of the input, without its first bytes
abbrev pub known_from : ℕ → Option (List ℕ) → Option (List ℕ)
known_from n known = option_map (drop n) known

-- a server stopped: its client got a beginning of the answers to the first lines of its input
pub record StopsTelling {S : Type 0} (g : Ghosts S) (began : Session S) (given taken : Option (List ℕ)) (now : Durable S) (taken_now : Option (List ℕ)) : Type 0 where
  pub lines : List (List ℕ)
  pub read : AreFirstLines given lines
  pub answers : List Answered
  pub names : KnownNames
  pub reached : Stored
  pub said : Contents
  pub ended : Option Asked
  pub waits : Option Extension
  pub serves : Serves (Clean g now.journal) began.most_events (written g began.store.journal) began.names lines began.store.store answers names said reached ended waits
  pub part : AppendsPart taken taken_now (answers_text answers)

-- a server that was asked nothing yet
pub record IsUnasked {S : Type 0} (s : Server S) : Type 0 where
  pub line : s.line.items ≡ []
  pub answers : s.answers.items ≡ []
  pub end : s.end ≡ None
  pub none_waits : s.session.waiting ≡ None
  pub named : s.session.names ≡ first_names s.session.store
