-- What each request does, and what it is answered.
use Rattle.std.specs.Prelude.{◌≡◌, ℕ, min, List, take, drop, Option, Some, None}
use Rattle.object_trait.specs.declared.event.EventKind.{EventKind}
use Rattle.store_laws.specs.Stored.{Stored}
use Rattle.store_text.specs.declared.line.ObjectLine.{ObjectLine}
use Rattle.journal.specs.Contents.{Contents}
use Rattle.durable_store.specs.Durable.{kinds}
use Rattle.durable_store.specs.Names.{find_named}
use Rattle.request_text.specs.declared.request.Request.{Request}
use Rattle.request_text.specs.declared.request.Request.TheVariants as request
use Rattle.serial_order.specs.declared.refusal.Refusal.TheVariants.{NoObject}
use Rattle.serving.specs.declared.answer_line.AnswerLine.{AnswerLine}
use Rattle.serving.specs.declared.answer_line.AnswerLine.TheVariants.{Done, Draining, Objects, Types, Events, Found, Refused}
use Rattle.request_text.specs.Requests.{calls_asked, objects_asked}
use Rattle.serving.specs.Keys.{DoesCommitUnder, DoesDoUnder, DoesOutcome}
use Rattle.serving.specs.Means.{Means}
use Rattle.serving.specs.Names.{KnownNames}
use Rattle.serving.specs.Prepared.{DoesDecide, DoesPrepare, decision_of}
use Rattle.serving.specs.HeldTransactions.{DoesHeld}
use Rattle.journal.specs.declared.prepared_row.Prepared.{Prepared}
use Rattle.serving.specs.Several.{DoesCommitted, DoesDo, DoesPeek}
use Rattle.serving.specs.Does.{DoesAbort, DoesBegin, DoesCall, DoesCommit, DoesKept, DoesRollback, DoesStats, DoesWould}

-- ---- what is read from the file: so if no wrong answer of the disk was taken as true

-- the answer lists objects; these, if clean
abbrev pub TellsObjects : Type 0 → AnswerLine → List ObjectLine → Type 0
TellsObjects clean (Objects told) objects = clean → told.items ≡ objects
TellsObjects clean answer objects = ⊥

-- the answer lists texts; these, if clean
abbrev pub TellsTypes : Type 0 → AnswerLine → List (List ℕ) → Type 0
TellsTypes clean (Types told) texts = clean → told.items ≡ texts
TellsTypes clean answer texts = ⊥

-- the answer lists events; these, if clean
abbrev pub TellsEvents : Type 0 → AnswerLine → List EventKind → Type 0
TellsEvents clean (Events told) events = clean → told.items ≡ events
TellsEvents clean answer events = ⊥

-- the number of the object of a name
abbrev pub found_answer : Option ℕ → AnswerLine
found_answer (Some x) = Found x
found_answer None = Refused NoObject

-- the most events of one answer
abbrev pub most_told : ℕ
most_told = 65536

-- these events of a history, from a position on
abbrev pub events_from : Stored → ℕ → ℕ → List EventKind
events_from s from count = take (min count most_told) (drop from (kinds s.history))

-- nothing changes but that events may be forgotten, which are in the file
abbrev pub LetsGo : Stored → Stored → Type 0
LetsGo old new = new ≡ record old { forgotten = new.forgotten }

-- ---- each request

-- a request of this line to a store whose client knows these names, over a file that says this, in which these are prepared, whose epochs are full with this many events; only
-- what is read from the file needs a clean disk. To this store no objects are added: that is asked of the epoch after it
abbrev pub DoesRequest : Type 0 → ℕ → KnownNames → Contents → List Prepared → List ℕ → Stored → Request → AnswerLine → Stored → Type 0
DoesRequest clean most names c ps line old request.Begin answer new = DoesBegin most names.life old answer new
DoesRequest clean most names c ps line old (request.Call t x name) answer new = (n : ℕ) × Means clean c.objects x n × DoesCall names ps old t n name answer new
DoesRequest clean most names c ps line old (request.Would t x name) answer new = (n : ℕ) × Means clean c.objects x n × DoesWould names ps old t n name answer new
DoesRequest clean most names c ps line old (request.Commit t) answer new = DoesCommit names ps old t answer new
DoesRequest clean most names c ps line old (request.CommitUnder t key) answer new = DoesCommitUnder clean names c ps old t key answer new
DoesRequest clean most names c ps line old (request.Abort t) answer new = DoesAbort names ps old t answer new
DoesRequest clean most names c ps line old (request.Rollback t count) answer new = DoesRollback names ps old t count answer new
DoesRequest clean most names c ps line old (request.Kept x) answer new = (n : ℕ) × Means clean c.objects x n × DoesKept old n answer new
DoesRequest clean most names c ps line old request.Peek answer new = DoesPeek clean names.life c.objects old (calls_asked line) answer new
DoesRequest clean most names c ps line old request.Committed answer new = DoesCommitted clean names.life c.objects old (objects_asked line) answer new
DoesRequest clean most names c ps line old request.Do answer new = DoesDo clean most names c.objects old (calls_asked line) answer new
DoesRequest clean most names c ps line old (request.DoUnder key) answer new = DoesDoUnder clean most names c old (calls_asked line) key answer new
DoesRequest clean most names c ps line old (request.Outcome key) answer new = DoesOutcome clean c old key answer new
DoesRequest clean most names c ps line old (request.Prepare t key until) answer new = DoesPrepare clean names c old t key until answer new
DoesRequest clean most names c ps line old (request.Decide key d) answer new = DoesDecide clean c old key (decision_of d) answer new
DoesRequest clean most names c ps line old request.Prepared answer new = DoesHeld ps old answer new
DoesRequest clean most names c ps line old (request.Find name) answer new = (new ≡ old) × (found : Option ℕ) × (answer ≡ found_answer found) × (clean → found ≡ find_named c.objects name)
DoesRequest clean most names c ps line old request.Objects answer new = TellsObjects clean answer c.objects × LetsGo old new
DoesRequest clean most names c ps line old request.Types answer new = TellsTypes clean answer c.types × LetsGo old new
DoesRequest clean most names c ps line old (request.Events from count) answer new = TellsEvents clean answer (events_from old from count) × LetsGo old new
DoesRequest clean most names c ps line old request.Stats answer new = DoesStats ps old answer new
DoesRequest clean most names c ps line old request.Extend answer new = (answer ≡ Draining) × (new ≡ old)
DoesRequest clean most names c ps line old request.End answer new = (answer ≡ Done) × (new ≡ old)
