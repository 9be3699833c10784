-- Transactions that only read committed states, and a history with them, each where it read.
use Rattle.std.specs.Prelude.{◌≡◌, ℕ, suc, true, if◌then◌else◌, nat_lt, List, [], ◌∷◌, ◌++◌, map, Some, slice_get}
use Rattle.std.specs.List.{AllByRecursion}
use Rattle.type_table.specs.Table.{has_op}
use Rattle.type_table.specs.Run.{IsLegal}
use Rattle.object_trait.specs.Object.{Object}
use Rattle.object_trait.specs.declared.event.Event.{Event}
use Rattle.object_trait.specs.declared.event.EventKind.{EventKind}
use Rattle.object_trait.specs.declared.event.EventKind.TheVariants as kind
use Rattle.object_trait.specs.declared.event.EventKind.TheVariants.{Begin, Op, Busy, Commit, Abort, Rollback}
use Rattle.serial_order.specs.History.{begins}
use Rattle.serial_order.specs.declared.entry.Entry.{Entry}
use Rattle.committed_states.specs.Committed.{AreCommittedStates}
use Rattle.committed_reads.specs.Still.{ChangesNothing}

-- ---- what is read

-- a read of r: an operation that changes nothing, and that is legal in the committed state of its object
pub record IsReadOf (objects : List Object) (kept : List ℕ) (r : ℕ) (e : Entry) : Type 0 where
  pub by : e.by ≡ r
  pub o : Object
  pub s : ℕ
  pub object : slice_get objects e.at ≡ Some o
  pub state : slice_get kept e.at ≡ Some s
  pub operation : has_op o.table e.op ≡ true
  pub legal : IsLegal o.table (Some s) (e.op ∷ [])
  pub still : ChangesNothing o e.op

-- ---- numbers

-- t's number where one more transaction began as r
abbrev pub shifted : ℕ → ℕ → ℕ
shifted r t = if nat_lt t r then t else suc t

abbrev pub shifted_kind : ℕ → EventKind → EventKind
shifted_kind r (Begin t) = Begin (shifted r t)
shifted_kind r (Op k t x) = Op k (shifted r t) x
shifted_kind r (Busy c t x u) = Busy c (shifted r t) x (shifted r u)
shifted_kind r (kind.None t x c) = kind.None (shifted r t) x c
shifted_kind r (Commit t) = Commit (shifted r t)
shifted_kind r (Abort t) = Abort (shifted r t)
shifted_kind r (Rollback t n) = Rollback (shifted r t) n

abbrev pub shifted_event : ℕ → Event → Event
shifted_event r e = record e { kind = shifted_kind r e.kind }

-- ---- one reader

-- a read, as an event of worker w
abbrev pub read_event : ℕ → ℕ → Entry → Event
read_event w r e = record { worker = w; kind = Op e.op r e.at }

-- what r did, from its begin to its commit
abbrev pub reader_events : ℕ → ℕ → List Entry → List Event
reader_events w r R = (record { worker = w; kind = Begin r }) ∷ (map (read_event w r) R ++ (record { worker = w; kind = Commit r }) ∷ [])

-- it begins after H, reads and commits, and then comes K, whose new transactions have later numbers
abbrev pub with_reader : ℕ → List Event → List Entry → List Event → List Event
with_reader w H R K = H ++ (reader_events w (begins H) R ++ map (shifted_event (begins H)) K)

-- ---- several

-- what a reader of a worker reads, and the events from there up to the next reader
pub record Reader : Type 0 where
  pub worker : ℕ
  pub reads : List Entry
  pub behind : List Event

-- the events without them
abbrev pub without_readers : List Reader → List Event
without_readers [] = []
without_readers (p ∷ ps) = p.behind ++ without_readers ps

-- what comes after H, with them
abbrev pub after_readers : List Event → List Reader → List Event
after_readers H [] = []
after_readers H (p ∷ ps) = reader_events p.worker (begins H) p.reads ++ map (shifted_event (begins H)) (p.behind ++ after_readers (H ++ p.behind) ps)

-- each reads committed states of the history up to it
abbrev pub AreReaders : List Object → List Event → List Reader → Type 0
AreReaders objects H [] = Unit {0}
AreReaders objects H (p ∷ ps) = ((kept : List ℕ) × AreCommittedStates objects kept H × AllByRecursion (IsReadOf objects kept (begins H)) p.reads) × AreReaders objects (H ++ p.behind) ps
