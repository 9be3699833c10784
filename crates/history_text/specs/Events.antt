-- The event lines of a history.
use Rattle.std.specs.Prelude.{ℕ, Bool, false, ◌&&◌, ◌==◌, nat_le, nat_lt, List, length, if◌then◌else◌, Option, Some, None, Result, Ok, Err, codes}
use Rattle.object_trait.specs.declared.event.Event.{Event}
use Rattle.object_trait.specs.declared.event.EventKind.{EventKind}
use Rattle.object_trait.specs.declared.event.EventKind.TheVariants as kind
use Rattle.type_table.specs.Operation.{operation_at, place_of, amount_of}
use Rattle.line_text.specs.LongNumbers.{long_number_at}
use Rattle.line_text.specs.Shapes.{◌>>=◌, exactly, number_at, is_key}
use Rattle.line_text.specs.declared.fault.FaultKind.{FaultKind}
use Rattle.line_text.specs.declared.fault.FaultKind.TheVariants.{UnknownWord}
use Rattle.store_text.specs.Body.{Body}
use Rattle.history_text.specs.declared.event_line.EventLine.{EventLine}
use Rattle.history_text.specs.declared.event_line.EventLine.TheVariants.{Begin, Op, OpOf, Busy, Nothing, Commit, Abort, Rollback}

-- ---- what a line says

unfoldable pub begin_event_of : List (List ℕ) → Result EventLine FaultKind
begin_event_of words = do
  done ← exactly words 3
  w ← number_at words 1
  t ← number_at words 2
  Ok (Begin w t)

unfoldable pub listed_of : List (List ℕ) → Result EventLine FaultKind
listed_of words = do
  done ← exactly words 5
  w ← number_at words 1
  t ← number_at words 2
  x ← number_at words 3
  k ← number_at words 4
  Ok (Op w t x k)

unfoldable pub counted_of : List (List ℕ) → Result EventLine FaultKind
counted_of words = do
  done ← exactly words 6
  w ← number_at words 1
  t ← number_at words 2
  x ← number_at words 3
  k ← number_at words 4
  n ← long_number_at words 5
  Ok (OpOf w t x k n)

-- with a sixth word, which is the amount, or without
unfoldable pub op_event_of : List (List ℕ) → Result EventLine FaultKind
op_event_of words = if length words == 6 then counted_of words else listed_of words

unfoldable pub busy_of : List (List ℕ) → Result EventLine FaultKind
busy_of words = do
  done ← exactly words 6
  w ← number_at words 1
  t ← number_at words 2
  x ← number_at words 3
  c ← number_at words 4
  u ← number_at words 5
  Ok (Busy w t x c u)

unfoldable pub nothing_of : List (List ℕ) → Result EventLine FaultKind
nothing_of words = do
  done ← exactly words 5
  w ← number_at words 1
  t ← number_at words 2
  x ← number_at words 3
  c ← number_at words 4
  Ok (Nothing w t x c)

unfoldable pub commit_event_of : List (List ℕ) → Result EventLine FaultKind
commit_event_of words = do
  done ← exactly words 3
  w ← number_at words 1
  t ← number_at words 2
  Ok (Commit w t)

unfoldable pub abort_event_of : List (List ℕ) → Result EventLine FaultKind
abort_event_of words = do
  done ← exactly words 3
  w ← number_at words 1
  t ← number_at words 2
  Ok (Abort w t)

unfoldable pub rollback_event_of : List (List ℕ) → Result EventLine FaultKind
rollback_event_of words = do
  done ← exactly words 4
  w ← number_at words 1
  t ← number_at words 2
  n ← number_at words 3
  Ok (Rollback w t n)

-- by the keyword
unfoldable pub event_line_of : List (List ℕ) → Result EventLine FaultKind
event_line_of words =
    if is_key words (codes "begin") then begin_event_of words
    else (if is_key words (codes "op") then op_event_of words
    else (if is_key words (codes "busy") then busy_of words
    else (if is_key words (codes "none") then nothing_of words
    else (if is_key words (codes "commit") then commit_event_of words
    else (if is_key words (codes "abort") then abort_event_of words
    else (if is_key words (codes "rollback") then rollback_event_of words
    else Err UnknownWord))))))

-- ---- the event of a line

abbrev event : ℕ → EventKind → Event
event w kind = record { worker = w; kind = kind }

-- the event that a line says
abbrev pub event_in_line : EventLine → Event
event_in_line (Begin w t) = event w (kind.Begin t)
event_in_line (Op w t x k) = event w (kind.Op k t x)
event_in_line (OpOf w t x k n) = event w (kind.Op (operation_at k (Some n)) t x)
event_in_line (Busy w t x c u) = event w (kind.Busy c t x u)
event_in_line (Nothing w t x c) = event w (kind.None t x c)
event_in_line (Commit w t) = event w (kind.Commit t)
event_in_line (Abort w t) = event w (kind.Abort t)
event_in_line (Rollback w t n) = event w (kind.Rollback t n)

-- the line of an operation with its place and, where it has one, its amount
abbrev pub op_event_line : ℕ → ℕ → ℕ → ℕ → Option ℕ → EventLine
op_event_line w t x k None = Op w t x k
op_event_line w t x k (Some n) = OpOf w t x k n

-- the line of a kind of event at a worker's call
abbrev pub event_line_at : ℕ → EventKind → EventLine
event_line_at w (kind.Begin t) = Begin w t
event_line_at w (kind.Op k t x) = op_event_line w t x (place_of k) (amount_of k)
event_line_at w (kind.Busy c t x u) = Busy w t x c u
event_line_at w (kind.None t x c) = Nothing w t x c
event_line_at w (kind.Commit t) = Commit w t
event_line_at w (kind.Abort t) = Abort w t
event_line_at w (kind.Rollback t n) = Rollback w t n

-- the line of an event
abbrev pub line_of : Event → EventLine
line_of e = event_line_at e.worker e.kind

-- ---- the ranges

abbrev pub is_worker : ℕ → Bool
is_worker w = nat_le w 255

abbrev pub is_transaction : ℕ → Bool
is_transaction t = nat_le t 999999

-- one of as many as the text may have
abbrev pub is_object : ℕ → ℕ → Bool
is_object objects x = nat_lt x objects

-- an operation, or a call, which is named by its least operation
abbrev pub is_operation : ℕ → Bool
is_operation k = nat_le k 63

abbrev pub is_event_amount : ℕ → Bool
is_event_amount n = nat_le n 4294967295

abbrev pub is_in_range : ℕ → EventLine → Bool
is_in_range objects (Begin w t) = is_worker w && is_transaction t
is_in_range objects (Op w t x k) = is_worker w && is_transaction t && is_object objects x && is_operation k
is_in_range objects (OpOf w t x k n) = is_worker w && is_transaction t && is_object objects x && is_operation k && is_event_amount n
is_in_range objects (Busy w t x c u) = is_worker w && is_transaction t && is_object objects x && is_operation c && is_transaction u
is_in_range objects (Nothing w t x c) = is_worker w && is_transaction t && is_object objects x && is_operation c
is_in_range objects (Commit w t) = is_worker w && is_transaction t
is_in_range objects (Abort w t) = is_worker w && is_transaction t
is_in_range objects (Rollback w t n) = is_worker w && is_transaction t && nat_le 1 n && nat_le n 999999

-- a history has no limit; an event may come at any place
abbrev pub history_body : Body EventLine
history_body = record {
  has_max = false;
  entry_of = event_line_of;
  is_in_range = is_in_range;
  wants_another = λ x. false;
}
