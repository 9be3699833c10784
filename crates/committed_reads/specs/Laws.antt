-- Statements of laws: of operations that change nothing, and of readers.
use Rattle.std.specs.Prelude.{◌≡◌, ℕ, List, ◌++◌, map, true}
use Rattle.std.specs.List.{AllByRecursion}
use Rattle.table_checker.specs.Checked.{Checked, IsChecked}
use Rattle.object_trait.specs.Object.{Object, object_of}
use Rattle.object_trait.specs.declared.event.Event.{Event}
use Rattle.serial_order.specs.History.{begins, IsHistory}
use Rattle.serial_order.specs.Machine.{IsRun, AreCovered}
use Rattle.serial_order.specs.Serial.{IsSerial}
use Rattle.serial_order.specs.declared.entry.Entry.{Entry}
use Rattle.committed_states.specs.Committed.{AreCommittedStates}
use Rattle.committed_reads.specs.Still.{is_still, ChangesNothing}
use Rattle.committed_reads.specs.Readers.{IsReadOf, with_reader, Reader, without_readers, after_readers, AreReaders}

-- an operation that passes the test changes nothing
abbrev pub StillChangesNothing : Type 0
StillChangesNothing = (c : Checked) (k : ℕ) → IsChecked c → is_still c k ≡ true → ChangesNothing (object_of c) k

-- a history, serially legal in commit order
abbrev pub IsSerialHistory : List Object → List Event → Type 0
IsSerialHistory objects H = IsHistory (map (λ o. o.table) objects) H × IsSerial objects H

-- where a reader reads committed states of a run H, and H with K after it is a serial history, that is one with the reader too: it sees what the
-- transactions that committed before it left, whatever comes after. It needs no run: in place a read may be illegal in the reader's view
abbrev pub ReadsAreSerial : Type 0
ReadsAreSerial =
    (objects : List Object) (H K : List Event) (w : ℕ) (kept : List ℕ) (R : List Entry) → AreCovered objects → IsRun objects H
    → IsSerialHistory objects (H ++ K) → AreCommittedStates objects kept H → AllByRecursion (IsReadOf objects kept (begins H)) R
    → IsSerialHistory objects (with_reader w H R K)

-- and so with any number of readers in a run: all are serial together
abbrev pub ReadersAreSerial : Type 0
ReadersAreSerial =
    (objects : List Object) (H : List Event) (ps : List Reader) → AreCovered objects → IsRun objects (H ++ without_readers ps) → AreReaders objects H ps
    → IsSerialHistory objects (H ++ after_readers H ps)
