-- Statements of laws: of transactions that are carried into the next epoch.
use Rattle.std.specs.Prelude.{◌≡◌, ◌<◌, ◌≤◌, ℕ, List, ◌∷◌, ◌++◌, length, map, filter, true, false, Some, slice_get}
use Rattle.std.specs.List.{AllByRecursion}
use Rattle.type_table.specs.declared.kind.Kind.{Kind}
use Rattle.table_checker.specs.Checked.{Checked, IsStrong}
use Rattle.object_trait.specs.Object.{Object, object_of}
use Rattle.object_trait.specs.Meaning.{Meaning, object, state_of}
use Rattle.object_trait.specs.Sound.{IsSound}
use Rattle.object_trait.specs.Steps.{MayApply}
use Rattle.object_trait.specs.declared.event.Event.{Event}
use Rattle.serial_order.specs.Operations.{is_among, ops}
use Rattle.serial_order.specs.History.{summary, is_open, surviving, begins, commits}
use Rattle.serial_order.specs.View.{view}
use Rattle.serial_order.specs.Replay.{open_count}
use Rattle.serial_order.specs.Machine.{IsRun, AreCovered}
use Rattle.serial_order.specs.Serial.{surviving_at}
use Rattle.serial_order.specs.Represent.{plain, Represents}
use Rattle.serial_order.specs.Laws.{AreChecked}
use Rattle.serial_order.specs.Epochs.{Epoch, types_behind, IsEpoch}
use Rattle.serial_order.specs.declared.entry.Entry.{Entry}
use Rattle.committed_states.specs.Committed.{of_these, IsCommitted, is_commit}
use Rattle.carried_runs.specs.OpenEpochs.{IsOpenEpoch}
use Rattle.carried_runs.specs.Objects.{objects_meant, AreRepresenting}
use Rattle.carried_runs.specs.Carried.{AreOpenOnce, is_carried, carried_of_logs, IsCarriedOrder, number_in, begins_from, done_again, carried_by, carried_run, carried_summary}
use Rattle.carried_runs.specs.Redo.{begins_or_works}
use Rattle.carried_runs.specs.Views.{carried_view, SeesBy}
use Rattle.carried_runs.specs.OldNumbers.{owner_of, named_events}

-- ---- they are a run

-- behind an open epoch, what is carried of it is a run, in each such order: each operation is legal there, and nobody keeps its transaction from it
abbrev pub CarriedInAnyOrder : Type 0
CarriedInAnyOrder =
    (types : List Checked) (e : Epoch) (worker : ℕ → ℕ) (P : List ℕ) (U : List Entry) → AreChecked types → IsOpenEpoch types e → AreOpenOnce P e.history
    → IsCarriedOrder P e.history U → IsRun (map object_of (types_behind types e)) (carried_by worker P U)

-- so in the order in which it was executed
abbrev pub CarriedIsRun : Type 0
CarriedIsRun =
    (types : List Checked) (e : Epoch) (worker : ℕ → ℕ) (P : List ℕ) → AreChecked types → IsOpenEpoch types e → AreOpenOnce P e.history
    → IsRun (map object_of (types_behind types e)) (carried_run worker P e.history)

-- it only begins transactions and executes operations
abbrev pub CarriedWorks : Type 0
CarriedWorks = (worker : ℕ → ℕ) (P : List ℕ) (U : List Entry) → AllByRecursion (λ e. begins_or_works e.kind ≡ true) (carried_by worker P U)

-- the log of an object that represents the history tells what is carried there
abbrev pub LogsTellCarried : Type 0
LogsTellCarried = (m : Meaning) (x : ℕ) (H : List Event) (P : List ℕ) → Represents m x H → AreOpenOnce P H → map (plain x) (filter (is_carried P) m.log) ≡ of_these P (surviving_at x H)

-- so the logs tell such an order
abbrev pub LogsTellOrder : Type 0
LogsTellOrder = (ms : List Meaning) (H : List Event) (P : List ℕ) → IsRun (objects_meant ms) H → AreRepresenting ms H → AreOpenOnce P H → IsCarriedOrder P H (carried_of_logs 0 P ms)

-- an object that represents what was done again so far may do the next one
abbrev pub CarriedApplies : Type 0
CarriedApplies =
    (types : List Checked) (e : Epoch) (worker : ℕ → ℕ) (P : List ℕ) → AreChecked types → IsOpenEpoch types e → AreOpenOnce P e.history
    → (A B : List Entry) (f : Entry) (m : Meaning) → A ++ f ∷ B ≡ of_these P (surviving e.history)
    → slice_get (map object_of (types_behind types e)) f.at ≡ Some (object m)
    → Represents m f.at (begins_from worker 0 P ++ map (done_again worker P) A) → length m.log < 4294967295
    → MayApply m (number_in P f.by) f.op

-- an epoch goes on by D, which commits nothing, until nobody is open. It is an epoch, at whose end the states of its objects are kept; and as it was
-- before D an open one, of which P is carried
abbrev pub RenewCarries : Type 0
RenewCarries =
    (ms : List Meaning) (e : Epoch) (D : List Event) (worker : ℕ → ℕ) (P : List ℕ)
    → AreChecked (map (λ (m : Meaning). m.checked) ms) → AreChecked e.added → IsRun (map object_of (map (λ (m : Meaning). m.checked) ms)) (e.history ++ D)
    → AllByRecursion (λ e. is_commit e.kind ≡ false) D → ((t : ℕ) → is_open (summary (e.history ++ D)) t ≡ false)
    → ((x : ℕ) (m : Meaning) → slice_get ms x ≡ Some m → IsSound m × Represents m x (e.history ++ D))
    → ((x : ℕ) (m : Meaning) (s : ℕ) → slice_get ms x ≡ Some m → slice_get e.kept x ≡ Some s → state_of m ≡ Some s)
    → length e.kept ≡ length ms → AreOpenOnce P e.history
    → IsEpoch (map (λ (m : Meaning). m.checked) ms) (record e { history = e.history ++ D })
    × IsOpenEpoch (map (λ (m : Meaning). m.checked) ms) e
    × IsRun (map object_of (types_behind (map (λ (m : Meaning). m.checked) ms) e)) (carried_run worker P e.history)

-- ---- what they see

-- what a carried transaction saw at an object, and what it sees from a committed state on
abbrev pub CarriedSees : Type 0
CarriedSees =
    (objects : List Object) (H : List Event) (P : List ℕ) (x : ℕ) (o : Object) (s t : ℕ) → AreCovered objects → IsRun objects H → AreOpenOnce P H
    → slice_get objects x ≡ Some o → IsCommitted o s x H
    → SeesBy o.kind o (commits H) P (surviving_at x H) s t

-- what is carried says just that, and shows a carried transaction that view
abbrev pub CarriedShows : Type 0
CarriedShows =
    (H : List Event) (worker : ℕ → ℕ) (P : List ℕ) → AreOpenOnce P H
    → (summary (carried_run worker P H) ≡ carried_summary P (of_these P (surviving H)))
    × ((kind : Kind) (x t : ℕ) → is_among P t ≡ true → ops (view kind (summary (carried_run worker P H)) x (number_in P t)) ≡ ops (carried_view kind P (surviving_at x H) t))

-- in each such order, with an end of each carried transaction it is no longer than the history with an end of each open one
abbrev pub CarriedFits : Type 0
CarriedFits =
    (objects : List Object) (H : List Event) (worker : ℕ → ℕ) (P : List ℕ) (U : List Entry) → IsRun objects H → AreOpenOnce P H → IsCarriedOrder P H U
    → (length (carried_by worker P U) ≤ length H) × (length P ≤ open_count (summary H))

-- where each yes is strong and all open transactions are carried, what the next epoch does after what is carried is what the old one might have done, had
-- it had the objects that are added
abbrev pub RenewalIsUnseen : Type 0
RenewalIsUnseen =
    (types : List Checked) (e : Epoch) (K : List Event) (worker : ℕ → ℕ) (P : List ℕ) → AreChecked types
    → ((x : ℕ) (c : Checked) → slice_get (types ++ e.added) x ≡ Some c → IsStrong c) → IsOpenEpoch types e
    → AreOpenOnce P e.history → ((t : ℕ) → is_open (summary e.history) t ≡ true → is_among P t ≡ true)
    → IsRun (map object_of (types_behind types e)) (carried_run worker P e.history ++ K)
    → IsRun (map object_of (types ++ e.added)) (e.history ++ named_events (owner_of P (begins e.history)) K)
