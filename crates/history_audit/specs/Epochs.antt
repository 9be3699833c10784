-- What an audit says of histories one after another, of which each begins at the serial states in which the one before it ends. A later
-- one may have more objects.
use Rattle.std.specs.Prelude.{◌≡◌, ◌≢◌, ◌↔◌, ℕ, ◌+◌, List, [], ◌∷◌, ◌++◌, length, map, take, Some, Result, Ok, Err, IsOk, slice_get, Vec}
use Rattle.std.specs.declared.alloc.Global.{Global}
use Rattle.std.specs.List.{AllByRecursion, flat_map}
use Rattle.type_table.specs.Table.{Table, table_at}
use Rattle.type_table.specs.Run.{run, IsLegal}
use Rattle.table_checker.specs.Checked.{Checked}
use Rattle.object_trait.specs.declared.event.Event.{Event}
use Rattle.serial_order.specs.Operations.{ops}
use Rattle.serial_order.specs.History.{IsHistory}
use Rattle.serial_order.specs.Laws.{AreChecked}
use Rattle.serial_order.specs.Serial.{serial_at}
use Rattle.serial_order.specs.Epochs.{AreEpochs, Epoch}
use Rattle.history_judge.specs.Audit.{Audits}
use Rattle.history_judge.specs.declared.outcome.Audit.{Audit}
use Rattle.history_judge.specs.declared.outcome.AuditFault.{AuditFault}
use Rattle.history_judge.specs.declared.outcome.AuditFault.TheVariants.{NoMemory}
use Rattle.history_audit.specs.declared.epoch_fault.EpochFault.{EpochFault}
use Rattle.history_audit.specs.declared.epoch_history.EpochHistory.{EpochHistory}

-- what is told of an epoch: how many objects it has, which are the first of all, and its events
pub record Told : Type 0 where
  pub objects : ℕ
  pub events : List Event

abbrev pub told_epoch : EpochHistory → Told
told_epoch h = record { objects = h.objects; events = h.events.now }

-- each table, beginning at the state that is given for it
abbrev pub tables_at : List Table → List ℕ → List Table
tables_at [] states = []
tables_at (T ∷ tables) [] = T ∷ tables
tables_at (T ∷ tables) (s ∷ states) = table_at T s ∷ tables_at tables states

-- each history has a yes, from the serial states in which the one before it ends; an object that is added begins at its initial state
abbrev pub AreAudits : List Table → List Told → List Audit → Type 0
AreAudits tables [] [] = Unit {0}
AreAudits tables (h ∷ hs) (a ∷ more) = Audits (take h.objects tables) h.events (Ok a) × AreAudits (tables_at tables a.finals.items) hs more
AreAudits tables _ _ = ⊥

-- the tables, beginning at the serial states in which the last history ends
abbrev pub tables_after : List Table → List Audit → List Table
tables_after tables [] = tables
tables_after tables (a ∷ more) = tables_after (tables_at tables a.finals.items) more

-- the n-th history has no yes for this reason, and each before it has one
pub record IsFirstEpochFault (tables : List Table) (hs : List Told) (n : ℕ) (fault : AuditFault) : Type 0 where
  pub audits : List Audit
  pub history : Told
  pub before : AreAudits tables (take n hs) audits
  pub there : slice_get hs n ≡ Some history
  pub faulty : Audits (take history.objects (tables_after tables audits)) history.events (Err fault)

-- what an audit without a yes says of the n-th history. Where memory was refused nothing is said
abbrev pub HasEpochFault : List Table → List Told → ℕ → AuditFault → Type 0
HasEpochFault tables hs n NoMemory = Unit {0}
HasEpochFault tables hs n fault = IsFirstEpochFault tables hs n fault

-- a yes to each history, or the first that has none
abbrev pub AuditsEpochs : List Table → List Told → Result (Vec Audit Global) EpochFault → Type 0
AuditsEpochs tables hs (Ok audits) = AreAudits tables hs audits.items
AuditsEpochs tables hs (Err f) = HasEpochFault tables hs f.epoch f.fault

-- ---- what it means

-- the operations of the committed transactions at x, history after history, and in each in commit order
abbrev pub serial_over_histories : ℕ → List Told → List ℕ
serial_over_histories x [] = []
serial_over_histories x (h ∷ hs) = ops (serial_at x h.events) ++ serial_over_histories x hs

-- at each object the serial order over all histories is legal from the first initial state
abbrev pub AreSerialOver : List Table → List Told → Type 0
AreSerialOver tables hs = (x : ℕ) (T : Table) → slice_get tables x ≡ Some T → IsLegal T (Some T.initial) (serial_over_histories x hs)

-- each is a history at the tables of its objects
abbrev pub AreHistories : List Table → List Told → Type 0
AreHistories tables hs = AllByRecursion (λ (h : Told). IsHistory (take h.objects tables) h.events) hs

-- a yes says that each is a history, that the serial order over all is legal at each object, and where it leads
abbrev pub YesIsSerialOver : Type 0
YesIsSerialOver =
    (tables : List Table) (hs : List Told) (audits : List Audit) → AreAudits tables hs audits
    → AreHistories tables hs
    × ((x : ℕ) (T : Table) → slice_get tables x ≡ Some T → (s : ℕ) × (run T (Some T.initial) (serial_over_histories x hs) ≡ Some s) × (slice_get (tables_after tables audits) x ≡ Some (table_at T s)))

-- where memory wasn't refused, there is a yes exactly where each is a history and the serial order over all is legal
abbrev pub EpochsDecide : Type 0
EpochsDecide =
    (tables : List Table) (hs : List Told) (outcome : Result (Vec Audit Global) EpochFault) → AuditsEpochs tables hs outcome
    → ((f : EpochFault) → outcome ≡ Err f → f.fault ≢ NoMemory)
    → IsOk outcome ↔ (AreHistories tables hs × AreSerialOver tables hs)

-- ---- epochs of checked types

-- a yes, or memory was refused
abbrev pub PassEpochs : Result (Vec Audit Global) EpochFault → Type 0
PassEpochs (Ok audits) = Unit {0}
PassEpochs (Err f) = f.fault ≡ NoMemory

-- what is told of epochs, of which the first has so many objects, and each later one those that were added too
abbrev pub told_from : ℕ → List Epoch → List Told
told_from objects [] = []
told_from objects (e ∷ es) = record { objects = objects; events = e.history } ∷ told_from (objects + length e.added) es

-- the types of all objects, as they first begin
abbrev pub types_of_all : List Checked → List Epoch → List Checked
types_of_all types es = types ++ flat_map (λ (e : Epoch). e.added) es

-- the histories of epochs of checked types, at whose ends a state of each object was kept, pass; a kept state may only look like the
-- serial one, at which the audit goes on
abbrev pub EpochsPass : Type 0
EpochsPass =
    (types : List Checked) (es : List Epoch) (outcome : Result (Vec Audit Global) EpochFault) → AreChecked types → AreEpochs types es
    → AuditsEpochs (map (λ (c : Checked). c.file.table) (types_of_all types es)) (told_from (length types) es) outcome → PassEpochs outcome
