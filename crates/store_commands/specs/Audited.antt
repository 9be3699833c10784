-- What `audit HISTORY [--then HISTORY]... TYPE...` answers.
use Rattle.std.specs.Prelude.{◌≡◌, ◌≢◌, ◌⊎◌, ℕ, List, [], ◌∷◌, length, map, take, Vec, IfSome, Result, Ok, Err}
use Rattle.std.specs.declared.alloc.Global.{Global}
use Rattle.type_table.specs.Table.{Table}
use Rattle.declared_types.specs.declared.declared_type.Declaration.{Declaration}
use Rattle.store_text.specs.declared.line.ObjectLine.{ObjectLine}
use Rattle.history_text.specs.declared.history_file.HistoryFile.{HistoryFile}
use Rattle.history_judge.specs.Audit.{Audits}
use Rattle.history_audit.specs.Epochs.{AuditsEpochs, Told}
use Rattle.history_audit.specs.EpochText.{epochs_text}
use Rattle.history_audit.specs.Text.{audit_text}
use Rattle.history_judge.specs.declared.outcome.Audit.{Audit}
use Rattle.history_judge.specs.declared.outcome.AuditFault.{AuditFault}
use Rattle.history_judge.specs.declared.outcome.AuditFault.TheVariants.{NoMemory}
use Rattle.history_audit.specs.declared.epoch_fault.EpochFault.{EpochFault}
use Rattle.command_files.specs.Answers.{Answers}
use Rattle.command_files.specs.declared.status.Verdict.TheVariants.{Yes, No}
use Rattle.store_files.specs.Histories.{AreHistoriesAt, DescribesHistory, IsFaultyHistory, IsFirstFaultyHistory}
use Rattle.object_types.specs.Types.{IsUnplaced}
use Rattle.store_files.specs.Types.{Held, AreDeclaredAt, AreTablesOf, IsFirstFaultyDeclaration}

-- the audit of a history with the tables of its objects has this outcome, and the text is its lines
pub record IsAuditOf (history : HistoryFile) (declared : List Declaration) (outcome : Result Audit AuditFault) (text : List ℕ) : Type 0 where
  pub tables : List Table
  pub are : AreTablesOf declared history.objects.items tables
  pub audits : Audits tables history.events.items outcome
  pub is : text ≡ audit_text outcome

-- what an outcome says: yes or no with its lines
abbrev pub IsSaid : Result Audit AuditFault → Answers
IsSaid outcome Yes text = (audit : Audit) × (outcome ≡ Ok audit) × (text ≡ audit_text outcome)
IsSaid outcome No text = (fault : AuditFault) × (outcome ≡ Err fault) × (fault ≢ NoMemory) × (text ≡ audit_text outcome)

-- yes with the order and the states, or no with the first fault
abbrev pub AuditsRead : HistoryFile → List Declaration → Answers
AuditsRead history declared Yes text = (audit : Audit) × IsAuditOf history declared (Ok audit) text
AuditsRead history declared No text = (fault : AuditFault) × (fault ≢ NoMemory) × IsAuditOf history declared (Err fault) text

-- what is told of a history: how many objects it has, and its events
abbrev pub told_of : HistoryFile → Told
told_of h = record { objects = length h.objects.items; events = h.events.items }

-- the objects of the last history, which are all there are
abbrev pub all_objects : HistoryFile → List HistoryFile → List ObjectLine
all_objects first [] = first.objects.items
all_objects first (next ∷ later) = all_objects next later

-- the audit of histories one after another, the first and those that follow it, has this outcome, and the text is its lines
pub record IsAuditOfAll (first : HistoryFile) (later : List HistoryFile) (declared : List Declaration) (outcome : Result (Vec Audit Global) EpochFault) (text : List ℕ) : Type 0 where
  pub tables : List Table
  pub are : AreTablesOf declared (all_objects first later) tables
  pub audits : AuditsEpochs tables (map told_of (first ∷ later)) outcome
  pub is : text ≡ epochs_text outcome

-- yes with the orders and the last states, or no with the first fault
abbrev pub AuditsEach : HistoryFile → List HistoryFile → List Declaration → Answers
AuditsEach first later declared Yes text = (audits : Vec Audit Global) × IsAuditOfAll first later declared (Ok audits) text
AuditsEach first later declared No text = (fault : EpochFault) × (fault.fault ≢ NoMemory) × IsAuditOfAll first later declared (Err fault) text

-- a history alone is audited as one, and several one after another
abbrev pub AuditsAll : HistoryFile → List HistoryFile → List Declaration → Answers
AuditsAll first [] declared = AuditsRead first declared
AuditsAll first (next ∷ later) declared = AuditsEach first (next ∷ later) declared

-- the objects of a history begin with those of another one
abbrev pub BeginsWith : HistoryFile → HistoryFile → Type 0
BeginsWith next before = take (length before.objects.items) next.objects.items ≡ before.objects.items

-- each history that follows begins with the objects of the one before it
abbrev pub HaveObjects : HistoryFile → List HistoryFile → Type 0
HaveObjects before [] = Unit {0}
HaveObjects before (next ∷ later) = BeginsWith next before × HaveObjects next later

-- what was read for an audit: the first history at its path, those that follow it, and what is declared at the TYPE words
pub record AreAuditFiles (holds : Held) (path : List ℕ) (others : List (List ℕ)) (words : List (List ℕ)) (first : HistoryFile) (later : List HistoryFile) (declared : List Declaration) : Type 0 where
  pub history_held : IfSome (holds path) (λ text. DescribesHistory text first)
  pub later_held : AreHistoriesAt holds others later
  pub types_held : AreDeclaredAt holds words declared

-- the answer to what was read
abbrev pub AuditsFiles : Held → List ℕ → List (List ℕ) → List (List ℕ) → Answers
AuditsFiles holds path others words verdict text =
    (first : HistoryFile) × (later : List HistoryFile) × (declared : List Declaration)
    × AreAuditFiles holds path others words first later declared × HaveObjects first later × AuditsAll first later declared verdict text

-- the text of a history has a fault, or the first of the types that has one; or the objects of a history that follows don't begin with those
-- of the one before it, or an object names no type
abbrev pub HasAuditFault : Held → List ℕ → List (List ℕ) → List (List ℕ) → Type 0
HasAuditFault holds path others words =
    IfSome (holds path) IsFaultyHistory
    ⊎ (IsFirstFaultyHistory holds others
    ⊎ (IsFirstFaultyDeclaration holds words
    ⊎ ((first : HistoryFile) × (later : List HistoryFile) × (declared : List Declaration) × AreAuditFiles holds path others words first later declared
    × (¬ (HaveObjects first later) ⊎ IsUnplaced declared (all_objects first later)))))
