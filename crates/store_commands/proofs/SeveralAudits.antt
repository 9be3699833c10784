-- The answer to histories that were read.
use Rattle.std.proofs.Common.{◌≡◌, ◌∙◌, ◌<◌, ℕ, List, [], ◌∷◌, length, map, Result, Ok, Vec, IfSome, refl, subst, arith}
use Rattle.std.specs.declared.alloc.Global.{Global}
use Rattle.type_table.specs.Table.{Table}
use Rattle.declared_types.specs.declared.declared_type.Declaration.{Declaration}
use Rattle.history_text.specs.declared.history_file.HistoryFile.{HistoryFile}
use Rattle.history_audit.specs.Epochs.{AuditsEpochs, Told}
use Rattle.history_audit.specs.EpochText.{epochs_text}
use Rattle.history_judge.specs.declared.outcome.Audit.{Audit}
use Rattle.history_audit.specs.declared.epoch_fault.EpochFault.{EpochFault}
use Rattle.command_files.specs.Answers.{IsThis}
use Rattle.command_files.specs.declared.status.Verdict.{Verdict}
use Rattle.command_files.specs.declared.status.Verdict.TheVariants.{Yes, No}
use Rattle.store_files.specs.Histories.{AreHistoriesAt, DescribesHistory}
use Rattle.store_files.specs.Types.{AreDeclaredAt, AreTablesOf, Held}
use Rattle.store_commands.specs.Audited.{AreAuditFiles, AuditsAll, AuditsEach, AuditsRead, IsAuditOfAll, all_objects, told_of}
use Rattle.store_commands.proofs.Kept.{files_kept}

-- a yes
pub all_say_yes : (first : HistoryFile) (later : List HistoryFile) (declared : List Declaration) (tables given : List Table) (hs : List Told)
    (outcome : Result (Vec Audit Global) EpochFault) → hs ≡ map told_of (first ∷ later) → given ≡ tables → AreTablesOf declared (all_objects first later) tables
    → AuditsEpochs given hs outcome → (lines : List ℕ) → lines ≡ epochs_text outcome → (audits : Vec Audit Global) → outcome ≡ Ok audits
    → (v : Verdict) (text : List ℕ) → IsThis Yes lines v text → AuditsEach first later declared v text
all_say_yes first later declared tables given hs outcome histories_are given_are are audits lines text_is them is Yes text this =
    let whole : IsAuditOfAll first later declared outcome text = record {
      tables = tables;
      are = are;
      audits = subst (λ (told : List Told). AuditsEpochs tables told outcome) histories_are (subst (λ (ts : List Table). AuditsEpochs ts hs outcome) given_are audits);
      is = this.1 ∙ text_is;
    } in
    (them, subst (λ (r : Result (Vec Audit Global) EpochFault). IsAuditOfAll first later declared r text) is whole)
all_say_yes first later declared tables given hs outcome histories_are given_are are audits lines text_is them is No text this = absurd (let clash = this.0 in cc)

-- ---- what was read

-- what a source says stays while the files are read
pub all_read : (holds behind_first behind_later : Held) → ((other : List ℕ) → behind_first other ≡ holds other) → ((other : List ℕ) → behind_later other ≡ behind_first other)
    → (path : List ℕ) (others words : List (List ℕ)) (first : HistoryFile) (later : List HistoryFile) (declared : List Declaration) → IfSome (holds path) (λ text. DescribesHistory text first)
    → AreHistoriesAt behind_first others later → AreDeclaredAt behind_later words declared → AreAuditFiles holds path others words first later declared
all_read holds behind_first behind_later kept_first kept_later path others words first later declared described histories types = record {
  history_held = described;
  later_held = files_kept holds behind_first kept_first others later histories;
  types_held = files_kept holds behind_later (λ other. kept_later other ∙ kept_first other) words declared types;
}

-- ---- by how many there are

-- none follows
pub one_alone : (first : HistoryFile) (later : List HistoryFile) (declared : List Declaration) (v : Verdict) (text : List ℕ) → length later ≡ 0 → AuditsRead first declared v text → AuditsAll first later declared v text
one_alone first [] declared v text none says = says
one_alone first (next ∷ later) declared v text none says = absurd (omega (arith, none))

-- then all objects are its own
pub alone_objects : (first : HistoryFile) (later : List HistoryFile) → length later ≡ 0 → all_objects first later ≡ first.objects.items
alone_objects first [] none = refl
alone_objects first (next ∷ later) none = absurd (omega (arith, none))

-- some do
pub some_follow : (first : HistoryFile) (later : List HistoryFile) (declared : List Declaration) (v : Verdict) (text : List ℕ) → 0 < length later → AuditsEach first later declared v text
    → AuditsAll first later declared v text
some_follow first [] declared v text some says = absurd (omega (arith, some))
some_follow first (next ∷ later) declared v text some says = says
