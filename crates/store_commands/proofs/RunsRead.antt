-- The text of a run is read as its history, and an audit of it says the same.
use Rattle.std.proofs.Common.{◌≡◌, ℕ, ◌<◌, ◌≤◌, ◌^◌, List, [], ◌∷◌, ◌++◌, length, map, Some, Result, Ok, sym, ap, ◌∙◌, subst, arith}
use Rattle.std.specs.List.{AllByRecursion}
use Rattle.std.proofs.lemmas.List.{length-map}
use Rattle.std.specs.Prelude.{slice_get}
use Rattle.type_table.proofs.Elements.{each-places}
use Rattle.type_table.specs.Laws.{EndsWithin}
use Rattle.line_text.specs.Comments.{lines_text}
use Rattle.table_checker.specs.Checked.{Checked, IsChecked}
use Rattle.object_trait.specs.Object.{object_of}
use Rattle.object_trait.specs.declared.event.Event.{Event}
use Rattle.serial_order.specs.After.{NumbersInRun}
use Rattle.store_laws.specs.Stored.{Stored, objects}
use Rattle.store_text.specs.Body.{store_outcome}
use Rattle.store_text.specs.Said.{said_sizes, said_objects, entries_of}
use Rattle.store_text.specs.declared.line.ObjectLine.{ObjectLine}
use Rattle.script_text.specs.Script.{IsFit}
use Rattle.script_text.specs.declared.script.Script.{Script}
use Rattle.history_text.proofs.CanonicalRead.{same_option}
use Rattle.history_text.specs.Canonical.{canonical_size, AreInRange, CanonicalIsRead, canonical_lines}
use Rattle.history_text.specs.Events.{event_in_line, history_body}
use Rattle.script_run.specs.Laws.{AreOpsInRange, RunIsInRange, ScriptIsByOne, ScriptIsRead}
use Rattle.script_run.specs.Runs.{AreKept}
use Rattle.script_run.specs.Turns.{history_after, script_turns, text_of_turns}
use Rattle.history_judge.specs.Audit.{Audits}
use Rattle.history_audit.specs.Laws.{AlikeIsWritten, AuditsAgree}
use Rattle.history_audit.specs.Text.{audit_text}
use Rattle.history_judge.specs.declared.outcome.Audit.{Audit}
use Rattle.work_text.proofs.Comments.{audit_comments}
use Rattle.store_commands.specs.StoreAudit.{new_store, text_limits, tables}
use Rattle.store_commands.specs.HistoryTexts.{IsAuditedAs, IsReadAs}
use Rattle.store_commands.specs.Runs.{IsRunOf}
use Rattle.store_commands.proofs.Sizes.{size-within, files-within}
use Rattle.store_commands.proofs.RunTexts.{audit_short, mapped}

same_Ok : {A E : Type 0} (r : Result A E) (x y : A) → r ≡ Ok x → r ≡ Ok y → x ≡ y
same_Ok r x y first second = let same : x ≡ y = cc in same

-- a text whose value is that of the canonical text is read as its objects and events
pub read_as : CanonicalIsRead → (lines : List ObjectLine) (s : Stored) (text : List ℕ) → AreInRange lines s.history
    → store_outcome history_body text ≡ Ok (canonical_lines lines s.history) → IsReadAs lines s text
read_as canonical lines s text fit value =
    let its = canonical lines s.history fit in
    record {
      value = value;
      file = λ back reads.
          let same = same_Ok (store_outcome history_body text) reads.0 (canonical_lines lines s.history) reads.1 value in
          record {
            size_is = same_option back.size (canonical_size lines) (sym reads.2.size ∙ ap said_sizes same ∙ its.size_said);
            objects_are = reads.2.objects ∙ ap said_objects same ∙ its.objects_said;
            events_are = reads.2.events ∙ ap (λ ls. map event_in_line (entries_of ls)) same ∙ its.events_said;
          };
    }

-- kept states have at most seven digits
pub kept_short : (s : Stored) (kept : List ℕ) → AreKept s kept → AllByRecursion (λ n. n < 2 ^ 32) kept
kept_short s kept are = each-places (λ n. n < 2 ^ 32) kept (λ x n there. (are x n there).fits)

workers_low : (H : List Event) → AllByRecursion (λ (e : Event). e.worker ≡ 0) H → AllByRecursion (λ (e : Event). e.worker ≤ 255) H
workers_low [] mine = tt
workers_low (e ∷ H) mine = (omega (arith, mine.0), workers_low H mine.1)

pub audited_as : AuditsAgree → AlikeIsWritten → (s : Stored) (audit : Audit) → Audits (tables s) s.history (Ok audit) → IsAuditedAs s audit
audited_as agree alike s audit audits = λ outcome other memory.
    alike outcome (Ok audit) (agree (tables s) s.history outcome (Ok audit) other audits memory (λ clash. absurd cc))

module _ (script : Script) (types : List Checked) (text : List ℕ) (fit : IsFit script) (checked : (x : ℕ) (c : Checked) → slice_get types x ≡ Some c → IsChecked c)
    (in_ranges : (x : ℕ) (c : Checked) → slice_get types x ≡ Some c → AreOpsInRange c.file.table) (as_many : length types ≡ length script.objects.items) (its : IsRunOf script types text) where
  abbrev start : Stored
  start = new_store types (text_limits script.size script.max)

  pub run_read : ScriptIsRead → ScriptIsByOne → RunIsInRange → NumbersInRun → EndsWithin → CanonicalIsRead → IsReadAs script.objects.items its.left text
  run_read script_read by_one in_range numbers within canonical =
      let left = its.left in
      let lines = script.objects.items in
      let turns = script_turns (objects start) start.limits its.ran.memory_refused its.ran.kept [] lines script.commands in
      let H = history_after [] turns in
      let store_is : left ≡ record start { history = H } = its.ran.writes.written.store in
      let history_is : left.history ≡ H = ap (λ (s : Stored). s.history) store_is in
      let types_are : left.types ≡ types = ap (λ (s : Stored). s.types) store_is in
      let limit : left.limits.events ≤ 1000000 = subst (λ n. n ≤ 1000000) (sym (ap (λ (s : Stored). s.limits.events) store_is)) fit.high in
      let mine : AllByRecursion (λ (e : Event). e.worker ≤ 255) left.history =
      subst (λ (es : List Event). AllByRecursion (λ (e : Event). e.worker ≤ 255) es) (sym history_is) (workers_low H (by_one (objects start) start.limits its.ran.memory_refused its.ran.kept lines script.commands))
      in
      let each : (x : ℕ) (c : Checked) → slice_get left.types x ≡ Some c → IsChecked c =
      subst (λ (ts : List Checked). (x : ℕ) (c : Checked) → slice_get ts x ≡ Some c → IsChecked c) (sym types_are) checked
      in
      let each_op : (x : ℕ) (c : Checked) → slice_get left.types x ≡ Some c → AreOpsInRange c.file.table =
      subst (λ (ts : List Checked). (x : ℕ) (c : Checked) → slice_get ts x ≡ Some c → AreOpsInRange c.file.table) (sym types_are) in_ranges
      in
      let many : length left.types ≡ length lines = ap (λ (ts : List Checked). length ts) types_are ∙ as_many in
      let few : length left.types ≤ 65536 = omega (arith, many, fit.objects_fit, size-within script.size fit.size) in
      let ranges : AreInRange lines left.history =
      in_range lines (objects left) left.history
      (record {
        run = its.history.run;
        ops_fit = mapped object_of (λ o. AreOpsInRange o.table) left.types each_op;
        as_many = length-map left.types object_of ∙ many;
        some_object = fit.some_object;
        objects_fit = omega (arith, fit.objects_fit, size-within script.size fit.size);
        files_fit = files-within script.size lines fit.size fit.files_fit;
        named = fit.named;
        events_fit = omega (arith, its.history.room, limit);
        workers_fit = mine;
      })
      in
      let comments = audit_comments (Ok its.audit) (audit_short within numbers left each its.history limit few its.audit its.audited) in
      let ranges_here = subst (AreInRange lines) history_is ranges in
      let read = script_read (objects start) start.limits its.ran.memory_refused its.ran.kept lines script.commands comments.lines ranges_here
      (omega (arith, its.ran.all_kept, few)) (kept_short left its.ran.kept its.ran.are_kept) comments.are
      in
      let whole : text ≡ text_of_turns turns ++ lines_text comments.lines =
      its.is ∙ ap (λ (t : List ℕ). t ++ audit_text (Ok its.audit)) its.ran.writes.written.bytes ∙ ap (λ (t : List ℕ). text_of_turns turns ++ t) comments.is
      in
      let value : store_outcome history_body text ≡ Ok (canonical_lines lines left.history) =
      ap (store_outcome history_body) whole ∙ read ∙ ap (λ (es : List Event). Ok (canonical_lines lines es)) (sym history_is)
      in
      read_as canonical lines left text ranges value
