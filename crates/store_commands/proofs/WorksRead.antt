-- The text of what workers did is read as its history, whatever they did.
use Rattle.std.proofs.Common.{◌≡◌, ℕ, ◌<◌, ◌≤◌, ◌^◌, List, length, map, Some, Ok, refl, sym, ap, ◌∙◌, subst, arith}
use Rattle.std.specs.Prelude.{All, Contains, nat_le, slice_get}
use Rattle.std.specs.List.{AllByRecursion}
use Rattle.std.proofs.lemmas.Bool.{and_parts, leb-true}
use Rattle.std.proofs.lemmas.List.{length-map}
use Rattle.std.proofs.lemmas.List.Elements.{All-contains, All-from_recursion, recursion_from_All}
use Rattle.std.proofs.lemmas.Option.{get_or_from_slice_get, slice_get_within}
use Rattle.type_table.proofs.Elements.{each-places, each-weaker, element_at, found-map}
use Rattle.type_table.specs.Laws.{EndsWithin}
use Rattle.table_checker.specs.Checked.{Checked, IsChecked}
use Rattle.object_trait.specs.Object.{object_of}
use Rattle.object_trait.specs.declared.event.Event.{Event}
use Rattle.serial_order.specs.After.{NumbersInRun}
use Rattle.serial_order.specs.History.{commits}
use Rattle.store_laws.specs.Stored.{Stored, objects}
use Rattle.store_text.specs.Body.{store_outcome}
use Rattle.jobs_text.specs.Jobs.{AreJobsFit, calls_in}
use Rattle.jobs_text.specs.declared.jobs_file.Job.{Job}
use Rattle.jobs_text.specs.declared.jobs_file.JobsFile.{JobsFile}
use Rattle.history_text.specs.Canonical.{AreInRange, CanonicalIsRead}
use Rattle.history_text.specs.Events.{history_body}
use Rattle.script_run.specs.Laws.{AreOpsInRange, RunIsInRange}
use Rattle.worker_turns.specs.declared.outcome.Outcome.{Outcome}
use Rattle.worker_turns.specs.declared.outcome.Outcome.TheVariants.{Committed, GaveUp, Refused, NotRun}
use Rattle.worker_turns.specs.declared.outcome.Report.{Report}
use Rattle.workers.specs.Worked.{HasWorked}
use Rattle.work_text.specs.TextHistory.{IsShortNumber, IsShortOutcome, IsShortReport, WorkIsRead}
use Rattle.store_commands.specs.HistoryTexts.{IsReadAs}
use Rattle.store_commands.specs.Works.{IsWorkOf, start_of_work}
use Rattle.store_commands.proofs.Sizes.{size-within, files-within}
use Rattle.store_commands.proofs.RunTexts.{audit_short, commits_short, mapped}
use Rattle.store_commands.proofs.RunsRead.{kept_short, read_as}

-- an outcome is short where the transaction that it names is
outcome_short : (outcome : Outcome) → ((t : ℕ) → outcome ≡ Committed t → IsShortNumber t) → IsShortOutcome outcome
outcome_short (Committed t) short = short t refl
outcome_short GaveUp short = tt
outcome_short (Refused r) short = tt
outcome_short NotRun short = tt

module _ (file : JobsFile) (types : List Checked) (tries : ℕ) (text : List ℕ) (fit : AreJobsFit file) (checked : (x : ℕ) (c : Checked) → slice_get types x ≡ Some c → IsChecked c)
    (in_ranges : (x : ℕ) (c : Checked) → slice_get types x ≡ Some c → AreOpsInRange c.file.table) (as_many : length types ≡ length file.objects.items) (its : IsWorkOf file types tries text) where
  worked : HasWorked (start_of_work file types tries) (length file.jobs.items) its.left its.reports
  worked = subst (λ n. HasWorked (start_of_work file types tries) n its.left its.reports) (length-map file.jobs.items calls_in) its.worked.2

  jobs_few : length file.jobs.items ≤ 16
  jobs_few =
      let lists = length-map file.jobs.items calls_in in
      let n = length (map calls_in file.jobs.items) in
      let low = leb-true n 16 (and_parts (nat_le 1 n) (nat_le n 16) its.worked.0).1 in
      omega (arith, lists, low)

  report_short : AllByRecursion (λ n. n < 10 ^ 7) (commits its.left.history) → (w : ℕ) (r : Report) → slice_get its.reports w ≡ Some r → IsShortReport r
  report_short short w r there =
      let lists = length-map file.jobs.items calls_in in
      let low : w < length (map calls_in file.jobs.items) = omega (arith, slice_get_within its.reports w r there, worked.are_reports.as_many) in
      let found = element_at (map calls_in file.jobs.items) w low in
      let is = worked.are_reports.started w found.0 r (omega (arith, low, lists)) found.1 there in
      let list = found-map calls_in file.jobs.items w found.0 found.1 in
      let few = fit.jobs_fit w list.0 list.1 in
      let same : length (calls_in list.0) ≡ length found.0 = ap (λ (ls : List (List (ℕ × List ℕ))). length ls) list.2 in
      let all = All-from_recursion (λ n. n < 10 ^ 7) (commits its.left.history) short in
      record {
        jobs = omega (arith, is.as_many, same, length-map list.0.items (λ (job : Job). job.calls.items), few);
        outcomes = each-places IsShortOutcome r.outcomes.items (λ i outcome at. outcome_short outcome (λ t same_outcome.
            let here = subst (λ (out : Outcome). slice_get r.outcomes.items i ≡ Some out) same_outcome at in
            let among : Contains r.outcomes.items (Committed t) =
            (i, slice_get_within r.outcomes.items i (Committed t) here, get_or_from_slice_get r.outcomes.items i (Committed t) (Committed t) here)
            in
            All-contains (λ n. n < 10 ^ 7) (commits its.left.history) t all (is.replayed t among).committed));
      }

  pub works_read : WorkIsRead → RunIsInRange → NumbersInRun → EndsWithin → CanonicalIsRead → IsReadAs file.objects.items its.left text
  works_read work_read in_range numbers within canonical =
      let left = its.left in
      let lines = file.objects.items in
      let types_are : left.types ≡ types = ap (λ (s : Stored). s.types) worked.store in
      let limit : left.limits.events ≤ 1000000 = subst (λ n. n ≤ 1000000) (sym (ap (λ (s : Stored). s.limits.events) worked.store)) fit.high in
      let each : (x : ℕ) (c : Checked) → slice_get left.types x ≡ Some c → IsChecked c =
      subst (λ (ts : List Checked). (x : ℕ) (c : Checked) → slice_get ts x ≡ Some c → IsChecked c) (sym types_are) checked
      in
      let each_op : (x : ℕ) (c : Checked) → slice_get left.types x ≡ Some c → AreOpsInRange c.file.table =
      subst (λ (ts : List Checked). (x : ℕ) (c : Checked) → slice_get ts x ≡ Some c → AreOpsInRange c.file.table) (sym types_are) in_ranges
      in
      let many : length left.types ≡ length lines = ap (λ (ts : List Checked). length ts) types_are ∙ as_many in
      let few : length left.types ≤ 65536 = omega (arith, many, fit.objects_fit, size-within file.size fit.size) in
      let inside : All (λ (e : Event). e.worker < length file.jobs.items) left.history = worked.inside in
      let by : AllByRecursion (λ (e : Event). e.worker ≤ 255) left.history =
      each-weaker (λ e low. omega (arith, low, jobs_few)) left.history (recursion_from_All (λ (e : Event). e.worker < length file.jobs.items) left.history inside)
      in
      let ranges : AreInRange lines left.history =
      in_range lines (objects left) left.history
      (record {
        run = its.history.run;
        ops_fit = mapped object_of (λ o. AreOpsInRange o.table) left.types each_op;
        as_many = length-map left.types object_of ∙ many;
        some_object = fit.some_object;
        objects_fit = omega (arith, fit.objects_fit, size-within file.size fit.size);
        files_fit = files-within file.size lines fit.size fit.files_fit;
        named = fit.named;
        events_fit = omega (arith, its.history.room, limit);
        workers_fit = by;
      })
      in
      let short = commits_short numbers left its.history limit in
      let value = work_read lines left.history its.told.kept (Ok its.audit) its.reports ranges
      (record {
        objects = omega (arith, its.told.all, few);
        states = kept_short left its.told.kept its.told.are_kept;
        said = audit_short within numbers left each its.history limit few its.audit its.audited;
        workers = omega (arith, worked.are_reports.as_many, length-map file.jobs.items calls_in, jobs_few);
        jobs = each-places IsShortReport its.reports (report_short short);
      })
      in
      read_as canonical lines left text ranges (ap (store_outcome history_body) its.told.is ∙ value)
