-- What is written of workers, and what comes of it.
use Rattle.std.proofs.Common.{◌≡◌, ◌∙◌, ℕ, List, [], take, map, Option, Result, Ok, Err, refl, sym, ap, subst, inl, inr, ⊎_elim}
use Rattle.std.specs.Io.KnownBytes.{Appends}
use Rattle.outputs.specs.declared.out.OutFault.{OutFault}
use Rattle.jobs_text.specs.Jobs.{calls_in}
use Rattle.jobs_text.specs.declared.jobs_file.JobsFile.{JobsFile}
use Rattle.table_checker.specs.Checked.{Checked}
use Rattle.store_laws.specs.Stored.{Stored}
use Rattle.store_text.specs.declared.line.ObjectLine.{ObjectLine}
use Rattle.history_judge.specs.declared.outcome.Audit.{Audit}
use Rattle.history_judge.specs.declared.outcome.AuditFault.{AuditFault}
use Rattle.worker_turns.specs.declared.outcome.Report.{Report}
use Rattle.workers.specs.SharedState.{Start}
use Rattle.workers.specs.Worked.{Works}
use Rattle.workers.specs.declared.fault.WorkFault.{WorkFault}
use Rattle.work_text.specs.Text.{PutsWork, work_text}
use Rattle.command_files.specs.Answers.{ComesOr, IsThis}
use Rattle.command_files.proofs.Comes.{comes_or}
use Rattle.store_files.specs.ObjectTypes.{AreTypesAt, SaysRefused}
use Rattle.store_files.specs.Types.{Held}
use Rattle.store_commands.specs.StoreAudit.{text_limits}
use Rattle.store_commands.proofs.Kept.{types_kept}
use Rattle.command_files.specs.declared.fault.Fault.{Fault}
use Rattle.command_files.specs.declared.fault.Fault.TheVariants.{Usage, Text, NoType, NeedsEscrow, ObjectNeedsEscrow, NameTaken, OtherObjects, Order, HasEvents, BadParameter, TooLarge, CannotRead, Database, NoStore, NoMemory, Output}
use Rattle.command_files.specs.declared.status.Verdict.{Verdict}
use Rattle.command_files.specs.declared.status.Verdict.TheVariants.{Yes, No}
use Rattle.store_commands.specs.Works.{AreJobsAt, BeginsWork, BeginsWorkFile, IsTextOf, IsWholeTextOf, IsWholeWorkText, TellsWork, WorksFile, WorksOf, WritesWorkFile, start_of_work}

module _ (file : JobsFile) (types : List Checked) (tries : ℕ) (o : Start) (left : Stored) (reports : List Report) (lines : List ObjectLine) (fault : Option WorkFault)
    (opens : o ≡ start_of_work file types tries) (lines_are : lines ≡ file.objects.items) (works : Works o fault left reports) where
  here : Works (start_of_work file types tries) fault left reports
  here = subst (λ (p : Start). Works p fault left reports) opens works

  -- what is written of workers is what comes of their jobs
  pub told : (result : Result Verdict Fault) (old new : Option (List ℕ)) → TellsWork left lines reports fault result old new
      → ComesOr (IsWholeWorkText file types tries) (BeginsWork file types tries) (WorksOf file types tries) ⊥ result old new
  told (Ok Yes) old new t =
      let passed = t.2 in (
        t.3,
        record {
          left = left;
          reports = reports;
          worked = subst (λ (f : Option WorkFault). Works (start_of_work file types tries) f left reports) t.0 here;
          audit = t.1;
          audited = passed.0;
          history = passed.1;
          told = subst (λ (os : List ObjectLine). IsWholeTextOf os left (Ok t.1) reports t.3) lines_are t.4;
        },
        t.5,
      )
  told (Ok No) old new t = absurd t
  told (Err NoMemory) old new t = ⊎_elim (λ same. inl same.1) (λ b. inr (
    b.3,
    record {
      left = left;
      reports = reports;
      fault = fault;
      worked = here;
      some = b.0;
      outcome = b.1;
      passed = b.2;
      told = subst (λ (os : List ObjectLine). IsWholeTextOf os left b.1 reports b.3) lines_are b.4;
    },
    b.5,
  )) t
  told (Err Output) old new t = (
    t.3,
    t.4,
    record {
      left = left;
      reports = reports;
      fault = fault;
      worked = here;
      some = t.0;
      outcome = t.1;
      passed = t.2;
      told = record { kept = t.5.kept; are_kept = t.5.are_kept; is = t.5.is ∙ ap (λ (os : List ObjectLine). work_text os left.history t.5.kept t.1 reports) lines_are };
    },
    t.6,
  )
  told (Err (Usage text)) old new t = absurd t
  told (Err (Text path f)) old new t = absurd t
  told (Err (NoType path x place)) old new t = absurd t
  told (Err (NeedsEscrow path)) old new t = absurd t
  told (Err (ObjectNeedsEscrow path x)) old new t = absurd t
  told (Err (NameTaken path x)) old new t = absurd t
  told (Err (OtherObjects path first)) old new t = absurd t
  told (Err (Order path fault)) old new t = absurd t
  told (Err (HasEvents path)) old new t = absurd t
  told (Err BadParameter) old new t = absurd t
  told (Err TooLarge) old new t = absurd t
  told (Err (CannotRead path)) old new t = absurd t
  told (Err (Database path fault)) old new t = absurd t
  told (Err (NoStore path)) old new t = absurd t

-- the work begins at a new store of these types
pub begins : (file : JobsFile) (tries : ℕ) (store : Stored) (types given : List Checked) → store ≡ record { types = given; history = []; limits = text_limits file.size file.max; forgotten = 0 } → given ≡ types
    → record { store = store; jobs = map calls_in file.jobs.items; tries = tries } ≡ start_of_work file types tries
begins file tries store types given made are =
    ap (λ (s : Stored). record { store = s; jobs = map calls_in file.jobs.items; tries = tries }) (made ∙ ap (λ (l : List Checked). record { types = l; history = []; limits = text_limits file.size file.max; forgotten = 0 }) are)

-- ---- what was written

module _ (s : Stored) (lines : List ObjectLine) (reports : List Report) (outcome : Result Audit AuditFault) (old new : Option (List ℕ)) (stopped : Option OutFault) where
  -- a text that was written whole
  pub whole_text : (done : Unit {0}) → PutsWork s lines outcome reports old new stopped (Ok done)
      → (text : List ℕ) × IsWholeTextOf lines s outcome reports text × Appends old new text
  whole_text done puts = (
    work_text lines s.history puts.kept outcome reports,
    record { kept = puts.kept; are_kept = puts.are_kept; all = puts.all; is = refl },
    puts.puts.whole,
  )

  -- one that the output stopped
  pub begun_text : (e : OutFault) → PutsWork s lines outcome reports old new stopped (Err e)
      → (text : List ℕ) × (n : ℕ) × IsTextOf lines s outcome reports text × Appends old new (take n text)
  begun_text e puts =
      let part = puts.puts.beginning in
      (work_text lines s.history puts.kept outcome reports, part.0, record { kept = puts.kept; are_kept = puts.are_kept; is = refl }, part.2)

-- ---- the files

module _ (holds later : Held) (kept : (other : List ℕ) → later other ≡ holds other) (workers tries : ℕ) (path : List ℕ) (words : List (List ℕ)) (file : JobsFile)
    (at : AreJobsAt holds workers path file) where
  -- the answers of workers are those of the file
  answers : (types : List Checked) → AreTypesAt holds words file.objects.items types → (v : Verdict) (text : List ℕ) → WorksOf file types tries v text
      → WorksFile holds workers tries path words v text
  answers types here Yes text works = (file, types, at, here, works)
  answers types here No text works = absurd works

  -- what comes of the jobs at their path
  pub works_file : (objects : List ObjectLine) (types : List Checked) (bad : Type 0) (result : Result Verdict Fault) (old new : Option (List ℕ)) → objects ≡ file.objects.items
      → AreTypesAt later words objects types
      → ComesOr (IsWholeWorkText file types tries) (BeginsWork file types tries) (WorksOf file types tries) ⊥ result old new
      → ComesOr (WritesWorkFile holds workers tries path words) (BeginsWorkFile holds workers tries path words) (WorksFile holds workers tries path words) bad result old new
  works_file objects types bad result old new are found comes =
      let here : AreTypesAt holds words file.objects.items types =
      types_kept holds later kept words file.objects.items types (subst (λ (os : List ObjectLine). AreTypesAt later words os types) are found) in
      comes_or (IsWholeWorkText file types tries) (WritesWorkFile holds workers tries path words) (BeginsWork file types tries) (BeginsWorkFile holds workers tries path words)
      (WorksOf file types tries) (WorksFile holds workers tries path words) ⊥ bad
      result old new (λ text whole. (file, types, at, here, whole)) (λ text begun. inl (file, types, at, here, begun)) (answers types here) (λ none. absurd none) comes

  -- the line of an object whose type isn't accepted
  pub says_no : (line : List ℕ) → SaysRefused holds words file.objects.items line → (v : Verdict) (text : List ℕ) → IsThis No line v text
      → WorksFile holds workers tries path words v text
  says_no line says Yes text this = absurd (let clash = this.0 in cc)
  says_no line says No text this = (file, at, subst (λ (t : List ℕ). SaysRefused holds words file.objects.items t) (sym this.1) says)
