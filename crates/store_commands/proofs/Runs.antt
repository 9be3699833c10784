-- What is written of a run, and then of its audit.
use Rattle.std.proofs.Common.{◌≡◌, ℕ, ◌+◌, List, [], ◌++◌, length, take, Option, Some, None, Result, Ok, Err, sym, subst, refl, inl, inr}
use Rattle.std.proofs.Math.Seq.{take-append-add, take-length}
use Rattle.std.specs.Io.KnownBytes.{Appends}
use Rattle.std.proofs.KnownBytes.{Appends-trans}
use Rattle.outputs.specs.declared.out.OutFault.{OutFault}
use Rattle.table_checker.specs.Checked.{Checked}
use Rattle.store_laws.specs.Stored.{Stored, objects}
use Rattle.script_text.specs.declared.script.Script.{Script}
use Rattle.script_run.specs.Runs.{RunsScript}
use Rattle.script_run.specs.Turns.{line_of, script_turns, text_of_turns}
use Rattle.history_audit.specs.Text.{audit_text}
use Rattle.history_judge.specs.declared.outcome.AuditFault.TheVariants as none
use Rattle.command_files.specs.Answers.{ComesOr, IsThis}
use Rattle.command_files.proofs.Comes.{comes_or}
use Rattle.command_files.specs.declared.fault.Fault.{Fault}
use Rattle.command_files.specs.declared.fault.Fault.TheVariants.{Usage, Text, NoType, NeedsEscrow, ObjectNeedsEscrow, NameTaken, OtherObjects, Order, HasEvents, BadParameter, TooLarge, CannotRead, Database, NoStore, NoMemory, Output}
use Rattle.command_files.specs.declared.status.Verdict.{Verdict}
use Rattle.command_files.specs.declared.status.Verdict.TheVariants.{Yes, No}
use Rattle.store_text.specs.declared.line.ObjectLine.{ObjectLine}
use Rattle.store_files.specs.ObjectTypes.{AreTypesAt, SaysRefused}
use Rattle.store_files.specs.Types.{Held}
use Rattle.store_commands.specs.StoreAudit.{TellsAudit, new_store, text_limits}
use Rattle.store_commands.specs.Runs.{BeginsRun, BeginsRunFile, IsScriptAt, IsWholeRun, RunsFile, RunsOf, StopsRun, WritesRunFile}
use Rattle.store_commands.proofs.Kept.{types_kept}

-- the text of a run that was written whole, apart from the output that took it
pub record HasText (old : Stored) (script : Script) (before after : Option (List ℕ)) (left : Stored) : Type 0 where
  pub text : List ℕ
  pub ran : RunsScript old script (Some []) (Some text) None left (Ok tt)
  pub bytes : Appends before after text

text_of_run : (old : Stored) (script : Script) (before after : Option (List ℕ)) (fault : Option OutFault) (left : Stored) (done : Unit {0})
    → RunsScript old script before after fault left (Ok done) → HasText old script before after left
text_of_run old script before after fault left done ran = record {
  text = text_of_turns (script_turns (objects old) old.limits ran.memory_refused ran.kept old.history script.objects.items script.commands);
  ran = record {
    memory_refused = ran.memory_refused;
    may_refuse_memory = ran.may_refuse_memory;
    kept = ran.kept;
    are_kept = ran.are_kept;
    all_kept = ran.all_kept;
    writes = record { written = record { bytes = refl; store = ran.writes.written.store }; fault_is = refl };
  };
  bytes = ran.writes.written.bytes;
}

module _ (script : Script) (types : List Checked) (old : Stored) (before mid after : Option (List ℕ)) (fault : Option OutFault) (left : Stored) (done : Unit {0})
    (fresh : old ≡ new_store types (text_limits script.size script.max)) (ran : RunsScript old script before mid fault left (Ok done)) where
  whole : HasText (new_store types (text_limits script.size script.max)) script before mid left
  whole = text_of_run (new_store types (text_limits script.size script.max)) script before mid fault left done (subst (λ (s : Stored). RunsScript s script before mid fault left (Ok done)) fresh ran)

  -- a run, and then its audit
  pub run_audited : (result : Result Verdict Fault) → TellsAudit left result mid after
      → ComesOr (IsWholeRun script types) (BeginsRun script types) (RunsOf script types) ⊥ result before after
  run_audited (Ok Yes) told = (
    whole.text ++ audit_text (Ok told.0),
    record { run = whole.text; left = left; ran = whole.ran; audit = told.0; audited = told.1.0; history = told.1.1; is = refl },
    Appends-trans before mid after whole.text _ whole.bytes told.2,
  )
  run_audited (Ok No) told = absurd told
  run_audited (Err NoMemory) told = inr (
    whole.text ++ [],
    record { run = whole.text; left = left; ran = whole.ran; outcome = Err none.NoMemory; passed = refl; is = refl },
    Appends-trans before mid after whole.text [] whole.bytes told,
  )
  run_audited (Err Output) told = (
    whole.text ++ audit_text told.0,
    length whole.text + told.1,
    inl (record { run = whole.text; left = left; ran = whole.ran; outcome = told.0; passed = told.2; is = refl }),
    subst (λ (bytes : List ℕ). Appends before after bytes) (sym (take-append-add whole.text (audit_text told.0) told.1))
        (Appends-trans before mid after whole.text _ whole.bytes told.3),
  )
  run_audited (Err (Usage text)) told = absurd told
  run_audited (Err (Text path f)) told = absurd told
  run_audited (Err (NoType path x place)) told = absurd told
  run_audited (Err (NeedsEscrow path)) told = absurd told
  run_audited (Err (ObjectNeedsEscrow path x)) told = absurd told
  run_audited (Err (NameTaken path x)) told = absurd told
  run_audited (Err (OtherObjects path first)) told = absurd told
  run_audited (Err (Order path fault)) told = absurd told
  run_audited (Err (HasEvents path)) told = absurd told
  run_audited (Err BadParameter) told = absurd told
  run_audited (Err TooLarge) told = absurd told
  run_audited (Err (CannotRead path)) told = absurd told
  run_audited (Err (Database path fault)) told = absurd told
  run_audited (Err (NoStore path)) told = absurd told

-- a run that the output stopped
module _ (script : Script) (types : List Checked) (old : Stored) (before after : Option (List ℕ)) (fault : Option OutFault) (left : Stored) (e : OutFault)
    (fresh : old ≡ new_store types (text_limits script.size script.max)) (ran : RunsScript old script before after fault left (Err e)) where
  here : RunsScript (new_store types (text_limits script.size script.max)) script before after fault left (Err e)
  here = subst (λ (s : Stored). RunsScript s script before after fault left (Err e)) fresh ran

  taken : List ℕ
  taken = text_of_turns (take here.writes.written.place (script_turns (objects (new_store types (text_limits script.size script.max))) (text_limits script.size script.max) here.memory_refused here.kept [] script.objects.items script.commands))
      ++ take here.writes.written.taken (line_of here.writes.written.turn)

  stops : StopsRun script types taken
  unfolding taken
  stops = record {
    left = left;
    fault = e;
    ran = record {
      memory_refused = here.memory_refused;
      may_refuse_memory = here.may_refuse_memory;
      kept = here.kept;
      are_kept = here.are_kept;
      all_kept = here.all_kept;
      writes = record {
        written = record {
          place = here.writes.written.place;
          turn = here.writes.written.turn;
          there = here.writes.written.there;
          taken = here.writes.written.taken;
          short = here.writes.written.short;
          bytes = refl;
          store = here.writes.written.store;
        };
        fault_is = refl;
      };
    };
  }

  pub run_stopped : ComesOr (IsWholeRun script types) (BeginsRun script types) (RunsOf script types) ⊥ (Err Output) before after
  unfolding taken
  run_stopped = (
    taken,
    length taken,
    inr stops,
    subst (λ (bytes : List ℕ). Appends before after bytes) (sym (take-length taken)) here.writes.written.bytes,
  )

-- ---- the files

module _ (holds later : Held) (kept : (other : List ℕ) → later other ≡ holds other) (path : List ℕ) (words : List (List ℕ)) (script : Script) (at : IsScriptAt holds path script) where
  -- its answers are those of the file
  answers : (types : List Checked) → AreTypesAt holds words script.objects.items types → (v : Verdict) (text : List ℕ) → RunsOf script types v text → RunsFile holds path words v text
  answers types here Yes text runs = (script, types, at, here, runs)
  answers types here No text runs = absurd runs

  -- what comes of the script at its path
  pub runs_file : (objects : List ObjectLine) (types : List Checked) (bad : Type 0) (result : Result Verdict Fault) (old new : Option (List ℕ)) → objects ≡ script.objects.items
      → AreTypesAt later words objects types
      → ComesOr (IsWholeRun script types) (BeginsRun script types) (RunsOf script types) ⊥ result old new
      → ComesOr (WritesRunFile holds path words) (BeginsRunFile holds path words) (RunsFile holds path words) bad result old new
  runs_file objects types bad result old new are found comes =
      let here : AreTypesAt holds words script.objects.items types =
      types_kept holds later kept words script.objects.items types (subst (λ (os : List ObjectLine). AreTypesAt later words os types) are found) in
      comes_or (IsWholeRun script types) (WritesRunFile holds path words) (BeginsRun script types) (BeginsRunFile holds path words) (RunsOf script types) (RunsFile holds path words) ⊥ bad
      result old new (λ text whole. (script, types, at, here, whole)) (λ text begun. inl (script, types, at, here, begun)) (answers types here) (λ none. absurd none) comes

  -- the line of an object whose type isn't accepted
  pub says_no : (line : List ℕ) → SaysRefused holds words script.objects.items line → (v : Verdict) (text : List ℕ) → IsThis No line v text → RunsFile holds path words v text
  says_no line says Yes text this = absurd (let clash = this.0 in cc)
  says_no line says No text this = (script, at, subst (λ (t : List ℕ). SaysRefused holds words script.objects.items t) (sym this.1) says)
