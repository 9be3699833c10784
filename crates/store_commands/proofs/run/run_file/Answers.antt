use Rattle.std.proofs.Common.{◌∙◌, List, map, Ok, Err, ap, inr, subst, sym}
use Rattle.table_checker.specs.Checked.{Checked}
use Rattle.store_text.specs.declared.line.ObjectLine.{ObjectLine}
use Rattle.script_text.specs.declared.script.Script.{Script}
use Rattle.command_files.specs.declared.status.Verdict.{Verdict}
use Rattle.command_files.proofs.Comes.{comes_among}
use Rattle.store_files.specs.ObjectTypes.{AreTypesAt, FindsTypes, IsRefusedObject}
use Rattle.store_files.specs.Scripts.{DescribesScript, IsFaultyScript}
use Rattle.object_types.specs.Types.{value_of}
use Rattle.store_files.specs.declared.found_types.ObjectTypes.{ObjectTypes}
use Rattle.store_commands.specs.Runs.{BeginsRunFile, RunsFile, WritesRunFile}
use Rattle.store_commands.proofs.Files.{says_refused, without_types}
use Rattle.store_commands.proofs.Runs.{runs_file, says_no}
use Rattle.store_commands.proofs.run.run_file.Goals as goal

pub returns-in_err-types : goal.returns-in_err-types
returns-in_err-types g c =
    let objects : Script → List ObjectLine = λ s. s.objects.items in
    let words = map (λ p. p.now) c.args.types.now in
    let Finds : List ObjectLine → Type 0 = λ os. FindsTypes (g.S.Source.holds c.read_file.new.source) words os (Err c.in_err-types.field-0.0) in
    without_types DescribesScript IsFaultyScript objects (g.S.Source.holds c.args.source.now) (g.S.Source.holds c.read_file.new.source) c.in_ok-read.ensures.kept c.args.script.now words
    _ _ _ c.in_ok-read.read c.in_ok-read.ensures.reads c.from_residual-in_err-types.result c.in_err-types.field-0.0 _ c.from_residual-in_err-types.ensures.1
    (subst Finds c.deref.ensures.value c.in_err-types.ensures)

pub returns-in-Accepted : goal.returns-in-Accepted
returns-in-Accepted g c =
    let words = map (λ p. p.now) c.args.types.now in
    let later = g.S.Source.holds c.read_file.new.source in
    let Finds : ObjectTypes → Type 0 = λ t. FindsTypes later words c.deref.result.now (Ok t) in
    let At : List Checked → Type 0 = λ ts. AreTypesAt later words c.deref.result.now ts in
    let found : AreTypesAt later words c.deref.result.now (map value_of c.in-Accepted.types.items) = subst Finds c.in-Accepted.is c.in_ok-types.ensures in
    runs_file (g.S.Source.holds c.args.source.now) later c.in_ok-read.ensures.kept c.args.script.now words c.in_ok-read.read (c.in_ok-read.ensures.reads, c.in_ok-read.ensures.fit)
    c.deref.result.now (map value_of c.deref-in-Accepted.result.now) _ c.run_at.result _ _ c.deref.ensures.value
    (subst At (ap (map value_of) (sym c.deref-in-Accepted.ensures.value)) found) c.run_at.ensures

pub returns : goal.returns
returns g c =
    let words = map (λ p. p.now) c.args.types.now in
    let holds = g.S.Source.holds c.args.source.now in
    let later = g.S.Source.holds c.read_file.new.source in
    let objects : Script → List ObjectLine = λ s. s.objects.items in
    let Finds : ObjectTypes → Type 0 = λ t. FindsTypes later words c.deref.result.now (Ok t) in
    let Refused : List ObjectLine → Type 0 = λ os. IsRefusedObject later words os c.in-Refused.x c.in-Refused.refusal in
    let refused = subst Refused c.deref.ensures.value (subst Finds c.in-Refused.is c.in_ok-types.ensures) in
    let says = says_refused DescribesScript IsFaultyScript objects holds later c.in_ok-read.ensures.kept c.args.script.now words
    (WritesRunFile holds c.args.script.now words) (BeginsRunFile holds c.args.script.now words) (RunsFile holds c.args.script.now words)
    c.in_ok-read.read c.in_ok-read.ensures.reads c.in-Refused.x c.in-Refused.refusal c.as_bytes.result.now refused (c.as_bytes.ensures.value ∙ c.in_ok-line-in-Refused.ensures) in
    let no = says_no holds later c.in_ok-read.ensures.kept c.args.script.now words c.in_ok-read.read (c.in_ok-read.ensures.reads, c.in_ok-read.ensures.fit) c.as_bytes.result.now says in
    comes_among _ _ _ _ _ _ c.put_answer.result _ _ (λ v text this. inr (subst (λ (w : Verdict). RunsFile holds c.args.script.now words w text) this.0 (no v text this))) no (λ none. absurd none) c.put_answer.ensures.comes
