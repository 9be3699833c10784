-- The audit of what a file says.
use Rattle.std.proofs.Common.{◌≡◌, ◌∙◌, List, ℕ, map, Option, None, Some, IfSome, IfOk, Result, Ok, Err, subst, sym}
use Rattle.std.specs.declared.sync.Arc.{Arc}
use Rattle.type_table.specs.Table.{Table}
use Rattle.table_checker.specs.Checked.{Checked}
use Rattle.object_trait.specs.declared.event.Event.{Event}
use Rattle.object_types.specs.Types.{value_of}
use Rattle.event_text.specs.EventText.{events_of_kinds}
use Rattle.history_judge.specs.Audit as history
use Rattle.history_audit.specs.Text.{audit_text}
use Rattle.history_judge.specs.declared.outcome.Audit.{Audit}
use Rattle.history_judge.specs.declared.outcome.AuditFault.{AuditFault}
use Rattle.history_judge.specs.declared.outcome.AuditFault.TheVariants.{BadEvent, IllegalOp, NoMemory}
use Rattle.sqlite_trees.specs.Tree.{Trees}
use Rattle.journal.specs.declared.contents.FileContents.{FileContents}
use Rattle.journal.specs.Contents.{Contents}
use Rattle.journal.specs.Outcomes.{Outcomes}
use Rattle.journal.specs.Said.{contents, contents_beside}
use Rattle.durable_store.specs.Types.{HasTypes}
use Rattle.command_files.specs.declared.status.Verdict.{Verdict}
use Rattle.command_files.specs.declared.status.Verdict.TheVariants.{Yes, No}
use Rattle.store_commands.specs.StoreAudit.{table_of_checked}
use Rattle.store_commands.proofs.Passed.{tables_of_types}
use Rattle.database_commands.specs.Audited.{AuditsContents, IsAuditOfContents, IsVerdictOf, checked_tables}

-- the text of an audit is its lines
pub is_audit : {A : Type 0} (c : Contents) (types : List (Arc Checked A)) (happened : List Event) (outcome : Result Audit AuditFault) (lines : List ℕ) → HasTypes c (map value_of types)
    → happened ≡ events_of_kinds c.events → history.Audits (map table_of_checked types) happened outcome → lines ≡ audit_text outcome → IsAuditOfContents c outcome lines
is_audit c types happened outcome lines are same audits is = record {
  types = map value_of types;
  are = are;
  audits = subst (λ (es : List Event). history.Audits (checked_tables (map value_of types)) es outcome) same (subst (λ (ts : List Table). history.Audits ts happened outcome) (sym (tables_of_types types)) audits);
  is = is;
}

-- and its answer the verdict's
pub says : (c : Contents) (outcome : Result Audit AuditFault) (lines : List ℕ) → IsAuditOfContents c outcome lines → (v : Verdict) (text : List ℕ) → IsVerdictOf outcome v → text ≡ lines → AuditsContents c v text
says c (Ok audit) lines is Yes text of same = (audit, subst (λ (t : List ℕ). IsAuditOfContents c (Ok audit) t) (sym same) is)
says c (Ok audit) lines is No text of same = absurd of
says c (Err NoMemory) lines is Yes text of same = absurd of
says c (Err NoMemory) lines is No text of same = absurd of
says c (Err (BadEvent at)) lines is Yes text of same = absurd of
says c (Err (BadEvent at)) lines is No text of same =
    (BadEvent at, (λ clash. let c' = clash in cc), subst (λ (t : List ℕ). IsAuditOfContents c (Err (BadEvent at)) t) (sym same) is)
says c (Err (IllegalOp i x j)) lines is Yes text of same = absurd of
says c (Err (IllegalOp i x j)) lines is No text of same =
    (IllegalOp i x j, (λ clash. let c' = clash in cc), subst (λ (t : List ℕ). IsAuditOfContents c (Err (IllegalOp i x j)) t) (sym same) is)

-- what keys say is nothing to an audit
pub beside_keys : (outcomes : Outcomes) (said : FileContents) (v : Verdict) (text : List ℕ) → AuditsContents (contents said) v text → AuditsContents (contents_beside outcomes said) v text
beside_keys outcomes said Yes text told = (told.0, record { types = told.1.types; are = told.1.are; audits = told.1.audits; is = told.1.is })
beside_keys outcomes said No text told = (told.0, told.1, record { types = told.2.types; are = told.2.are; audits = told.2.audits; is = told.2.is })

-- so what is said of what a file says holds of the file
pub told_beside : {T E : Type 0} (r : Result T E) (clean : Type 0) (c d : Contents) (said : FileContents) (verdict : T → Verdict) (text : T → List ℕ) → (clean → d ≡ contents_beside d.outcomes said) → (clean → d ≡ c)
    → IfOk r (λ x. AuditsContents (contents said) (verdict x) (text x)) → IfOk r (λ x. clean → AuditsContents c (verdict x) (text x))
told_beside (Ok x) clean c d said verdict text is same told = λ now. subst (λ (f : Contents). AuditsContents f (verdict x) (text x)) (sym (is now) ∙ same now) (beside_keys d.outcomes said (verdict x) (text x) told)
told_beside (Err e) clean c d said verdict text is same told = tt

-- of what is held a fact holds that holds of what was opened
pub of_held : (held : Option Trees) (opened : Trees) (P : Trees → Type 0) → IfSome held (λ db. opened ≡ db) → P opened → IfSome held P
of_held None opened P same is = tt
of_held (Some db) opened P same is = subst P same is

-- what is said of trees that were opened, and come back and are closed, holds of what is held
pub told : {T E : Type 0} (r : Result T E) (clean back opened is_open : Type 0) (held : Option Trees) (trees : Trees) (P : T → Trees → Type 0) → (clean → back) → IfOk r (λ x. back → opened)
    → IfOk r (λ x. back → is_open) → (opened → is_open → IfSome held (λ db. trees ≡ db)) → IfOk r (λ x. back → P x trees) → IfOk r (λ x. clean → IfSome held (P x))
told (Ok x) clean back opened is_open held trees P closes cleans opens holds says = λ is. let b = closes is in of_held held trees (P x) (holds (cleans b) (opens b)) (says b)
told (Err e) clean back opened is_open held trees P closes cleans opens holds says = tt

-- what is said of an audit that has a verdict
pub told_of : {T E : Type 0} (r : Result T E) (c : Contents) (outcome : Result Audit AuditFault) (lines : List ℕ) (verdict : T → Verdict) (text : T → List ℕ) → IsAuditOfContents c outcome lines
    → IfOk r (λ x. IsVerdictOf outcome (verdict x)) → IfOk r (λ x. text x ≡ lines) → IfOk r (λ x. AuditsContents c (verdict x) (text x))
told_of (Ok x) c outcome lines verdict text is of same = says c outcome lines is (verdict x) (text x) of same
told_of (Err e) c outcome lines verdict text is of same = tt
