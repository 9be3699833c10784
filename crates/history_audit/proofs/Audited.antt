-- One more event of an audit: what a judge hands out is run behind what was committed before.
use Rattle.std.proofs.Common.{◌≡◌, ℕ, ◌+◌, List, [], ◌∷◌, ◌++◌, map, take, Option, Some, None, Result, Ok, Err, MatchOption, IfOk, refl, sym, ap, subst, ◌∙◌, append-nil}
use Rattle.std.specs.Result.{IsOkAnd}
use Rattle.std.proofs.lemmas.Option.{none-some, same_Some}
use Rattle.type_table.specs.Table.{Table}
use Rattle.type_table.specs.Laws.{RunsAlong}
use Rattle.type_table.proofs.Elements.{take-found}
use Rattle.object_trait.specs.declared.event.Event.{Event}
use Rattle.object_trait.specs.declared.event.EventKind.{EventKind}
use Rattle.object_trait.specs.declared.event.EventKind.TheVariants as kind
use Rattle.object_trait.specs.declared.event.EventKind.TheVariants.{Begin, Op, Busy, Commit, Abort, Rollback}
use Rattle.serial_order.specs.Operations.{of}
use Rattle.serial_order.specs.History.{Summary, summary, commits, committed_by, surviving, IsHistory}
use Rattle.serial_order.specs.After.{summary_next, SummaryAfter}
use Rattle.serial_order.specs.Held.{OwnAfter}
use Rattle.history_judge.specs.Judged.{IsHanded, StopsJudge, committed_as}
use Rattle.history_judge.specs.Rows.{executed_of, operations_of}
use Rattle.history_judge.specs.declared.committed.Committed.{Committed}
use Rattle.history_judge.specs.Audit.{Audits}
use Rattle.history_judge.specs.Replay.{AreStates}
use Rattle.history_judge.specs.SerialRun.{AreInitial, IsSerialRunOf, RunsTo, ReplaysFrom}
use Rattle.history_audit.specs.Auditor.{IsAuditing}
use Rattle.history_audit.specs.declared.auditor.Auditor.{Auditor}
use Rattle.history_judge.specs.declared.serial_run.Illegal.{Illegal}
use Rattle.history_judge.specs.declared.serial_run.SerialRun.{SerialRun}
use Rattle.history_judge.specs.declared.outcome.Audit.{Audit}
use Rattle.history_judge.specs.declared.outcome.AuditFault.{AuditFault}
use Rattle.history_judge.specs.declared.outcome.AuditFault.TheVariants.{BadEvent, IllegalOp, NoMemory}
use Rattle.history_audit.proofs.RunOn.{run-taken}
use Rattle.history_judge.proofs.Kept.{KeepsCommitted, keeps-committed, run-kept}

-- ---- before the first event

pub nothing-run : (tables : List Table) (H : List Event) (r : SerialRun) → AreInitial tables r.states.items → r.order.items ≡ [] → r.illegal ≡ None → IsSerialRunOf tables H [] r
nothing-run tables H r initial order illegal = record {
  ready = initial.ready;
  order = λ none. order;
  leads = rw illegal (record { as_many = initial.ready.as_many; states = λ x T s table at. ap Some (sym (initial.initial x T s table at)) });
}

-- ---- one more event

-- only a commit hands out a transaction
pub commit-of : (happened : EventKind) (s : Summary) (done : Committed) → Some done ≡ committed_as happened s → (happened ≡ Commit done.number) × (done.operations ≡ operations_of done.number s)
commit-of (Commit t) s done is =
    let same : done ≡ record { number = t; operations = operations_of t s } = same_Some done (record { number = t; operations = operations_of t s }) is in
    (ap (λ (c : Committed). Commit c.number) (sym same), rw same refl)
commit-of (Begin t) s done is = absurd (none-some done (sym is))
commit-of (Op k t x) s done is = absurd (none-some done (sym is))
commit-of (Busy c t x u) s done is = absurd (none-some done (sym is))
commit-of (kind.None t x c) s done is = absurd (none-some done (sym is))
commit-of (Abort t) s done is = absurd (none-some done (sym is))
commit-of (Rollback t n) s done is = absurd (none-some done (sym is))

-- where none is handed out, none commits
pub none-of : (happened : EventKind) (s : Summary) → None ≡ committed_as happened s → committed_by happened ≡ []
none-of (Commit t) s is = absurd (none-some (record { number = t; operations = operations_of t s }) is)
none-of (Begin t) s is = refl
none-of (Op k t x) s is = refl
none-of (Busy c t x u) s is = refl
none-of (kind.None t x c) s is = refl
none-of (Abort t) s is = refl
none-of (Rollback t n) s is = refl

module _ (summary_after : SummaryAfter) (own_after : OwnAfter) (tables : List Table) (events : List Event) (at : ℕ) where
  -- what committed before it has the operations that it had
  pub kept-at : (what : Option Committed) → (handed : IsHanded tables events at what) → KeepsCommitted (take at events) (take (at + 1) events) (committed_by handed.event.kind)
  kept-at what handed =
      let P : List Event → Type 0 = λ K. KeepsCommitted (take at events) K (committed_by handed.event.kind) in
      subst P (sym (take-found events at handed.event handed.here)) (keeps-committed summary_after own_after tables (take at events) handed.event handed.may)

  -- it commits none
  pub other-run : (r : SerialRun) → IsSerialRunOf tables (take at events) (commits (take at events)) r → IsHanded tables events at None
      → IsSerialRunOf tables (take (at + 1) events) (commits (take (at + 1) events)) r
  other-run r known handed =
      let kept = kept-at None handed in
      let none = none-of handed.event.kind (summary (take at events)) handed.is in
      let P : List ℕ → Type 0 = λ ts. IsSerialRunOf tables (take (at + 1) events) ts r in
      subst P (sym (kept.commits_are ∙ ap (λ more. commits (take at events) ++ more) none ∙ append-nil (commits (take at events))))
      (run-kept (take at events) (take (at + 1) events) (committed_by handed.event.kind) kept tables r known)

  -- it commits one, whose operations live on
  pub lives-on : (done : Committed) → IsHanded tables events at (Some done) → done.operations ≡ operations_of done.number (summary (take (at + 1) events))
  lives-on done handed =
      let (is, are) = commit-of handed.event.kind (summary (take at events)) done handed.is in
      let same : surviving (take at events ++ handed.event ∷ []) ≡ surviving (take at events) =
      ap (λ (s : Summary). s.survives) (summary_after (take at events) handed.event) ∙ ap (λ happened. (summary_next (summary (take at events)) happened).survives) is in
      are ∙ ap (λ V. map executed_of (of done.number V)) (sym same ∙ ap surviving (sym (take-found events at handed.event handed.here)))

  -- which is run behind the others
  pub commit-run : RunsAlong → (done : Committed) (old new : SerialRun) → IsSerialRunOf tables (take at events) (commits (take at events)) old → IsHanded tables events at (Some done)
      → AreStates tables new.states.items → ReplaysFrom old.illegal tables done.number done.operations old new
      → IsSerialRunOf tables (take (at + 1) events) (commits (take (at + 1) events)) new
  commit-run along done old new known handed ready replays =
      let kept = kept-at (Some done) handed in
      let (is, are) = commit-of handed.event.kind (summary (take at events)) done handed.is in
      let P : List ℕ → Type 0 = λ ts. IsSerialRunOf tables (take (at + 1) events) ts new in
      subst P (sym (kept.commits_are ∙ ap (λ happened. commits (take at events) ++ committed_by happened) is))
      (run-taken along tables (take (at + 1) events) (commits (take at events)) done.number done.operations (lives-on done handed) old new
      (run-kept (take at events) (take (at + 1) events) (committed_by handed.event.kind) kept tables old known) ready replays)

-- where the judge stops, so does the audit
pub stops : (tables : List Table) (events : List Event) (fault : AuditFault) → StopsJudge tables events fault → Audits tables events (Err fault)
stops tables events (BadEvent at) stopped = stopped
stops tables events (IllegalOp i x j) stopped = absurd stopped
stops tables events NoMemory stopped = tt

-- ---- after the last event

-- what a run of all of them answers
abbrev pub Concludes : Option Illegal → List ℕ → List ℕ → Result Audit AuditFault → Type 0
Concludes illegal order states result =
    MatchOption illegal (IsOkAnd result (λ a. (a.order.items ≡ order) × (a.finals.items ≡ states))) (λ p. result ≡ Err (IllegalOp p.commit_index p.object p.op_index))

said-at_last : (tables : List Table) (H : List Event) (order states : List ℕ) (illegal : Option Illegal) (result : Result Audit AuditFault)
    → IsHistory tables H → (illegal ≡ None → order ≡ commits H) → RunsTo tables H (commits H) states illegal → Concludes illegal order states result → Audits tables H result
said-at_last tables H order states None (Ok a) history is leads said = (history, record { order_is = said.0 ∙ is refl; leads = rw said.1 leads })
said-at_last tables H order states None (Err fault) history is leads said = absurd said
said-at_last tables H order states (Some p) result history is leads said =
    let P : Result Audit AuditFault → Type 0 = λ r. Audits tables H r in
    subst P (sym said) (history, leads)

pub outcome-audited : (tables : List Table) (H : List Event) (a : Auditor) (result : Result Audit AuditFault) → IsAuditing tables H a
    → Concludes a.serial.illegal a.serial.order.items a.serial.states.items result → Audits tables H result
outcome-audited tables H a result known said =
    said-at_last tables H a.serial.order.items a.serial.states.items a.serial.illegal result known.judged.history known.serial.order known.serial.leads said

-- the states of a yes are those that were kept
ready-at_last : (tables : List Table) (order states : List ℕ) (illegal : Option Illegal) (result : Result Audit AuditFault) → AreStates tables states
    → Concludes illegal order states result → IfOk result (λ a. AreStates tables a.finals.items)
ready-at_last tables order states None (Ok a) ready said = rw said.1 ready
ready-at_last tables order states None (Err fault) ready said = absurd said
ready-at_last tables order states (Some p) result ready said =
    let P : Result Audit AuditFault → Type 0 = λ r. IfOk r (λ a. AreStates tables a.finals.items) in
    subst P (sym said) tt

pub outcome-ready : (tables : List Table) (r : SerialRun) (result : Result Audit AuditFault) → AreStates tables r.states.items
    → Concludes r.illegal r.order.items r.states.items result → IfOk result (λ a. AreStates tables a.finals.items)
outcome-ready tables r result ready said = ready-at_last tables r.order.items r.states.items r.illegal result ready said
