-- How an event is judged, by the row of its transaction.
use Rattle.std.proofs.Common.{◌≡◌, ℕ, ◌-◌, ◌<◌, ◌≤◌, true, List, [], ◌∷◌, ◌++◌, length, take, set, Option, Some, None, is_some, Result, Ok, Err, slice_get, refl, sym, ap, subst, ◌∙◌, arith}
use Rattle.std.proofs.lemmas.Bool.{false≢true}
use Rattle.std.proofs.lemmas.List.{length-map}
use Rattle.std.proofs.lemmas.Option.{slice_get-get_or}
use Rattle.type_table.specs.Table.{Table}
use Rattle.object_trait.specs.declared.event.EventKind.{EventKind}
use Rattle.object_trait.specs.declared.event.EventKind.TheVariants as kind
use Rattle.object_trait.specs.declared.event.EventKind.TheVariants.{Begin, Op, Busy, Commit, Abort, Rollback}
use Rattle.open_transactions.specs.Transactions as table
use Rattle.open_transactions.specs.Transactions.{row}
use Rattle.open_transactions.proofs.InSlots.{open-began}
use Rattle.serial_order.specs.Operations.{of}
use Rattle.serial_order.specs.History.{Summary, summary, is_open, IsOperation, IsOperationPlace, ContinuesHistory}
use Rattle.history_judge.specs.declared.event_fault.EventFault.{EventFault}
use Rattle.history_judge.specs.declared.event_fault.EventFault.TheVariants.{Bad}
use Rattle.history_judge.specs.declared.executed.Executed.{Executed}
use Rattle.history_judge.specs.Rows.{executed_of, operations_of, AreRowsOf, committed_in}
use Rattle.history_judge.specs.Moves.{RowsMove, MovedRowsAgree}
use Rattle.history_judge.specs.Slots.{its_of}
use Rattle.history_judge.specs.Judges.{Judges, Takes, handed}

-- the row of an open transaction is that of its operations
pub there : (rows shown : List (Option (List Executed))) (t : ℕ) → rows ≡ shown → table.has_row rows t ≡ true → slice_get shown t ≡ Some (Some (its_of (row rows t)))
there rows shown t shown_is opened =
    ap (λ rs. slice_get rs t) (sym shown_is) ∙ slice_get-get_or rows t None (open-began rows t opened) ∙ ap Some (some_row (row rows t) opened)
  where
    some_row : (its : Option (List Executed)) → is_some its ≡ true → its ≡ Some (its_of its)
    some_row None is = absurd (false≢true is)
    some_row (Some its) is = refl

-- ---- one row that agrees with what is seen

module _ (rows : List (Option (List Executed))) (s : Summary) (t : ℕ) (known : AreRowsOf rows s) where
  -- a transaction with a row is open
  opened : (its : List Executed) → slice_get rows t ≡ Some (Some its) → is_open s t ≡ true
  opened its there = sym (known.each t (Some its) there).going

  -- and its row has its operations
  operations : (its : List Executed) → slice_get rows t ≡ Some (Some its) → its ≡ operations_of t s
  operations its there = (known.each t (Some its) there).operations its refl

  -- as many as there are
  counted : (its : List Executed) → slice_get rows t ≡ Some (Some its) → length its ≡ length (of t s.survives)
  counted its there = ap length (operations its there) ∙ length-map (of t s.survives) executed_of

  -- one without isn't
  closed : slice_get rows t ≡ Some None → is_open s t ≡ true → ⊥
  closed there open_now = false≢true ((known.each t None there).going ∙ open_now)

-- ---- events that are taken

module _ (law : MovedRowsAgree) (tables : List Table) (old new : List (Option (List Executed))) where
  -- what continues the history wherever the rows agree, and moves them as it should
  taken : (event : EventKind) (its : Option (List Executed)) → ((s : Summary) → AreRowsOf old s → ContinuesHistory tables s event × (its ≡ committed_in event s))
      → RowsMove event old new → Judges tables old event (Ok its) new
  taken event its fits move =
      λ H w known.
      let f = fits (summary H) known in
      (f.0, law tables H (record { worker = w; kind = event }) old new known f.0 move, f.1)

  pub begin_judged : (t : ℕ) → t ≡ length old → new ≡ old ++ Some [] ∷ [] → Judges tables old (Begin t) (Ok None) new
  begin_judged t next becomes = taken (Begin t) None (λ s known. (next ∙ known.begun, refl)) becomes

  pub begin_taken : (t : ℕ) → t ≡ length old → new ≡ old ++ Some [] ∷ [] → Takes tables old (Begin t) (Ok tt) new
  begin_taken t next becomes = (None, begin_judged t next becomes)

  module _ (t : ℕ) (its : List Executed) (there : slice_get old t ≡ Some (Some its)) where
    pub op_taken : (x k : ℕ) → IsOperation (slice_get tables x) k → new ≡ set old t (Some (its ++ (record { x = x; k = k }) ∷ []))
        → Takes tables old (Op k t x) (Ok tt) new
    op_taken x k operation becomes =
        (None, taken (Op k t x) None (λ s known. ((opened old s t known its there, operation), refl)) record { its = its; was = there; becomes = becomes })

    pub busy_taken : (c x u : ℕ) → IsOperationPlace (slice_get tables x) c → new ≡ old → Takes tables old (Busy c t x u) (Ok tt) new
    busy_taken c x u place same = (None, taken (Busy c t x u) None (λ s known. ((opened old s t known its there, place), refl)) same)

    pub none_taken : (x c : ℕ) → IsOperationPlace (slice_get tables x) c → new ≡ old → Takes tables old (kind.None t x c) (Ok tt) new
    none_taken x c place same = (None, taken (kind.None t x c) None (λ s known. ((opened old s t known its there, place), refl)) same)

    pub commit_taken : new ≡ set old t None → Judges tables old (Commit t) (Ok (Some its)) new
    commit_taken becomes =
        taken (Commit t) (Some its) (λ s known. (opened old s t known its there, ap (λ those. Some those) (operations old s t known its there)))
        record { its = its; was = there; becomes = becomes }

    pub abort_taken : new ≡ set old t None → Takes tables old (Abort t) (Ok tt) new
    abort_taken becomes = (None, taken (Abort t) None (λ s known. (opened old s t known its there, refl)) record { its = its; was = there; becomes = becomes })

    pub rollback_judged : (n : ℕ) → 0 < n → n ≤ length its → new ≡ set old t (Some (take (length its - n) its)) → Judges tables old (Rollback t n) (Ok None) new
    rollback_judged n some few becomes =
        taken (Rollback t n) None
        (λ s known. ((opened old s t known its there, some, (let count = counted old s t known its there in omega (arith, count, few))), refl))
        record { its = its; was = there; becomes = becomes }

    pub rollback_taken : (n : ℕ) → 0 < n → n ≤ length its → new ≡ set old t (Some (take (length its - n) its)) → Takes tables old (Rollback t n) (Ok tt) new
    rollback_taken n some few becomes = (None, rollback_judged n some few becomes)

-- ---- events that are bad

module _ (tables : List Table) (old new : List (Option (List Executed))) (t : ℕ) where
  -- those of a transaction that ended
  module _ (there : slice_get old t ≡ Some None) where
    pub op_closed : (x k : ℕ) → Judges tables old (Op k t x) (Err Bad) new
    op_closed x k = λ H known may. closed old (summary H) t known there may.0

    pub busy_closed : (c x u : ℕ) → Judges tables old (Busy c t x u) (Err Bad) new
    busy_closed c x u = λ H known may. closed old (summary H) t known there may.0

    pub none_closed : (x c : ℕ) → Judges tables old (kind.None t x c) (Err Bad) new
    none_closed x c = λ H known may. closed old (summary H) t known there may.0

    pub commit_closed : Judges tables old (Commit t) (Err Bad) new
    commit_closed = λ H known may. closed old (summary H) t known there may

    pub abort_closed : Judges tables old (Abort t) (Err Bad) new
    abort_closed = λ H known may. closed old (summary H) t known there may

    pub rollback_closed : (n : ℕ) → Judges tables old (Rollback t n) (Err Bad) new
    rollback_closed n = λ H known may. closed old (summary H) t known there may.0

  -- a rollback of none, or of more than there are
  pub rollback_outside : (n : ℕ) (its : List Executed) → slice_get old t ≡ Some (Some its) → (0 < n → n ≤ length its → ⊥) → Judges tables old (Rollback t n) (Err Bad) new
  rollback_outside n its there outside =
      λ H known may.
      let count = counted old (summary H) t known its there in
      let few = may.2 in
      outside may.1 (omega (arith, count, few))

-- ---- commits

module _ (tables : List Table) (old new : List (Option (List Executed))) (event : EventKind) (t : ℕ) (is : event ≡ Commit t) (result : Result (List Executed) EventFault)
    (judged : Judges tables old (Commit t) (handed result) new) where
  -- what a commit hands out is let go
  pub commit_passed : (its : List Executed) (passed : Result (Unit {0}) EventFault) → result ≡ Ok its → passed ≡ Ok tt → Takes tables old event passed new
  commit_passed its passed handed_is passed_is =
      let P : Result (List Executed) EventFault → Type 0 = λ r. Judges tables old (Commit t) (handed r) new in
      rw (is, passed_is) (Some its, subst P handed_is judged)

  -- or it isn't taken
  pub commit_failed : (fault : EventFault) (passed : Result (Unit {0}) EventFault) → result ≡ Err fault → passed ≡ Err fault → Takes tables old event passed new
  commit_failed fault passed handed_is passed_is =
      let P : Result (List Executed) EventFault → Type 0 = λ r. Judges tables old (Commit t) (handed r) new in
      rw (is, passed_is) (subst P handed_is judged)
