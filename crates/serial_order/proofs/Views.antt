-- In a run, what each open transaction sees is legal, and stays so by a commit.
use Rattle.std.proofs.Common.{◌≡◌, ℕ, List, [], ◌∷◌, ◌++◌, Some, slice_get, true, false, ◌==◌, ◌⊎◌, inl, inr, ⊎_elim, refl, sym, subst}
use Rattle.std.proofs.Math.Bool.{or-false}
use Rattle.std.proofs.lemmas.List.{append-nil}
use Rattle.type_table.specs.Laws.{RunsAlong, EndsInside, LegalEnds}
use Rattle.type_table.specs.declared.kind.Kind.{Kind}
use Rattle.type_table.specs.declared.kind.Kind.TheVariants.{Undo, Intentions, Escrow}
use Rattle.type_table.specs.Lists.{ListsForward}
use Rattle.type_table.proofs.Elements.{eqb-sym}
use Rattle.object_trait.specs.Object.{Object}
use Rattle.object_trait.specs.Laws.{PartsSort, StruckPart, SortsLook}
use Rattle.object_trait.specs.declared.event.Event.{Event}
use Rattle.object_trait.specs.declared.event.EventKind.TheVariants.{Commit}
use Rattle.serial_order.specs.Operations.{is_among, ops, of, serial}
use Rattle.serial_order.specs.History.{Summary, summary, is_open, commits as commits_of}
use Rattle.escrow_laws.specs.Laws.{FreshIsFirm, FirmAfterApply, FirmAfterCommit, FirmAfterStrike, FirmIsLegal, NothingKeeps}
use Rattle.serial_order.specs.View.{view, is_legal_after, own_at}
use Rattle.serial_order.specs.Machine.{IsRun, AreCovered}
use Rattle.serial_order.specs.Serial.{surviving_at}
use Rattle.serial_order.specs.Laws.{ViewsAreLegal, CommitKeepsViews}
use Rattle.serial_order.specs.declared.entry.Entry.{Entry}
use Rattle.serial_order.proofs.Facts.{DeferredFacts, IsLegalAt, free_deferred}
use Rattle.serial_order.proofs.Lists.{is_among-snoc}
use Rattle.serial_order.proofs.Events.{summary_after, summary-snoc}
use Rattle.serial_order.proofs.Runs.{open_is_uncommitted}
use Rattle.serial_order.proofs.Histories.{run_goes_on}
use Rattle.serial_order.proofs.Deferred.{deferred_op, deferred_strike, deferred_commit}
use Rattle.serial_order.proofs.Escrow.{EscrowFacts, escrow_op, escrow_strike, escrow_commit, escrow_view}
use Rattle.serial_order.proofs.AtObjects.{at_object_in_run}
use Rattle.serial_order.proofs.CommitOrder.{undo_in_run}

-- a way is one of the three
pub by_kind : (kind : Kind) → (kind ≡ Undo) ⊎ ((kind ≡ Intentions) ⊎ (kind ≡ Escrow))
by_kind Undo = inl refl
by_kind Intentions = inr (inl refl)
by_kind Escrow = inr (inr refl)

module _ (along : RunsAlong) (inside : EndsInside) (ends : LegalEnds) (forward : ListsForward) where
  -- in a run, the facts of deferred update
  pub deferred_in_run : (objects : List Object) (H : List Event) (x : ℕ) (o : Object) → AreCovered objects → IsRun objects H
      → slice_get objects x ≡ Some o → o.kind ≡ Intentions → DeferredFacts o (commits_of H) (surviving_at x H)
  deferred_in_run objects H x o covered run there deferred =
      at_object_in_run objects x o there (λ C V e. IsLegalAt o (ops (serial C V ++ of e.by V) ++ e.op ∷ [])) (DeferredFacts o)
      (record {
        op = λ C V e free legal facts. deferred_op o C V e (covered x o there) deferred (free_deferred o C V e deferred free) legal facts;
        strike = λ C V t n apart facts. deferred_strike o C V t n (covered x o there) deferred apart facts;
        commit = λ C V t apart facts. deferred_commit along inside ends forward o C V t (covered x o there) deferred apart facts;
      })
      (λ s t k legal. subst (λ (by : Kind). is_legal_after o (view by s x t) k ≡ true) deferred legal)
      (record { locked = tt; serial_legal = refl; views_legal = λ t apart. refl }) H run

module _ (along : RunsAlong) (ends : LegalEnds) (apply : FirmAfterApply) (commits : FirmAfterCommit) (strikes : FirmAfterStrike) (nothing : NothingKeeps) (firm_legal : FirmIsLegal) (fresh : FreshIsFirm) where
  -- in a run, the facts of escrow
  pub escrow_in_run : (objects : List Object) (H : List Event) (x : ℕ) (o : Object) → AreCovered objects → IsRun objects H
      → slice_get objects x ≡ Some o → o.kind ≡ Escrow → EscrowFacts o (commits_of H) (surviving_at x H)
  escrow_in_run objects H x o covered run there escrow =
      at_object_in_run objects x o there (λ C V e. IsLegalAt o (ops (serial C V ++ of e.by V) ++ e.op ∷ [])) (EscrowFacts o)
      (record {
        op = λ C V e admitted legal facts. escrow_op along apply strikes nothing o C V e (covered x o there) escrow admitted legal facts;
        strike = λ C V t n apart facts. escrow_strike strikes o C V t n apart facts;
        commit = λ C V t apart facts. escrow_commit along ends commits firm_legal o C V t (covered x o there) escrow apart facts;
      })
      (λ s t k legal. subst (λ (by : Kind). is_legal_after o (view by s x t) k ≡ true) escrow legal)
      (record { base = o.table.initial; reached = refl; firm = fresh o.table o.amounts o.table.initial (own_at [] []) (λ u. refl) }) H run

-- after a commit every other open transaction is open
still_open : (s : Summary) (t u : ℕ) → (u == t) ≡ false → is_open s u ≡ true → is_open (summary_after s (Commit t)) u ≡ true
still_open s t u other open_now =
    rw (is_among-snoc s.committed t u, eqb-sym t u, other, or-false (is_among s.committed u), append-nil s.aborted) open_now

module _ (along : RunsAlong) (inside : EndsInside) (ends : LegalEnds) (parts : PartsSort Entry) (struck : StruckPart Entry) (look : SortsLook Entry) (forward : ListsForward)
    (apply : FirmAfterApply) (commits : FirmAfterCommit) (strikes : FirmAfterStrike) (nothing : NothingKeeps) (firm_legal : FirmIsLegal) (fresh : FreshIsFirm) where
  -- what each open transaction sees is legal
  pub views_are_legal : ViewsAreLegal
  views_are_legal objects H x o t covered run there open_now =
      let seen_legal : Kind → Type 0 = λ kind. IsLegalAt o (ops (view kind (summary H) x t)) in
      ⊎_elim
      (λ (undo : o.kind ≡ Undo). subst seen_legal (sym undo) (undo_in_run along parts struck look objects H x o covered run there undo).legal)
      (⊎_elim
      (λ (deferred : o.kind ≡ Intentions). subst seen_legal (sym deferred)
      ((deferred_in_run along inside ends forward objects H x o covered run there deferred).views_legal t (open_is_uncommitted (summary H) t open_now)))
      (λ (escrow : o.kind ≡ Escrow). subst seen_legal (sym escrow)
      (escrow_view along firm_legal o (commits_of H) (surviving_at x H) t (open_is_uncommitted (summary H) t open_now)
      (escrow_in_run along ends apply commits strikes nothing firm_legal fresh objects H x o covered run there escrow))))
      (by_kind o.kind)

-- and stays so by a commit
pub commit_keeps_views : ViewsAreLegal → CommitKeepsViews
commit_keeps_views legal objects H x o w t u covered run there open_now other_open other =
    let e : Event = record { worker = w; kind = Commit t } in
    legal objects (H ++ e ∷ []) x o u covered (run_goes_on objects H e run open_now) there
    (subst (λ (s : Summary). is_open s u ≡ true) (sym (summary-snoc H e)) (still_open (summary H) t u other other_open))
