-- At one object: what carried transactions did is legal from the committed state, and agrees with what they saw.
use Rattle.std.proofs.Common.{◌≡◌, ℕ, false, not, ◌||◌, List, [], ◌++◌, filter, Some, sym, ap, ◌∙◌, subst, inl, inr, append-nil}
use Rattle.std.proofs.lemmas.Bool.{cases_Bool, eqb-true}
use Rattle.std.proofs.lemmas.Option.{same_Some}
use Rattle.type_table.specs.Commute.{Covers}
use Rattle.type_table.specs.Run.{run, IsLegal, Looks, AreEqui}
use Rattle.type_table.specs.Laws.{RunsAlong}
use Rattle.type_table.specs.declared.table_kind.TableKind.TheVariants as table
use Rattle.type_table.specs.declared.kind.Kind.TheVariants.{Undo, Intentions, Escrow}
use Rattle.type_table.proofs.Legal.{legal-front, equi-turned}
use Rattle.escrow_laws.specs.Laws.{FirmIsSafe, FirmAfterStrike}
use Rattle.escrow_laws.specs.Safe.{IsSafe}
use Rattle.object_trait.specs.Object.{Object, IsCovered, IsCoveredStrongly}
use Rattle.object_trait.specs.Laws.{PartsSort, SortsLook, SortsEqui}
use Rattle.serial_order.specs.Operations.{is_among, is_by, ops, of, serial}
use Rattle.serial_order.specs.View.{own_at}
use Rattle.serial_order.specs.Laws.{may_pass}
use Rattle.serial_order.specs.declared.entry.Entry.{Entry}
use Rattle.serial_order.proofs.Facts.{IsLegalAt, UndoFacts}
use Rattle.serial_order.proofs.Escrow.{EscrowFacts, covers_escrow}
use Rattle.serial_order.proofs.Legal.{run-append, run-equi}
use Rattle.serial_order.proofs.Lists.{ops-append, of-pending, is_among-apart}
use Rattle.serial_order.proofs.Pairs.{each-all}
use Rattle.type_table.proofs.Elements.{mine-within, filter-none, each-passes}
use Rattle.serial_order.proofs.Undo.{passes-commute}
use Rattle.committed_states.specs.Committed.{of_these, IsCommittedBy}
use Rattle.serial_order.proofs.Kept.{passes_both_ways}
use Rattle.carried_runs.specs.Views.{of_either}
use Rattle.carried_runs.proofs.Leaving.{AreOutside, others-leave, carried-follow}

-- ---- update in place

module _ (along : RunsAlong) (parts : PartsSort Entry) (look : SortsLook Entry) (o : Object) (covers : Covers table.Undo o.table o.set o.conflicts) (C P : List ℕ) (V : List Entry)
    (outside : AreOutside C P) (facts : UndoFacts o C V) (s : ℕ) (left : IsCommittedBy Undo o s C V) where
  -- what the carried ones saw with the others aborted is legal
  pub too_legal : IsLegalAt o (ops (of_either C P V))
  too_legal =
      let rest : List Entry = filter (λ e. not (is_among C e.by || is_among P e.by)) V in
      let looks = look o.table o.set (λ e. e.op) (may_pass o) o.table.initial V (of_either C P V ++ rest) covers.closed covers.begins_inside (passes-commute o covers)
      (others-leave parts o C P V outside facts.locked) facts.legal in
      legal-front o.table (Some o.table.initial) (ops (of_either C P V)) (ops rest) (rw (ops-append (of_either C P V) rest) at looks.0)

  -- after the committed ones in place of between them
  followed : IsLegalAt o (ops (of_these C V ++ of_these P V)) × Looks o.table (run o.table (Some o.table.initial) (ops (of_either C P V))) (run o.table (Some o.table.initial) (ops (of_these C V ++ of_these P V)))
  followed = look o.table o.set (λ e. e.op) (may_pass o) o.table.initial (of_either C P V) (of_these C V ++ of_these P V) covers.closed covers.begins_inside (passes-commute o covers)
      (carried-follow parts o C P V outside facts.locked) too_legal

  -- which is from the committed state
  from_left : run o.table (Some o.table.initial) (ops (of_these C V ++ of_these P V)) ≡ run o.table (Some s) (ops (of_these P V))
  from_left = run-append along o.table (Some o.table.initial) (of_these C V) (of_these P V) ∙ ap (λ from. run o.table from (ops (of_these P V))) left

  pub undo_legal : IsLegal o.table (Some s) (ops (of_these P V))
  undo_legal = rw from_left at followed.0

  pub undo_sees : Looks o.table (run o.table (Some o.table.initial) (ops (of_either C P V))) (run o.table (Some s) (ops (of_these P V)))
  undo_sees = rw from_left at followed.1

  pub undo_sees_strongly : SortsEqui Entry → IsCoveredStrongly o → o.kind ≡ Undo →
      AreEqui o.table (run o.table (Some o.table.initial) (ops (of_either C P V))) (run o.table (Some s) (ops (of_these P V)))
  undo_sees_strongly equi strong kind =
      rw from_left at (equi o.table o.set (λ e. e.op) (may_pass o) o.table.initial (of_either C P V) (of_these C V ++ of_these P V)
      covers.closed covers.begins_inside (passes_both_ways o strong kind) (carried-follow parts o C P V outside facts.locked) too_legal).1

-- ---- deferred update

module _ (along : RunsAlong) (o : Object) (C : List ℕ) (V : List Entry) (s t : ℕ) (left : IsCommittedBy Intentions o s C V) where
  pub deferred_sees : AreEqui o.table (run o.table (Some o.table.initial) (ops (serial C V ++ of t V))) (run o.table (Some s) (ops (of t V)))
  deferred_sees = rw (run-append along o.table (Some o.table.initial) (serial C V) (of t V))
      (equi-turned o.table _ _ (run-equi along o.table (Some s) (run o.table (Some o.table.initial) (ops (serial C V))) (ops (of t V)) left))

  pub deferred_legal : IsLegalAt o (ops (serial C V ++ of t V)) → IsLegal o.table (Some s) (ops (of t V))
  deferred_legal legal =
      let behind = rw (run-append along o.table (Some o.table.initial) (serial C V) (of t V)) at legal in
      left.1 (ops (of t V)) behind

-- ---- escrow

module _ (along : RunsAlong) (o : Object) (C : List ℕ) (V : List Entry) (s t : ℕ) (left : IsCommittedBy Escrow o s C V) where
  pub escrow_sees : run o.table (Some o.table.initial) (ops (serial C V ++ of t V)) ≡ run o.table (Some s) (ops (of t V))
  escrow_sees = run-append along o.table (Some o.table.initial) (serial C V) (of t V) ∙ ap (λ from. run o.table from (ops (of t V))) left

  pub escrow_legal : IsLegalAt o (ops (serial C V ++ of t V)) → IsLegal o.table (Some s) (ops (of t V))
  escrow_legal legal = rw escrow_sees at legal

-- what the carried ones did, where they are of no committed transaction
own-chosen : (C P : List ℕ) (V : List Entry) → AreOutside C P → (u : ℕ) → (struck : List ℕ) × (own_at C V u ≡ ops (of u (of_these P V)) ++ struck)
own-chosen C P V outside u =
    elim (cases_Bool (is_among P u)) [
      | inl inside ↦ (
        [],
        ap ops (of-pending C u V (outside u inside) ∙ sym (mine-within (λ (e : Entry). is_among P e.by) (is_by u) V (λ e mine. rw (eqb-true e.by u mine) inside)))
            ∙ sym (append-nil (ops (of u (of_these P V)))),
      )
      | inr isnt ↦ (own_at C V u, ap (λ W. ops W ++ own_at C V u) (sym (none-chosen isnt V)))
    ]
  where
    none-chosen : is_among P u ≡ false → (W : List Entry) → of u (of_these P W) ≡ []
    none-chosen isnt W =
        filter-none (is_by u) (of_these P W) (each-passes (λ e. is_by u e ≡ false) (λ e. is_among P e.by) W (each-all (λ e inside. is_among-apart P u e.by isnt inside) W))

-- what the carried ones did is safe at the committed number
pub escrow_safe : FirmIsSafe → FirmAfterStrike → (o : Object) (C P : List ℕ) (V : List Entry) (s : ℕ) → IsCovered o → o.kind ≡ Escrow → AreOutside C P → EscrowFacts o C V
    → IsCommittedBy Escrow o s C V → IsSafe o.table s (λ u. ops (of u (of_these P V)))
escrow_safe safe strikes o C P V s covered kind outside facts left =
    let same : facts.base ≡ s = same_Some facts.base s (sym facts.reached ∙ left) in
    let own : ℕ → List ℕ = λ u. ops (of u (of_these P V)) in
    let firm = strikes o.table o.amounts facts.base (own_at C V) own facts.firm (own-chosen C P V outside) in
    subst (λ n. IsSafe o.table n own) same (safe o.table o.amounts facts.base own (covers_escrow o covered kind) firm)
