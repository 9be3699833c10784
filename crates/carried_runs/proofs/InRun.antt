-- In a run: what carried transactions did at an object is held from its committed state on.
use Rattle.std.proofs.Common.{◌≡◌, ℕ, true, ◌==◌, List, [], ◌∷◌, Some, slice_get, refl, inl, inr}
use Rattle.std.specs.List.{AllByRecursion}
use Rattle.std.proofs.lemmas.Bool.{false≢true, or_cases, eqb-true}
use Rattle.type_table.specs.Laws.{RunsAlong, EndsInside, LegalEnds}
use Rattle.type_table.specs.Lists.{ListsForward}
use Rattle.type_table.specs.declared.kind.Kind.{Kind}
use Rattle.type_table.specs.declared.kind.Kind.TheVariants.{Undo, Intentions, Escrow}
use Rattle.type_table.proofs.Elements.{each-weaker, mine-within}
use Rattle.escrow_laws.specs.Laws.{FreshIsFirm, FirmAfterApply, FirmAfterCommit, FirmAfterStrike, FirmIsLegal, NothingKeeps, FirmIsSafe}
use Rattle.object_trait.specs.Object.{Object}
use Rattle.object_trait.specs.Orders.{Pairs}
use Rattle.object_trait.specs.Laws.{PartsSort, StruckPart, SortsLook, SortsEqui}
use Rattle.object_trait.proofs.Lists.{pairs-weaker}
use Rattle.object_trait.specs.declared.event.Event.{Event}
use Rattle.serial_order.specs.Operations.{is_among, is_by, of}
use Rattle.serial_order.specs.History.{summary, is_open, commits}
use Rattle.serial_order.specs.Machine.{IsRun, AreCovered}
use Rattle.serial_order.specs.Serial.{surviving_at}
use Rattle.serial_order.specs.declared.entry.Entry.{Entry}
use Rattle.serial_order.proofs.Facts.{IsHeldFree}
use Rattle.serial_order.proofs.Pairs.{pairs-passes}
use Rattle.serial_order.proofs.Runs.{of_open, open_is_uncommitted}
use Rattle.serial_order.proofs.CommitOrder.{undo_in_run}
use Rattle.serial_order.proofs.Views.{deferred_in_run, escrow_in_run}
use Rattle.serial_order.proofs.Escrow.{escrow_view}
use Rattle.serial_order.proofs.Undo.{covers_undo}
use Rattle.committed_states.specs.Committed.{of_these, IsCommittedBy}
use Rattle.carried_runs.specs.Carried.{AreOpenOnce}
use Rattle.carried_runs.specs.Views.{SeesBy}
use Rattle.carried_runs.specs.Laws.{CarriedSees}
use Rattle.carried_runs.proofs.Leaving.{AreOutside}
use Rattle.carried_runs.proofs.Renumbering.{AreLess}
use Rattle.carried_runs.proofs.Again.{IsFreeAfter, HeldBy}
use Rattle.carried_runs.proofs.FromKept.{undo_legal, undo_sees, undo_sees_strongly, deferred_legal, deferred_sees, escrow_legal, escrow_sees, escrow_safe}

-- ---- which they are

-- what holds of each of these holds of one of them
pub each-among : (Q : ℕ → Type 0) (P : List ℕ) (t : ℕ) → AllByRecursion Q P → is_among P t ≡ true → Q t
each-among Q [] t all inside = absurd (false≢true inside)
each-among Q (u ∷ P) t all inside =
    elim (or_cases (u == t) (is_among P t) inside) [
      | inl is ↦ rw (eqb-true u t is) at all.0
      | inr rest ↦ each-among Q P t all.1 rest
    ]

-- open ones are none of the committed ones
pub are-outside : (P : List ℕ) (H : List Event) → AreOpenOnce P H → AreOutside (commits H) P
are-outside P H once = λ t inside. open_is_uncommitted (summary H) t (each-among (λ u. is_open (summary H) u ≡ true) P t once.are_open inside)

-- and began
pub are-less : (P : List ℕ) (H : List Event) → AreOpenOnce P H → AreLess (summary H).begun P
are-less P H once = each-weaker (λ t is. (of_open (summary H) t is).began) P once.are_open

-- what isn't in conflict where its transaction is pending isn't among the carried ones
free-chosen : (o : Object) (C P : List ℕ) (V : List Entry) → AreOutside C P → Pairs (IsHeldFree o C) V → Pairs (IsFreeAfter o) (of_these P V)
free-chosen o C P V outside locked =
    pairs-passes (IsFreeAfter o) (λ e. is_among P e.by) V
    (pairs-weaker {Q = λ a b. is_among P a.by ≡ true → is_among P b.by ≡ true → IsFreeAfter o a b} (λ a b here mine _. here (outside a.by mine)) V locked)

-- what t did, of the carried ones
pub of-chosen : (P : List ℕ) (t : ℕ) (V : List Entry) → is_among P t ≡ true → of t (of_these P V) ≡ of t V
of-chosen P t V inside = mine-within (λ (e : Entry). is_among P e.by) (is_by t) V (λ e mine. rw (eqb-true e.by t mine) inside)

module _ (along : RunsAlong) (inside : EndsInside) (ends : LegalEnds) (parts : PartsSort Entry) (struck : StruckPart Entry) (look : SortsLook Entry) (forward : ListsForward)
    (apply : FirmAfterApply) (firm_commits : FirmAfterCommit) (strikes : FirmAfterStrike) (nothing : NothingKeeps) (firm_legal : FirmIsLegal) (fresh : FreshIsFirm)
    (objects : List Object) (H : List Event) (covered : AreCovered objects) (going : IsRun objects H) (P : List ℕ) (once : AreOpenOnce P H)
    (x : ℕ) (o : Object) (there : slice_get objects x ≡ Some o) (s : ℕ) where
  pub held-in-run : FirmIsSafe → (kind : Kind) → o.kind ≡ kind → IsCommittedBy kind o s (commits H) (surviving_at x H) → HeldBy kind o s P (of_these P (surviving_at x H))
  held-in-run safe Undo is left =
      let facts = undo_in_run along parts struck look objects H x o covered going there is in
      record {
        legal = undo_legal along parts look o (covers_undo o (covered x o there) is) (commits H) P (surviving_at x H) (are-outside P H once) facts s left;
        free = free-chosen o (commits H) P (surviving_at x H) (are-outside P H once) facts.locked;
      }
  held-in-run safe Intentions is left =
      let facts = deferred_in_run along inside ends forward objects H x o covered going there is in
      record {
        legal = λ t mine. rw (of-chosen P t (surviving_at x H) mine)
            (deferred_legal along o (commits H) (surviving_at x H) s t left (facts.views_legal t (are-outside P H once t mine)));
        free = free-chosen o (commits H) P (surviving_at x H) (are-outside P H once) facts.locked;
      }
  held-in-run safe Escrow is left =
      let facts = escrow_in_run along ends apply firm_commits strikes nothing firm_legal fresh objects H x o covered going there is in
      record {
        legal = λ t mine. rw (of-chosen P t (surviving_at x H) mine)
            (escrow_legal along o (commits H) (surviving_at x H) s t left
            (escrow_view along firm_legal o (commits H) (surviving_at x H) t (are-outside P H once t mine) facts));
        safe = escrow_safe safe strikes o (commits H) P (surviving_at x H) s (covered x o there) is (are-outside P H once) facts left;
      }

  sees-by : SortsEqui Entry → (t : ℕ) (kind : Kind) → o.kind ≡ kind → IsCommittedBy kind o s (commits H) (surviving_at x H) → SeesBy kind o (commits H) P (surviving_at x H) s t
  sees-by equi t Undo is left =
      let facts = undo_in_run along parts struck look objects H x o covered going there is in
      let covers = covers_undo o (covered x o there) is in (
        undo_sees along parts look o covers (commits H) P (surviving_at x H) (are-outside P H once) facts s left,
        λ strong. undo_sees_strongly along parts look o covers (commits H) P (surviving_at x H) (are-outside P H once) facts s left equi strong is,
      )
  sees-by equi t Intentions is left = deferred_sees along o (commits H) (surviving_at x H) s t left
  sees-by equi t Escrow is left = escrow_sees along o (commits H) (surviving_at x H) s t left

pub carried_sees : RunsAlong → EndsInside → LegalEnds → PartsSort Entry → StruckPart Entry → SortsLook Entry → SortsEqui Entry → ListsForward → FirmAfterApply → FirmAfterCommit → FirmAfterStrike → NothingKeeps → FirmIsLegal → FreshIsFirm → CarriedSees
carried_sees along inside ends parts struck look equi forward apply firm_commits strikes nothing firm_legal fresh = λ objects H P x o s t covered going once there left.
    sees-by along inside ends parts struck look forward apply firm_commits strikes nothing firm_legal fresh objects H covered going P once x o there s equi t o.kind refl left.reached
