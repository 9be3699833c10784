-- Commit order: in a run, what survives at an object of update in place sorts into commit order, and its view is legal, also without
-- the last operations of an open transaction.
use Rattle.std.proofs.Common.{◌≡◌, ℕ, List, [], ◌∷◌, ◌++◌, Some, slice_get, true, refl, subst}
use Rattle.type_table.specs.Laws.{RunsAlong}
use Rattle.type_table.specs.declared.kind.Kind.{Kind}
use Rattle.type_table.specs.declared.kind.Kind.TheVariants.{Undo}
use Rattle.object_trait.specs.Object.{Object}
use Rattle.object_trait.specs.Orders.{same}
use Rattle.object_trait.specs.Laws.{PartsSort, StruckPart, SortsLook}
use Rattle.object_trait.specs.declared.event.Event.{Event}
use Rattle.serial_order.specs.Operations.{ops}
use Rattle.serial_order.specs.History.{commits, summary}
use Rattle.serial_order.specs.View.{view, is_legal_after}
use Rattle.serial_order.specs.Machine.{IsRun, AreCovered}
use Rattle.serial_order.specs.Serial.{surviving_at}
use Rattle.serial_order.specs.Laws.{SortsIntoCommitOrder, StruckViewIsLegal}
use Rattle.serial_order.specs.declared.entry.Entry.{Entry}
use Rattle.serial_order.proofs.Facts.{UndoFacts, IsLegalAt, free_undo}
use Rattle.serial_order.proofs.Runs.{open_is_uncommitted}
use Rattle.serial_order.proofs.Undo.{undo_op, undo_strike, undo_commit}
use Rattle.serial_order.proofs.AtObjects.{at_object_in_run}

module _ (along : RunsAlong) (parts : PartsSort Entry) (struck : StruckPart Entry) (look : SortsLook Entry) where
  -- in a run, the facts of update in place
  pub undo_in_run : (objects : List Object) (H : List Event) (x : ℕ) (o : Object) → AreCovered objects → IsRun objects H
      → slice_get objects x ≡ Some o → o.kind ≡ Undo → UndoFacts o (commits H) (surviving_at x H)
  undo_in_run objects H x o covered run there undo = at_object_in_run objects x o there (λ C V e. IsLegalAt o (ops V ++ e.op ∷ [])) (UndoFacts o)
      (record {
        op = λ C V e free legal facts. undo_op o C V e (covered x o there) undo (free_undo o C V e undo free) legal facts;
        strike = λ C V t n apart facts. undo_strike parts struck look o C V t n (covered x o there) undo apart facts;
        commit = λ C V t apart facts. undo_commit parts o C V t (covered x o there) undo apart facts;
      })
      (λ s t k legal. subst (λ (by : Kind). is_legal_after o (view by s x t) k ≡ true) undo legal)
      (record { locked = tt; legal = refl; sorts = same }) H run

  -- what survives sorts into commit order
  pub sorts_into_commit_order : SortsIntoCommitOrder
  sorts_into_commit_order objects H x o covered run there undo = (undo_in_run objects H x o covered run there undo).sorts

  -- the view without the last operations of an open transaction is legal
  pub struck_view_is_legal : StruckViewIsLegal
  struck_view_is_legal objects H x o t n covered run there undo open_now =
      (undo_strike parts struck look o (commits H) (surviving_at x H) t n (covered x o there) undo
      (open_is_uncommitted (summary H) t open_now) (undo_in_run objects H x o covered run there undo)).legal
