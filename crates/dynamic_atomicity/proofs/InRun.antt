-- In a run, at one object that is covered, whatever the others are: what is so of its operations by ways of recovery.
use Rattle.std.proofs.Common.{◌≡◌, ℕ, true, false, not, ◌==◌, List, [], ◌∷◌, ◌++◌, Some, slice_get, refl, subst}
use Rattle.std.specs.List.{AllByRecursion}
use Rattle.std.proofs.lemmas.Bool.{not_from_false, and_from}
use Rattle.type_table.specs.Commute.{Covers, CoversStrongly, CommutesBackwardBothWays}
use Rattle.type_table.specs.Laws.{RunsAlong, LegalEnds}
use Rattle.type_table.specs.declared.kind.Kind.{Kind}
use Rattle.type_table.specs.declared.kind.Kind.TheVariants.{Undo, Intentions, Escrow}
use Rattle.type_table.specs.declared.table_kind.TableKind.TheVariants as tabled
use Rattle.type_table.proofs.Elements.{each-both, each-filter, eqb-sym}
use Rattle.escrow_laws.specs.Laws.{FreshIsFirm, FirmAfterApply, FirmAfterCommit, FirmAfterStrike, FirmIsLegal, NothingKeeps}
use Rattle.object_trait.specs.Object.{Object, IsCovered, IsCoveredStrongly}
use Rattle.object_trait.specs.Orders.{same}
use Rattle.object_trait.specs.Laws.{PartsSort, StruckPart, SortsLook}
use Rattle.object_trait.specs.declared.event.Event.{Event}
use Rattle.serial_order.specs.Operations.{at_object, ops, of, serial}
use Rattle.serial_order.specs.History.{Summary, is_open, commits}
use Rattle.serial_order.specs.View.{view, is_legal_after, conflicts_with, stops_at, own_at}
use Rattle.serial_order.specs.Machine.{IsRun}
use Rattle.serial_order.specs.Serial.{surviving_at}
use Rattle.serial_order.specs.After.{AreInRun}
use Rattle.serial_order.specs.Laws.{may_pass}
use Rattle.serial_order.specs.declared.entry.Entry.{Entry}
use Rattle.serial_order.proofs.Facts.{UndoFacts, IsAdmitted, IsLegalAt, free_undo}
use Rattle.serial_order.proofs.Runs.{pending_is_open, open_is_uncommitted}
use Rattle.serial_order.proofs.Undo.{passes_parts, undo_op, undo_strike, undo_commit}
use Rattle.serial_order.proofs.Escrow.{EscrowFacts, escrow_op, escrow_strike, escrow_commit}
use Rattle.serial_order.proofs.AtObjects.{at_object_in_run}

-- ---- what may pass, and what covers

pub passes_from : (o : Object) (a b : Entry) → (b.by == a.by) ≡ false → o.conflicts b.op a.op ≡ false → may_pass o a b ≡ true
passes_from o a b apart free =
    and_from (not (b.by == a.by)) (not (o.conflicts b.op a.op)) (not_from_false (b.by == a.by) apart) (not_from_false (o.conflicts b.op a.op) free)

pub covers_deferred : (o : Object) → IsCovered o → o.kind ≡ Intentions → Covers tabled.Intentions o.table o.set o.conflicts
covers_deferred o covered kind = rw kind at covered

pub covers_undo_strongly : (o : Object) → IsCoveredStrongly o → o.kind ≡ Undo → CoversStrongly tabled.Undo o.table o.set o.conflicts
covers_undo_strongly o covered kind = rw kind at covered

-- neighbours of which the first may pass the second commute backward in both ways, where the yes is strong
pub passes_both_ways : (o : Object) → IsCoveredStrongly o → o.kind ≡ Undo → (a b : Entry) → may_pass o a b ≡ true → CommutesBackwardBothWays o.table o.set b.op a.op
passes_both_ways o covered undo a b free = (covers_undo_strongly o covered undo).commute b.op a.op (passes_parts o a b free).1

-- ---- what the machine allows is admitted

-- an operation of another open transaction that doesn't keep t from k doesn't stop it
apart_held : (o : Object) (s : Summary) (x t k : ℕ) (held : Entry) → is_open s held.by ≡ true → (t == held.by) ≡ false → conflicts_with o s x t k held ≡ false → stops_at o.kind o s.committed (at_object x s.survives) t k held ≡ false
apart_held o s x t k held open_held other free = rw (open_held, eqb-sym held.by t, other) at free

pub free_at : (o : Object) (s : Summary) (x t k : ℕ) → AreInRun s → is_open s t ≡ true → AllByRecursion (λ e. conflicts_with o s x t k e ≡ false) (at_object x s.survives)
    → IsAdmitted o s.committed (at_object x s.survives) (record { by = t; at = x; op = k })
free_at o s x t k known open_now each = record {
  uncommitted = open_is_uncommitted s t open_now;
  free = each-both
      (λ held began free pending other. apart_held o s x t k held (pending_is_open s held.by (began.0) (began.1) pending) other free)
      (at_object x s.survives) (each-filter _ (λ e. e.at == x) s.survives known.survive) each;
}

-- ---- in a run

module _ (along : RunsAlong) (parts : PartsSort Entry) (struck : StruckPart Entry) (look : SortsLook Entry) where
  pub undo_in_run : (objects : List Object) (H : List Event) (x : ℕ) (o : Object) → IsCovered o → IsRun objects H
      → slice_get objects x ≡ Some o → o.kind ≡ Undo → UndoFacts o (commits H) (surviving_at x H)
  undo_in_run objects H x o covered run there undo = at_object_in_run objects x o there (λ C V e. IsLegalAt o (ops V ++ e.op ∷ [])) (UndoFacts o)
      (record {
        op = λ C V e free legal facts. undo_op o C V e covered undo (free_undo o C V e undo free) legal facts;
        strike = λ C V t n apart facts. undo_strike parts struck look o C V t n covered undo apart facts;
        commit = λ C V t apart facts. undo_commit parts o C V t covered undo apart facts;
      })
      (λ s t k legal. subst (λ (by : Kind). is_legal_after o (view by s x t) k ≡ true) undo legal)
      (record { locked = tt; legal = refl; sorts = same }) H run

module _ (along : RunsAlong) (ends : LegalEnds) (apply : FirmAfterApply) (firm_commits : FirmAfterCommit) (strikes : FirmAfterStrike) (nothing : NothingKeeps) (firm_legal : FirmIsLegal) (fresh : FreshIsFirm) where
  pub escrow_in_run : (objects : List Object) (H : List Event) (x : ℕ) (o : Object) → IsCovered o → IsRun objects H
      → slice_get objects x ≡ Some o → o.kind ≡ Escrow → EscrowFacts o (commits H) (surviving_at x H)
  escrow_in_run objects H x o covered run there escrow =
      at_object_in_run objects x o there (λ C V e. IsLegalAt o (ops (serial C V ++ of e.by V) ++ e.op ∷ [])) (EscrowFacts o)
      (record {
        op = λ C V e admitted legal facts. escrow_op along apply strikes nothing o C V e covered escrow admitted legal facts;
        strike = λ C V t n apart facts. escrow_strike strikes o C V t n apart facts;
        commit = λ C V t apart facts. escrow_commit along ends firm_commits firm_legal o C V t covered escrow apart facts;
      })
      (λ s t k legal. subst (λ (by : Kind). is_legal_after o (view by s x t) k ≡ true) escrow legal)
      (record { base = o.table.initial; reached = refl; firm = fresh o.table o.amounts o.table.initial (own_at [] []) (λ u. refl) }) H run
