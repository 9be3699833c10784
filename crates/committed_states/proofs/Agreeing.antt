-- The committed state agrees with the serial one.
use Rattle.std.proofs.Common.{◌∙◌, ◌≡◌, ℕ, List, Some, slice_get, refl, sym}
use Rattle.type_table.specs.Run.{IsLegal, Looks, AreEqui}
use Rattle.type_table.specs.Laws.{RunsAlong}
use Rattle.type_table.specs.declared.kind.Kind.{Kind}
use Rattle.type_table.specs.declared.kind.Kind.TheVariants.{Undo, Intentions, Escrow}
use Rattle.object_trait.specs.Object.{Object, IsCoveredStrongly}
use Rattle.object_trait.specs.Orders.{Sorts}
use Rattle.object_trait.specs.Laws.{PartsSort, StruckPart, SortsLook, SortsEqui}
use Rattle.object_trait.specs.declared.event.Event.{Event}
use Rattle.serial_order.specs.Operations.{is_among, ops, serial}
use Rattle.serial_order.specs.History.{commits}
use Rattle.serial_order.specs.Machine.{IsRun, AreCovered}
use Rattle.serial_order.specs.Serial.{surviving_at, serial_state}
use Rattle.serial_order.specs.Laws.{may_pass}
use Rattle.serial_order.specs.declared.entry.Entry.{Entry}
use Rattle.serial_order.proofs.CommitOrder.{undo_in_run}
use Rattle.serial_order.proofs.Kept.{passes_both_ways}
use Rattle.serial_order.proofs.Undo.{covers_undo, passes-commute}
use Rattle.committed_states.specs.Committed.{of_these, IsCommittedBy, AgreesWithSerial}
use Rattle.committed_states.specs.Laws.{CommittedAgrees, CommittedIsOne}
use Rattle.committed_states.proofs.Orders.{sorts-filter, serial-left}

module _ (along : RunsAlong) (parts : PartsSort Entry) (struck : StruckPart Entry) (look : SortsLook Entry) (equi : SortsEqui Entry)
    (objects : List Object) (H : List Event) (covered : AreCovered objects) (going : IsRun objects H) (x : ℕ) (o : Object) (there : slice_get objects x ≡ Some o) (s : ℕ) where
  -- update in place
  module _ (is : o.kind ≡ Undo) (left : IsCommittedBy Undo o s (commits H) (surviving_at x H)) where
    sorted : Sorts (may_pass o) (of_these (commits H) (surviving_at x H)) (serial (commits H) (surviving_at x H))
    sorted = rw (serial-left (commits H) (surviving_at x H)) at
        (sorts-filter (λ e. is_among (commits H) e.by) (surviving_at x H) _ (undo_in_run along parts struck look objects H x o covered going there is).sorts)

    legal : IsLegal o.table (Some o.table.initial) (ops (of_these (commits H) (surviving_at x H)))
    legal = rw left refl

    undo-looks : Looks o.table (Some s) (serial_state o x H)
    undo-looks = rw left at (look o.table o.set (λ e. e.op) (may_pass o) o.table.initial (of_these (commits H) (surviving_at x H)) (serial (commits H) (surviving_at x H))
        (covers_undo o (covered x o there) is).closed (covers_undo o (covered x o there) is).begins_inside (passes-commute o (covers_undo o (covered x o there) is)) sorted legal).1

    undo-equi : IsCoveredStrongly o → AreEqui o.table (Some s) (serial_state o x H)
    undo-equi strong = rw left at (equi o.table o.set (λ e. e.op) (may_pass o) o.table.initial (of_these (commits H) (surviving_at x H)) (serial (commits H) (surviving_at x H))
        (covers_undo o (covered x o there) is).closed (covers_undo o (covered x o there) is).begins_inside (passes_both_ways o strong is) sorted legal).1

  agrees-by : (kind : Kind) → o.kind ≡ kind → IsCommittedBy kind o s (commits H) (surviving_at x H) → AgreesWithSerial o s x H
  agrees-by Undo is left = record { looks = undo-looks is left; equi = undo-equi is left }
  agrees-by Intentions is left = record { looks = left.0; equi = λ strong. left }
  agrees-by Escrow is left = record { looks = rw left (λ ks legal. legal); equi = λ strong. rw left (λ ks legal. legal, λ ks legal. legal) }

pub committed_agrees : RunsAlong → PartsSort Entry → StruckPart Entry → SortsLook Entry → SortsEqui Entry → CommittedAgrees
committed_agrees along parts struck look equi = λ objects H x o s covered going there left.
    agrees-by along parts struck look equi objects H covered going x o there s o.kind refl left.reached

-- ---- two committed states

one-by : (kind : Kind) (o : Object) (s t : ℕ) (C : List ℕ) (V : List Entry) → IsCommittedBy kind o s C V → IsCommittedBy kind o t C V → AreEqui o.table (Some s) (Some t)
one-by Undo o s t C V one other = rw (sym one ∙ other) (λ ks legal. legal, λ ks legal. legal)
one-by Intentions o s t C V one other = (λ ks legal. other.1 ks (one.0 ks legal), λ ks legal. one.1 ks (other.0 ks legal))
one-by Escrow o s t C V one other = rw (sym one ∙ other) (λ ks legal. legal, λ ks legal. legal)

pub committed_is_one : CommittedIsOne
committed_is_one = λ o s t x H one other. one-by o.kind o s t (commits H) (surviving_at x H) one.reached other.reached
