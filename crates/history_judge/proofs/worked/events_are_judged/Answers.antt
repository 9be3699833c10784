use Rattle.std.proofs.Common.{[], ◌∷◌, take, Some, None, refl, sym, arith}
use Rattle.std.proofs.lemmas.Bool.{false≢true}
use Rattle.std.proofs.lemmas.Option.{none-some}
use Rattle.object_trait.specs.declared.event.EventKind.TheVariants.{Begin, Op, Commit}
use Rattle.serial_order.specs.History.{summary}
use Rattle.history_judge.specs.Rows.{AreRowsOf}
use Rattle.history_judge.specs.Moves.{MovedRowsAgree}
use Rattle.history_judge.specs.Examples.{two_counters, operation, two_ups_events, two_ups_rows, one_up_rows}
use Rattle.history_judge.proofs.Judged.{begin_judged, commit_taken, rollback_judged, op_closed, rollback_outside}
use Rattle.history_judge.proofs.worked.events_are_judged.Goals as goal

-- event by event
agree : MovedRowsAgree → AreRowsOf [] (summary []) → AreRowsOf two_ups_rows (summary two_ups_events)
agree law start =
    let begun : AreRowsOf (Some [] ∷ []) (summary (take 1 two_ups_events)) = law two_counters [] (record { worker = 0; kind = Begin 0 }) [] (Some [] ∷ []) start refl refl in
    let one : AreRowsOf (Some (operation 1 0 ∷ []) ∷ []) (summary (take 2 two_ups_events)) =
    law two_counters (take 1 two_ups_events) (record { worker = 0; kind = Op 0 0 1 }) (Some [] ∷ []) (Some (operation 1 0 ∷ []) ∷ []) begun (refl, refl)
    record { its = []; was = refl; becomes = refl }
    in
    let both : AreRowsOf (Some (operation 1 0 ∷ []) ∷ Some [] ∷ []) (summary (take 3 two_ups_events)) =
    law two_counters (take 2 two_ups_events) (record { worker = 0; kind = Begin 1 }) (Some (operation 1 0 ∷ []) ∷ []) (Some (operation 1 0 ∷ []) ∷ Some [] ∷ []) one refl refl
    in
    let two : AreRowsOf (Some (operation 1 0 ∷ operation 0 0 ∷ []) ∷ Some [] ∷ []) (summary (take 4 two_ups_events)) =
    law two_counters (take 3 two_ups_events) (record { worker = 0; kind = Op 0 0 0 }) (Some (operation 1 0 ∷ []) ∷ Some [] ∷ []) (Some (operation 1 0 ∷ operation 0 0 ∷ []) ∷ Some [] ∷ []) both
    (refl, refl)
    record { its = operation 1 0 ∷ []; was = refl; becomes = refl }
    in
    law two_counters (take 4 two_ups_events) (record { worker = 0; kind = Commit 1 }) (Some (operation 1 0 ∷ operation 0 0 ∷ []) ∷ Some [] ∷ []) two_ups_rows two refl
    record { its = []; was = refl; becomes = refl }

pub returns-clause-agrees : goal.returns-clause-agrees
returns-clause-agrees c = agree c.moved_rows_agree.ensures c.nothing_began.ensures

pub returns-clause-commits : goal.returns-clause-commits
returns-clause-commits c = commit_taken c.moved_rows_agree.ensures two_counters two_ups_rows (None ∷ None ∷ []) 0 (operation 1 0 ∷ operation 0 0 ∷ []) refl refl

pub returns-clause-takes_back : goal.returns-clause-takes_back
returns-clause-takes_back c =
    rollback_judged c.moved_rows_agree.ensures two_counters two_ups_rows one_up_rows 0 (operation 1 0 ∷ operation 0 0 ∷ []) refl 1 (omega arith) (omega arith) refl

pub returns-clause-begins : goal.returns-clause-begins
returns-clause-begins c = begin_judged c.moved_rows_agree.ensures two_counters two_ups_rows _ 2 refl refl

pub returns-clause-misnumbered : goal.returns-clause-misnumbered
returns-clause-misnumbered c = λ H known may. let begun = known.begun in omega (arith, may, begun)

pub returns-clause-ended : goal.returns-clause-ended
returns-clause-ended c = op_closed two_counters two_ups_rows two_ups_rows 1 refl 0 0

pub returns-clause-overdone : goal.returns-clause-overdone
returns-clause-overdone c =
    rollback_outside two_counters two_ups_rows two_ups_rows 0 3 (operation 1 0 ∷ operation 0 0 ∷ []) refl (λ some few. omega (arith, few))

pub returns-clause-not_handed_out : goal.returns-clause-not_handed_out
returns-clause-not_handed_out c = λ judged. none-some _ (judged two_ups_events 0 (agree c.moved_rows_agree.ensures c.nothing_began.ensures)).2

pub returns-clause-still_open : goal.returns-clause-still_open
returns-clause-still_open c =
    λ judged.
    false≢true (sym ((judged two_ups_events 0 (agree c.moved_rows_agree.ensures c.nothing_began.ensures)).1.each 0 (Some (operation 1 0 ∷ operation 0 0 ∷ [])) refl).going)

pub returns-clause-refused : goal.returns-clause-refused
returns-clause-refused c = λ judged. judged two_ups_events (agree c.moved_rows_agree.ensures c.nothing_began.ensures) refl
