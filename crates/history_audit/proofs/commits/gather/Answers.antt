use Rattle.std.proofs.Common.{map, subst}
use Rattle.std.proofs.lemmas.List.{take_all}
use Rattle.declared_types.specs.Declarations.{table_of}
use Rattle.history_judge.specs.Judged.{IsHanded}
use Rattle.history_audit.proofs.Gathered.{gathered-none, gathered-some, numbers-below}
use Rattle.history_audit.proofs.commits.gather.Goals.{in-Some+in_ok-push, in_default}
use Rattle.history_audit.proofs.commits.gather.Goals as goal

pub loop-at-preserved : goal.loop-at-preserved
loop-at-preserved c =
    let tables = map (λ t. table_of t.now) c.args.types.now in
    let events = c.args.events.now in
    let at = c.loop-at.at in
    let said = c.in_ok-committed.ensures.taken in
    record {
      judged = said.0;
      gathered = elim c.match-branch-2.branch [
        | in-Some+in_ok-push w ↦
            rw (w.commits-is, w.in_ok-push.ensures.ok)
            (gathered-some c.summary_after.ensures c.own_after.ensures tables events at c.loop-at.commits.items c.loop-at.invariant.gathered w.in-Some.committed (subst (IsHanded tables events at) w.in-Some.is said.1))
        | in_default w ↦
            rw w.commits-is
            (gathered-none c.summary_after.ensures c.own_after.ensures tables events at c.loop-at.commits.items c.loop-at.invariant.gathered (subst (IsHanded tables events at) w.in_default.is said.1))
      ];
    }

pub returns-clause-below : goal.returns-clause-below
returns-clause-below c =
    let all = take_all c.loop-at.at c.args.events.now c.loop-at-test.false in
    numbers-below (map (λ t. table_of t.now) c.args.types.now) c.args.events.now c.loop-at.judge c.loop-at.commits.items (rw all at c.loop-at.invariant.judged) (rw all at c.loop-at.invariant.gathered)
