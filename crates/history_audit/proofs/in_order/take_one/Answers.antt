use Rattle.std.proofs.Common.{◌≡◌, List, map, get_or, subst, ◌∙◌}
use Rattle.declared_types.specs.Declarations.{table_of}
use Rattle.history_judge.specs.declared.committed.Committed.{Committed}
use Rattle.history_audit.proofs.Gathered.{placed-operations}
use Rattle.history_audit.proofs.RunOn.{run-taken}
use Rattle.history_audit.proofs.in_order.take_one.Goals as goal

pub returns-in-Ok-clause-ok : goal.returns-in-Ok-clause-ok
returns-in-Ok-clause-ok c = λ H ts are known.
    let tables = map (λ t. table_of t.now) c.args.types.now in
    let its = c.as_slice-operations.result.now in
    let idle = c.index-as_slice-place.result in
    let same = subst (λ (them : List Committed). its ≡ (get_or them c.in-Some.place idle).operations) c.as_slice.ensures c.as_slice-operations.ensures in
    run-taken c.runs_along.ensures tables H ts c.args.t its (same ∙ placed-operations tables H c.args.committed.now c.in-Some.place c.args.t idle are c.in-Some.ensures)
    c.args.run.now c.take.new.self known c.in-Ok.ensures.states c.in-Ok.ensures.runs
