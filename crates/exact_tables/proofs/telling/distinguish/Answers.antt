use Rattle.std.proofs.Common.{◌-◌, ◌+◌, ℕ, List, Some, sym, subst, arith}
use Rattle.exact_tables.specs.Tell.{IsDistinguishing}
use Rattle.exact_tables.proofs.Nearer.{IsFront, front-more, front-last}
use Rattle.exact_tables.proofs.telling.distinguish.Goals as goal

pub returns-in_default-second : goal.returns-in_default-second
returns-in_default-second c =
    subst (λ (l : List ℕ). IsDistinguishing c.args.table.now (Some c.args.s) (Some c.args.t) l) (sym c.in_ok-push.ensures.items)
    (front-last c.steps_within.ensures c.args.table.now c.args.distances.now c.args.s c.args.t c.loop-done.list.items c.loop-done.first c.loop-done.second (c.in-Some.far - c.loop-done.done)
    c.first_nearer-step.result c.requires.distances.table c.requires.distances c.loop-done.invariant c.first_nearer-step.ensures c.in_default-second.is)

pub loop-done-preserved : goal.loop-done-preserved
loop-done-preserved c =
    subst (λ (l : List ℕ). IsFront c.args.table.now c.args.distances.now c.args.s c.args.t l c.first_nearer-step.result.first c.in-Some-second.after (c.in-Some.far - (c.loop-done.done + 1))) (sym c.in_ok-push.ensures.items)
    (front-more c.steps_within.ensures c.args.table.now c.args.distances.now c.args.s c.args.t c.loop-done.list.items c.loop-done.first c.loop-done.second (c.in-Some.far - c.loop-done.done) (c.in-Some.far - (c.loop-done.done + 1)) c.in-Some-second.after
    c.first_nearer-step.result c.requires.distances.table c.requires.distances c.loop-done.invariant c.first_nearer-step.ensures c.in-Some-second.is (omega (arith, c.loop-done-test.true)))
