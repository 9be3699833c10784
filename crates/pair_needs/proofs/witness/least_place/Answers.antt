use Rattle.std.proofs.Common.{◌≡◌, Option, IfSome, subst, arith}
use Rattle.pair_needs.specs.declared.witness.Least.{Least}
use Rattle.pair_needs.proofs.Places.{place-more, place-all}
use Rattle.pair_needs.proofs.witness.least_place.Goals as goal

pub loop-place-preserved : goal.loop-place-preserved
loop-place-preserved c =
    rw c.better-least.ensures
    (place-more c.args.pair.kind c.args.table.now c.args.pair.p c.args.pair.q c.args.leads.now c.loop-place.place c.loop-place.least c.found_at-found.result c.loop-place.invariant c.found_at-found.ensures.none
    (λ f is. subst (λ (o : Option Least). IfSome o (λ (l : Least). l.place ≡ c.loop-place.place)) is c.found_at-found.ensures.place))

pub returns : goal.returns
returns c =
    place-all c.args.pair.kind c.args.table.now c.args.pair.p c.args.pair.q c.args.leads.now c.loop-place.place c.loop-place.least (omega (arith, c.loop-place-test.false)) c.loop-place.invariant
