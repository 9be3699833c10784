use Rattle.std.proofs.Common.{length, sym, subst, ◌∙◌, arith}
use Rattle.pair_needs.specs.LedPairs.{HasEnds}
use Rattle.pair_needs.specs.declared.ends.Pair.{Pair}
use Rattle.pair_needs.proofs.Gathered.{ends-kept, gathered-all}
use Rattle.pair_needs.proofs.mends.LedPairs.all.Goals as goal

pub loop-place-preserved : goal.loop-place-preserved
loop-place-preserved c = record {
  gathered = c.in_ok-go_on.ensures.gathered;
  ends = ends-kept c.args.table.now c.args.pair c.args.leads.now (length c.args.leads.now) c.loop-place.led c.go_on.new.self c.loop-place.invariant.ends c.in_ok-go_on.ensures.kept;
  same = c.in_ok-go_on.ensures.pair ∙ c.loop-place.invariant.same;
}

pub returns-then-place-len-clause-all : goal.returns-then-place-len-clause-all
returns-then-place-len-clause-all c =
    gathered-all c.args.table.now c.loop-place.place c.loop-place.led c.loop-place.invariant.gathered (omega (arith, c.if-place-len.true, c.len.ensures, c.loop-place.led.found.ok.0)) c.args.leads.now c.requires.leads
    (subst (λ (p : Pair). HasEnds c.args.table.now p c.args.leads.now (length c.args.leads.now) c.loop-place.led) (sym c.loop-place.invariant.same) c.loop-place.invariant.ends)

pub returns-clause-all : goal.returns-clause-all
returns-clause-all c =
    gathered-all c.args.table.now c.loop-place.place c.loop-place.led c.loop-place.invariant.gathered
    (omega (arith, c.loop-place-test.false, c.loop-place.led.found.ok.0, c.loop-place.led.found.ok.1, c.loop-place.led.found.small)) c.args.leads.now c.requires.leads
    (subst (λ (p : Pair). HasEnds c.args.table.now p c.args.leads.now (length c.args.leads.now) c.loop-place.led) (sym c.loop-place.invariant.same) c.loop-place.invariant.ends)
