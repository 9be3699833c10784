use Rattle.std.proofs.Common.{refl, sym, subst, ◌∙◌, arith}
use Rattle.std.proofs.lemmas.Option.{slice_get_read}
use Rattle.pair_needs.specs.Ends.{IsPair}
use Rattle.pair_needs.specs.LedPairs.{IsEnd}
use Rattle.pair_needs.specs.declared.ends.Pair.{Pair}
use Rattle.pair_needs.proofs.Gathered.{ends-more}
use Rattle.pair_needs.proofs.Places.{lead_inside}
use Rattle.pair_needs.proofs.mends.LedPairs.first.Goals as goal

pub loop-place-init : goal.loop-place-init
loop-place-init c = record {
  gathered = c.in_ok-led.ensures.gathered;
  ends = λ i a e l low there is. absurd (omega (arith, low));
  same = c.in_ok-led.ensures.pair;
}

pub begin_at-requires-clause-pair : goal.begin_at-requires-clause-pair
begin_at-requires-clause-pair c = subst (λ (p : Pair). IsPair c.args.table.now p) (sym c.loop-place.invariant.same) c.requires.pair

pub begin_at-requires-clause-state : goal.begin_at-requires-clause-state
begin_at-requires-clause-state c =
    lead_inside c.ends_within.ensures c.args.table.now c.args.leads.now c.loop-place.place c.index-leads-place.result c.requires.leads
    (slice_get_read c.args.leads.now _ c.loop-place.place c.index-leads-place.result refl (omega (arith, c.loop-place-test.true)) c.index-leads-place.is)

pub begin_at-requires-clause-led : goal.begin_at-requires-clause-led
begin_at-requires-clause-led c =
    let there = slice_get_read c.args.leads.now _ c.loop-place.place c.index-leads-place.result refl (omega (arith, c.loop-place-test.true)) c.index-leads-place.is in
    (c.index-leads-place.result.list.items, ((c.requires.leads).each c.loop-place.place c.index-leads-place.result there).leads)

pub loop-place-preserved : goal.loop-place-preserved
loop-place-preserved c =
    let there = slice_get_read c.args.leads.now _ c.loop-place.place c.index-leads-place.result refl (omega (arith, c.loop-place-test.true)) c.index-leads-place.is in
    let begun = c.in_ok-begin_at.ensures in
    record {
      gathered = begun.gathered;
      ends = ends-more c.args.table.now c.args.pair c.args.leads.now c.loop-place.place c.index-leads-place.result c.loop-place.led c.begin_at.new.self there c.loop-place.invariant.ends begun.kept
          (λ a e is. begun.ends a e (subst (λ (p : Pair). IsEnd c.args.table.now p c.index-leads-place.result.state a e) (sym c.loop-place.invariant.same) is));
      same = begun.pair ∙ c.loop-place.invariant.same;
    }

pub returns-clause-ends : goal.returns-clause-ends
returns-clause-ends c = λ i a e l low there is. c.loop-place.invariant.ends i a e l (omega (arith, low, c.loop-place-test.false)) there is
