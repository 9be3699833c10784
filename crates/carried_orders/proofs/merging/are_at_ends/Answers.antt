use Rattle.std.proofs.Common.{◌≡◌, ◌<◌, map, inl, inr, sym, ap, subst, ◌∙◌, arith}
use Rattle.std.proofs.lemmas.Bool.{cases_lt}
use Rattle.std.proofs.lemmas.List.{length-map}
use Rattle.std.proofs.lemmas.Option.{slice_get_within}
use Rattle.carried_runs.proofs.FirstEvents.{meaning-at}
use Rattle.carried_orders.proofs.Stepping.{none-more}
use Rattle.carried_orders.proofs.merging.are_at_ends.Goals as goal

pub next_carried-requires-clause-short : goal.next_carried-requires-clause-short
next_carried-requires-clause-short g c κs within =
    c.requires.short c.loop-x.x (g.R.Recovery.meaning c.index-objects-x.result)
    (meaning-at g.R.Recovery.meaning c.args.objects.now c.loop-x.x c.index-objects-x.result (omega arith) c.index-objects-x.is)

pub loop-x-preserved : goal.loop-x-preserved
loop-x-preserved g c = λ y h m low there head.
    elim (cases_lt y c.loop-x.x) [
      | inl before ↦ c.loop-x.invariant y h m before there head
      | inr after ↦
          let here : y ≡ c.loop-x.x = omega (arith, low, after) in
          none-more (map g.R.Recovery.meaning c.args.objects.now) c.args.those.now c.args.heads.now c.loop-x.x y h m (g.R.Recovery.meaning c.index-objects-x.result) here there head
          (meaning-at g.R.Recovery.meaning c.args.objects.now c.loop-x.x c.index-objects-x.result (omega arith) c.index-objects-x.is) c.in_default.ensures.none
    ]

pub returns : goal.returns
returns g c = λ yes x h m there head.
    let low = slice_get_within (map g.R.Recovery.meaning c.args.objects.now) x m there in
    c.loop-x.invariant x h m (omega (arith, low, length-map c.args.objects.now g.R.Recovery.meaning, c.loop-x-test.false, c.loop-x.auto.x-end)) there head
