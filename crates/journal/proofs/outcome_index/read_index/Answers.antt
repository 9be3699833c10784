use Rattle.std.proofs.Common.{◌≡◌, ◌-◌, arith, refl, subst, sym}
use Rattle.journal.specs.OutcomeIndex.{KnowsPlaces}
use Rattle.journal.proofs.KnownPlaces.{round-places}
use Rattle.journal.proofs.outcome_index.read_index.Goals as goal
use Rattle.journal.proofs.outcome_index.read_index.Goals.{else-is_put, then-is_put}

pub returns-clause-knows : goal.returns-clause-knows
returns-clause-knows g c = λ clean.
    let rows = (g.S.Store.view c.args.store.now).trees 6 in
    let m = c.args.numbers in
    let index = c.in_ok-index.index in
    let knows = c.in_ok-index.ensures.knows clean in
    let begun = c.in_ok-index.ensures.begun in
    elim c.if-is_put.branch [
      | then-is_put w ↦
          let round = w.begin_round.ensures in
          let awaits = c.requires.counted.awaits in
          let await : m.awaiting ≡ m.next - index.begun = omega (arith, begun, awaits) in
          subst (KnowsPlaces rows m) (sym w.index-is) (round-places rows m m index w.begin_round.new.self refl await round.due round.fresh round.begun knows)
      | else-is_put w ↦ subst (KnowsPlaces rows m) (sym w.index-is) knows
    ]
