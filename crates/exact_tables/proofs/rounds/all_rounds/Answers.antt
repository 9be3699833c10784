use Rattle.std.proofs.Common.{◌≡◌, ◌+◌, ◌<◌, length, sym, ◌∙◌, arith}
use Rattle.std.proofs.lemmas.Bool.{false≢true}
use Rattle.exact_tables.specs.Search.{unknown}
use Rattle.exact_tables.proofs.RoundFacts.{after-first, next-round, some_in}
use Rattle.exact_tables.proofs.rounds.all_rounds.Goals as goal

pub loop-n-init : goal.loop-n-init
loop-n-init c =
    let first = after-first c.steps_within.ensures c.args.table.now c.states-states.result c.in_ok-search.search c.first_round.new.search c.states-states.ensures.table c.states-states.ensures.exact
    c.in_ok-search.ensures c.in_ok-first_round.ensures in
    record { some = omega arith; after = first.0; left = omega (arith, first.1) }

pub next_round-requires-clause-pairs : goal.next_round-requires-clause-pairs
next_round-requires-clause-pairs c = λ s t there.
    let after = c.loop-n.invariant.after in
    let known = after.found s t there in
    (omega (arith, known.first, after.states), omega (arith, known.second, after.states))

pub loop-n-preserved : goal.loop-n-preserved
loop-n-preserved c =
    let strikes = c.in_ok-next_round.ensures in
    let some : 0 < length c.loop-n.search.found = some_in c.loop-n.search.found (λ none. false≢true (sym c.if-is_over.false ∙ c.is_over.ensures.1 none)) in
    let counted : length c.next_round.new.search.found + unknown c.next_round.new.search ≡ 0 + unknown c.loop-n.search = strikes.counted in
    record {
      some = omega arith;
      after = next-round c.steps_within.ensures c.args.table.now c.loop-n.n c.loop-n.search c.next_round.new.search c.states-states.ensures.table c.loop-n.invariant.some c.loop-n.invariant.after strikes;
      left = omega (arith, some, counted, c.loop-n.invariant.left);
    }
