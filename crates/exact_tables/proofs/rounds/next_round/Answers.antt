use Rattle.std.proofs.Common.{◌<◌, length, refl, arith}
use Rattle.exact_tables.proofs.Loops.{pairs-more, pair-read}
use Rattle.exact_tables.proofs.rounds.next_round.Goals as goal

pub strike_before-requires-clause-first : goal.strike_before-requires-clause-first
strike_before-requires-clause-first c =
    let inside : c.loop-position.position < length c.take_found-before.result.items = omega (arith, c.loop-position-test.true, c.len-position-end.ensures) in
    (c.requires.pairs _ _ (c.loop-position.position, pair-read c.take_found-before.result.items c.args.search.now.found c.loop-position.position c.index-pair.result.now c.take_found-before.ensures.pairs inside c.index-pair.ensures)).0

pub strike_before-requires-clause-second : goal.strike_before-requires-clause-second
strike_before-requires-clause-second c =
    let inside : c.loop-position.position < length c.take_found-before.result.items = omega (arith, c.loop-position-test.true, c.len-position-end.ensures) in
    (c.requires.pairs _ _ (c.loop-position.position, pair-read c.take_found-before.result.items c.args.search.now.found c.loop-position.position c.index-pair.result.now c.take_found-before.ensures.pairs inside c.index-pair.ensures)).1

pub loop-position-preserved : goal.loop-position-preserved
loop-position-preserved c =
    let inside : c.loop-position.position < length c.take_found-before.result.items = omega (arith, c.loop-position-test.true, c.len-position-end.ensures) in
    pairs-more c.args.table.now c.args.n c.index-pair.result.now.0 c.index-pair.result.now.1 c.loop-position.position c.take_found-before.result.items
    c.take_found-before.new.self c.loop-position.search c.strike_before.new.search
    (pair-read c.take_found-before.result.items c.take_found-before.result.items c.loop-position.position c.index-pair.result.now refl inside c.index-pair.ensures)
    c.loop-position.invariant c.in_ok-strike_before.ensures
