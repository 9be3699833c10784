use Rattle.std.proofs.Common.{ℕ, subst, arith}
use Rattle.type_table.specs.ConflictTable.{IsSquare}
use Rattle.pair_needs.specs.declared.mends.LedPairs.{LedPairs}
use Rattle.pair_needs.proofs.Gathered.{gathered-none}
use Rattle.pair_needs.proofs.mends.LedPairs.nothing.Goals as goal

pub returns-clause-gathered : goal.returns-clause-gathered
returns-clause-gathered c =
    let b : LedPairs = record { pair = c.args.pair; found = c.new-found.result; seen = c.in_ok-seen.seen } in
    gathered-none c.args.table.now b c.states.ensures.table (subst (λ (n : ℕ). IsSquare n c.in_ok-seen.seen) c.states.ensures.exact c.in_ok-seen.ensures.square)
    (λ x y x_in y_in. c.in_ok-seen.ensures.pairs x y (omega (arith, x_in, c.states.ensures.exact)) (omega (arith, y_in, c.states.ensures.exact))) c.new-found.ensures.items
