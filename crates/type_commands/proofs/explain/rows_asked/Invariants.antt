-- Of the rows so far those that are asked for.
use Rattle.std.proofs.Common.{◌≡◌, filter}
use Rattle.std.specs.List.{range_with_len}
use Rattle.type_commands.specs.Explain.{is_asked, pair_as}
use Rattle.type_commands.proofs.explain.rows_asked.Given as goal

abbrev pub invariant-loop-k : goal.invariant-loop-k
invariant-loop-k l = l.rows.items ≡ filter (is_asked (pair_as l.asked)) (range_with_len 0 l.k)
