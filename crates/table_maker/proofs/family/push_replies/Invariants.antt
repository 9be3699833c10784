use Rattle.std.proofs.Common.{◌≡◌, ◌++◌, map}
use Rattle.std.specs.Fmt.{decimal}
use Rattle.std.specs.List.{range_with_len}
use Rattle.table_maker.specs.Made.{op_named}
use Rattle.table_maker.proofs.family.push_replies.Given as goal

-- the replies so far come after what was there before
abbrev pub invariant-loop-n : goal.invariant-loop-n
invariant-loop-n l = l.ops.items ≡ l.initial.ops.items ++ map (λ n. op_named l.call (decimal n)) (range_with_len 0 l.n)
