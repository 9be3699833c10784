use Rattle.std.proofs.Common.{arith}
use Rattle.request_text.proofs.Pairs.{few-named}
use Rattle.request_text.proofs.calls.are_named.Goals as goal

pub returns : goal.returns
returns c = grind (arith, c.is_empty.ensures, c.loop-rest.invariant, few-named c.loop-rest.rest.now c.in_default.len_below)
