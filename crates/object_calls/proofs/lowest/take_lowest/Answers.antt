use Rattle.std.proofs.Common.{arith}
use Rattle.object_calls.proofs.Bits.{lowest_taken}
use Rattle.object_calls.proofs.lowest.take_lowest.Goals as goal

pub returns : goal.returns
returns c = lowest_taken c.args.word.now c.requires (omega arith)
