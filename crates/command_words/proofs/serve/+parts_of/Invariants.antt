use Rattle.std.proofs.Common.{length}
use Rattle.command_words.proofs.serve.+parts_of.Given as goal

abbrev pub decreases-parts_of : goal.decreases-parts_of
decreases-parts_of l = length l.words.now
