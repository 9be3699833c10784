use Rattle.std.proofs.Common.{sym}
use Rattle.std.proofs.lemmas.Bool.{both_ways, false≢true}
use Rattle.table_families.proofs.AmountFacts.{all-from_each}
use Rattle.table_families.proofs.amounts.are_amounts.Goals as goal

pub returns-then-not-are_within : goal.returns-then-not-are_within
returns-then-not-are_within c =
    (λ e. absurd (false≢true e), λ good. absurd (both_ways _ (sym c.if-not-are_within.ensures) (all-from_each c.args.cap c.args.amounts.now good.each)))
