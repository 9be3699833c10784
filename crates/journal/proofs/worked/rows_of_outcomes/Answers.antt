use Rattle.std.proofs.Common.{refl}
use Rattle.sqlite_value.proofs.OrderLemmas.{value_cmp-Int}
use Rattle.journal.specs.Numbers.{numbers_in}
use Rattle.journal.specs.OutcomeIndex.{kept_from, kept_row, last_number, placed, row_at}
use Rattle.journal.proofs.worked.rows_of_outcomes.Goals as goal

pub returns-clause-found : goal.returns-clause-found
unfolding kept_row kept_from last_number placed row_at numbers_in
returns-clause-found c = simp value_cmp-Int refl

pub returns-clause-none : goal.returns-clause-none
unfolding kept_row kept_from last_number placed row_at numbers_in
returns-clause-none c = simp value_cmp-Int refl
