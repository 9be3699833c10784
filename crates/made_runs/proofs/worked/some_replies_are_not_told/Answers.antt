use Rattle.std.proofs.Common.{refl, arith}
use Rattle.type_table.specs.Table.{next}
use Rattle.made_runs.proofs.worked.some_replies_are_not_told.Goals as goal

pub returns-clause-either : goal.returns-clause-either
unfolding next
returns-clause-either c = λ once.
    let same = once 4 2 3 refl refl refl in
    absurd (omega (arith, same))
