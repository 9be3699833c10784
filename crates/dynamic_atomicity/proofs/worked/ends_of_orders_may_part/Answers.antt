use Rattle.std.proofs.Common.{[], ◌∷◌, refl}
use Rattle.serial_order.specs.Examples.{one_way_history}
use Rattle.dynamic_atomicity.specs.OrderExamples.{one_way_other}
use Rattle.std.proofs.lemmas.Bool.{false≢true}
use Rattle.type_table.specs.Table.{next}
use Rattle.dynamic_atomicity.proofs.Keeping.{keeps_from, keeps-op, none}
use Rattle.dynamic_atomicity.proofs.worked.ends_of_orders_may_part.Goals as goal

pub returns-clause-keeps : goal.returns-clause-keeps
returns-clause-keeps c =
    keeps_from 0 (0 ∷ 1 ∷ []) one_way_history (
      none 0 (0 ∷ 1 ∷ []) [],
      (
        none 0 (0 ∷ 1 ∷ []) [],
        (
          keeps-op 0 (0 ∷ 1 ∷ []) [] 0 1 tt,
          (
            keeps-op 0 (0 ∷ 1 ∷ []) [] 1 0 tt,
            (none 0 (0 ∷ 1 ∷ []) [], (none 0 (0 ∷ 1 ∷ []) (1 ∷ []), tt)),
          ),
        ),
      ),
    )

pub returns-clause-other_keeps : goal.returns-clause-other_keeps
returns-clause-other_keeps c =
    keeps_from 0 (1 ∷ 0 ∷ []) one_way_other (
      none 0 (1 ∷ 0 ∷ []) [],
      (
        none 0 (1 ∷ 0 ∷ []) [],
        (
          keeps-op 0 (1 ∷ 0 ∷ []) [] 0 1 tt,
          (
            keeps-op 0 (1 ∷ 0 ∷ []) [] 1 0 tt,
            (none 0 (1 ∷ 0 ∷ []) [], (none 0 (1 ∷ 0 ∷ []) (0 ∷ []), tt)),
          ),
        ),
      ),
    )

pub returns-clause-parts : goal.returns-clause-parts
unfolding next
returns-clause-parts c = λ looks. false≢true (looks (2 ∷ []) refl)
