use Rattle.std.proofs.Common.{[], ◌∷◌, refl}
use Rattle.dynamic_atomicity.specs.OrderExamples.{parting_history}
use Rattle.dynamic_atomicity.proofs.Keeping.{keeps_from, keeps-op, none}
use Rattle.dynamic_atomicity.proofs.worked.commit_order_may_stay_legal.Goals as goal

pub returns-clause-keeps : goal.returns-clause-keeps
returns-clause-keeps c =
    keeps_from 0 (0 ∷ 1 ∷ 2 ∷ []) parting_history (
      none 0 (0 ∷ 1 ∷ 2 ∷ []) [],
      (
        none 0 (0 ∷ 1 ∷ 2 ∷ []) [],
        (
          keeps-op 0 (0 ∷ 1 ∷ 2 ∷ []) [] 0 1 tt,
          (
            keeps-op 0 (0 ∷ 1 ∷ 2 ∷ []) [] 1 0 tt,
            (
              none 0 (0 ∷ 1 ∷ 2 ∷ []) [],
              (
                none 0 (0 ∷ 1 ∷ 2 ∷ []) (1 ∷ []),
                (
                  none 0 (0 ∷ 1 ∷ 2 ∷ []) (1 ∷ 0 ∷ []),
                  (keeps-op 0 (0 ∷ 1 ∷ 2 ∷ []) (1 ∷ 0 ∷ []) 2 2 (refl, (refl, tt)), (none 0 (0 ∷ 1 ∷ 2 ∷ []) (1 ∷ 0 ∷ []), tt)),
                ),
              ),
            ),
          ),
        ),
      ),
    )
