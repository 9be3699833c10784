use Rattle.outputs.proofs.Puts.{Puts-append, Puts-stop}
use Rattle.outputs.proofs.laws.texts_in_turn.Goals as goal

pub returns-clause-joined : goal.returns-clause-joined
returns-clause-joined c a b d f g x y result p q = Puts-append p q

pub returns-clause-stopped : goal.returns-clause-stopped
returns-clause-stopped c a b f x y e p = Puts-stop y p
