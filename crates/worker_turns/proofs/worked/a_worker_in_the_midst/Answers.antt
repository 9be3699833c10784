use Rattle.std.proofs.Common.{[], ◌∷◌, refl, arith}
use Rattle.object_trait.specs.declared.event.EventKind.TheVariants.{Begin, Op}
use Rattle.worker_turns.proofs.Examples.{up-second}
use Rattle.worker_turns.proofs.worked.a_worker_in_the_midst.Goals as goal

-- no job ended and no try was broken
pub returns-clause-told : goal.returns-clause-told
returns-clause-told c = record {
  within = omega arith;
  left = omega arith;
  ended = [];
  are_parts = refl;
  behind = [];
  are_broken = refl;
  now = Begin 0 ∷ Op 0 0 1 ∷ [];
  so_far = (Op 0 0 1 ∷ [], record { within = omega arith; are_replies = (up-second 0, tt) }, refl);
  are = refl;
  idle = λ at_end. absurd (omega (arith, at_end));
}
