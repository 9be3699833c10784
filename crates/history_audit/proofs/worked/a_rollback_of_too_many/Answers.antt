use Rattle.std.proofs.Common.{refl, arith}
use Rattle.object_trait.specs.declared.event.EventKind.TheVariants.{Rollback}
use Rattle.history_audit.proofs.worked.a_rollback_of_too_many.Goals as goal

-- two is more than one
pub returns : goal.returns
returns c = record {
  history = (refl, ((refl, refl), tt));
  event = record { worker = 0; kind = Rollback 0 2 };
  there = refl;
  bad = λ may. let most = may.2 in omega (arith, most);
}
