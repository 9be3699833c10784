use Rattle.std.proofs.Common.{◌≡◌, Option, Some, refl}
use Rattle.type_table.specs.Table.{next}
use Rattle.object_trait.specs.declared.event.EventKind.{EventKind}
use Rattle.object_trait.specs.declared.event.EventKind.TheVariants.{Busy, Op}
use Rattle.store.proofs.worked.a_call_would_be_answered.Goals as goal

-- what counted up blocks what would count down
pub returns-clause-not_past_a_blocker : goal.returns-clause-not_past_a_blocker
unfolding next
returns-clause-not_past_a_blocker c = λ would.
    let is : ◌≡◌ {A = Option EventKind} (Some (Busy 1 1 0 0)) (Some (Op 1 1 0)) = would.1 1 refl in
    cc
