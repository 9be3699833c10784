use Rattle.std.proofs.Common.{[], ◌∷◌, refl}
use Rattle.type_table.specs.declared.kind.Kind.TheVariants.{Intentions}
use Rattle.object_trait.specs.Examples.{held, counter_at}
use Rattle.store.proofs.worked.no_later_reason_is_given.Goals as goal

-- the second object isn't fresh
pub returns-clause-not_fresh : goal.returns-clause-not_fresh
returns-clause-not_fresh c = λ h.
    let log = (h.2 1 (counter_at Intentions 0 (held 0 0 ∷ [])) refl).log in
    cc
