-- Who is named where some are named first.
use Rattle.std.proofs.Common.{◌≡◌, false, Option, Some, None, is_some, refl}
use Rattle.std.specs.Option.{option_or}

-- where those are all, whoever is found is
pub or-self : {X : Type 0} (o : Option X) → option_or o o ≡ o
or-self None = refl
or-self (Some x) = refl

-- where nobody is named, none is found
pub or-none : {X : Type 0} (o p : Option X) → is_some (option_or o p) ≡ false → is_some p ≡ false
or-none None p none = none
or-none (Some x) p none = cc
