-- What an admission says of the operation, and of who keeps one from it.
use Rattle.std.proofs.Common.{◌≡◌, ℕ, Bool, true, false, Option, Some, None, refl, ap}
use Rattle.object_trait.specs.Admissions.{admitted_by, admitted_where}
use Rattle.object_trait.specs.declared.admission.Admission.TheVariants as admission

-- it isn't legal
pub illegal_says : (legal : Bool) (keeper : Option ℕ) → admitted_where legal keeper ≡ admission.Illegal → legal ≡ false
illegal_says false keeper is = refl
illegal_says true None is = absurd (cc)
illegal_says true (Some u) is = absurd (cc)

-- it is legal, and nobody keeps one from it
pub free_says : (legal : Bool) (keeper : Option ℕ) → admitted_where legal keeper ≡ admission.Free → (legal ≡ true) × (keeper ≡ None)
free_says false keeper is = absurd (cc)
free_says true None is = (refl, refl)
free_says true (Some u) is = absurd (cc)

-- it is legal, and u keeps one from it
pub blocked_says : (legal : Bool) (keeper : Option ℕ) (u : ℕ) → admitted_where legal keeper ≡ admission.Blocked u → (legal ≡ true) × (keeper ≡ Some u)
blocked_says false keeper u is = absurd (cc)
blocked_says true None u is = absurd (cc)
blocked_says true (Some v) u is = (refl, let same : v ≡ u = cc in ap Some same)

-- what isn't legal meets just that, and what is legal who keeps one from it
pub illegal_meets : (legal : Bool) (keeper : Option ℕ) → legal ≡ false → admission.Illegal ≡ admitted_where legal keeper
illegal_meets false keeper is = refl
illegal_meets true keeper is = absurd (cc)

pub legal_meets : (legal : Bool) (keeper : Option ℕ) → legal ≡ true → admitted_by keeper ≡ admitted_where legal keeper
legal_meets false keeper is = absurd (cc)
legal_meets true keeper is = refl
