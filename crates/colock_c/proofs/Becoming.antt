-- What becomes of the store that a handle holds.
use Rattle.std.proofs.Common.{◌≡◌, ℕ, Option, Some, None, sym, subst}
use Rattle.std.proofs.lemmas.Option.{none-some, same_Some}
use Rattle.store_laws.specs.Stored.{Stored}
use Rattle.library_calls.specs.Codes.{number}
use Rattle.library_calls.specs.Holding.{store_at}
use Rattle.library_calls.specs.declared.code.Code.TheVariants.{NotHeld}
use Rattle.library_calls.specs.declared.held.Held.{Held}
use Rattle.library_calls.specs.declared.held.Held.TheVariants.{OfType, OfObjects, OfStore}
use Rattle.colock_c.specs.Calls.{Becomes}

-- it becomes such a store
pub becomes : (IsSuch : Stored → Stored → Type 0) (held new : Option Held) (n : ℕ) (s later : Stored)
    → store_at held ≡ Some s → new ≡ Some (OfStore later) → IsSuch s later → Becomes IsSuch held n new
becomes IsSuch None new n s later there is such = absurd (none-some s there)
becomes IsSuch (Some (OfType a)) new n s later there is such = absurd (none-some s there)
becomes IsSuch (Some (OfObjects os)) new n s later there is such = absurd (none-some s there)
becomes IsSuch (Some (OfStore t)) new n s later there is such = (later, is, subst (λ (z : Stored). IsSuch z later) (sym (same_Some t s there)) such)

-- or there is none
pub stays : (IsSuch : Stored → Stored → Type 0) (held new : Option Held) (n : ℕ) → store_at held ≡ None → new ≡ held → n ≡ number NotHeld → Becomes IsSuch held n new
stays IsSuch None new n none same is = (is, same)
stays IsSuch (Some (OfType a)) new n none same is = (is, same)
stays IsSuch (Some (OfObjects os)) new n none same is = (is, same)
stays IsSuch (Some (OfStore s)) new n none same is = absurd (none-some s (sym none))
