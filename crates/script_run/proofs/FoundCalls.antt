-- What is remembered of calls.
use Rattle.std.proofs.Common.{◌≡◌, ℕ, zero, suc, List, [], ◌∷◌, ◌⊎◌, inl, inr, Option, Some, None, set, replicate, ap, subst, sym}
use Rattle.std.specs.Prelude.{slice_get, slice_index_or}
use Rattle.object_trait.specs.Object.{Object}
use Rattle.serial_order.specs.Replay.{call_at}
use Rattle.serial_order.specs.declared.command.Command.{Command}
use Rattle.serial_order.specs.declared.refusal.Refusal.{Refusal}
use Rattle.store_laws.specs.Stored.{Stored, objects}
use Rattle.script_run.specs.Found.{AreRemembered}
use Rattle.script_run.specs.Runs.{Asks}
use Rattle.script_run.specs.declared.found_calls.FoundCall.{FoundCall}

nothing_there : (n i : ℕ) (it : FoundCall) → slice_get (replicate n None) i ≡ Some (Some it) → ⊥
nothing_there zero i it e = absurd cc
nothing_there (suc n) zero it e = absurd cc
nothing_there (suc n) (suc i) it e = nothing_there n i it e

-- at first nothing is remembered
pub AreRemembered-nothing : (objects : List Object) (names : List (List ℕ)) (n : ℕ) → AreRemembered objects names (replicate n None)
AreRemembered-nothing objects names n = record { each = λ i it at. absurd (nothing_there n i it at) }

set_there : (found : List (Option FoundCall)) (p i : ℕ) (new it : FoundCall) → slice_get (set found p (Some new)) i ≡ Some (Some it) → (new ≡ it) ⊎ (slice_get found i ≡ Some (Some it))
set_there [] p i new it e = inr e
set_there (f ∷ fs) zero zero new it e = inl cc
set_there (f ∷ fs) zero (suc i) new it e = inr e
set_there (f ∷ fs) (suc p) zero new it e = inr e
set_there (f ∷ fs) (suc p) (suc i) new it e = set_there fs p i new it e

-- one more is remembered in place of another
pub AreRemembered-set : (objects : List Object) (names : List (List ℕ)) (found : List (Option FoundCall)) (p : ℕ) (new : FoundCall) → AreRemembered objects names found
    → call_at (slice_get objects new.x) (slice_index_or names new.name []) ≡ Some new.call → AreRemembered objects names (set found p (Some new))
AreRemembered-set objects names found p new were is = record {
  each = λ i it at.
      elim (set_there found p i new it at) [
        | inl same ↦ subst (λ (f : FoundCall). call_at (slice_get objects f.x) (slice_index_or names f.name []) ≡ Some f.call) same is
        | inr was ↦ were.each i it was
      ];
}

-- a command changes no object
pub asked-objects : (old new : Stored) (command : Command) (reason : Option Refusal) → Asks old command reason new → objects old ≡ objects new
asked-objects old new command reason (inl (e, now)) = sym (ap objects now)
asked-objects old new command reason (inr (takes, fine, e, now)) = sym (ap objects now)

-- so what is remembered stays so
pub AreRemembered-after : (old new : Stored) (command : Command) (reason : Option Refusal) (names : List (List ℕ)) (found : List (Option FoundCall)) → Asks old command reason new → AreRemembered (objects old) names found → AreRemembered (objects new) names found
AreRemembered-after old new command reason names found asked were = subst (λ os. AreRemembered os names found) (asked-objects old new command reason asked) were
