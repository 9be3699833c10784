-- Limits that no store has are as any other ones that none has.
use Rattle.std.proofs.Common.{◌≡◌, ℕ, ◌<◌, true, false, List, ◌⊎◌, Option, sym, subst, ◌∙◌, refl, inl, inr, arith}
use Rattle.std.proofs.lemmas.Bool.Decides.{nat_tests}
use Rattle.object_trait.specs.Meaning.{Meaning}
use Rattle.type_table.specs.Limits.{longest_history}
use Rattle.store_limits.specs.Standard.{are_limits}
use Rattle.store.specs.Ends.{RefusesNew}
use Rattle.store.specs.declared.refusals.NewRefusal.{NewRefusal}
use Rattle.store.specs.declared.refusals.NewRefusal.TheVariants.{NoObjects, TooManyObjects, NotFresh, BadMax, NoMemory}
use Rattle.library_calls.specs.Making.{MakesStore, limits_of, made, not_made}
use Rattle.library_calls.specs.declared.held.Held.{Held}

module _ (ms : List Meaning) (events other opens objects : ℕ) (none : are_limits longest_history (limits_of events opens objects) ≡ false)
    (neither : are_limits longest_history (limits_of other opens objects) ≡ false) where
  refuses_as : (why : NewRefusal) → RefusesNew longest_history ms (limits_of events opens objects) why → RefusesNew longest_history ms (limits_of other opens objects) why
  refuses_as NoObjects r = r
  refuses_as TooManyObjects r = r
  refuses_as NotFresh r = r
  refuses_as BadMax r = (r.0, r.1, r.2, neither)
  refuses_as NoMemory r = absurd (let clash : true ≡ false = sym (r.3) ∙ none in cc)

  makes_as : (n : ℕ) (new : Option Held) → MakesStore ms (limits_of events opens objects) n new → MakesStore ms (limits_of other opens objects) n new
  makes_as n new (made is may at) = absurd (let clash : true ≡ false = sym may.limit ∙ none in cc)
  makes_as n new (not_made why is r at) = not_made why is (refuses_as why r) at

-- no history is as long
too_long : (events opens objects : ℕ) → longest_history < events → are_limits longest_history (limits_of events opens objects) ≡ false
too_long events opens objects long = grind (arith, nat_tests, long)

pub another_limit : (ms : List Meaning) (events top opens objects n : ℕ) (new : Option Held) → (events ≡ top) ⊎ ((events ≡ 0) × (longest_history < top))
    → MakesStore ms (limits_of events opens objects) n new → MakesStore ms (limits_of top opens objects) n new
another_limit ms events top opens objects n new same makes =
    elim same [
      | inl is ↦ subst (λ (k : ℕ). MakesStore ms (limits_of k opens objects) n new) is makes
      | inr none ↦ makes_as ms 0 top opens objects refl (too_long top opens objects none.1) n new (subst (λ (k : ℕ). MakesStore ms (limits_of k opens objects) n new) none.0 makes)
    ]
