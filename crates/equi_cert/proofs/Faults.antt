-- Which triples are faults.
use Rattle.std.proofs.Common.{◌≡◌, ℕ, ◌≤◌, Bool, true, false, ◌&&◌, eqb, length, Option, Some, None, refl, sym, ◌⊎◌, inl, inr}
use Rattle.std.proofs.lemmas.Bool.{eqb-true, le-ltb, or_cases, not-false, false≢true}
use Rattle.type_table.specs.Table.{Table, next}
use Rattle.equi_cert.specs.Simulation.{IsSimulation}
use Rattle.equi_cert.specs.Fault.{leads_outside, NeverFails}

-- a number that is no operation is legal nowhere
pub next-past : (T : Table) (s k : ℕ) → length T.ops ≤ k → next T s k ≡ None
unfolding next
next-past T s k past = rw (le-ltb k (length T.ops) past) refl

-- and so it leads nowhere
pub past_passes : (T : Table) (related : ℕ → ℕ → Bool) (s t k : ℕ) → length T.ops ≤ k → leads_outside related (next T s k) (next T t k) ≡ false
past_passes T related s t k past = rw (next-past T s k past) refl

-- what leads nowhere outside goes to an equal state or a pair
stays : (related : ℕ → ℕ → Bool) (s2 : ℕ) (o : Option ℕ) → leads_outside related (Some s2) o ≡ false → (t2 : ℕ) × (o ≡ Some t2) × ((s2 ≡ t2) ⊎ (related s2 t2 ≡ true))
stays related s2 None h = absurd (false≢true (sym h))
stays related s2 (Some t2) h = (
  t2,
  refl,
  elim (or_cases (eqb s2 t2) (related s2 t2) (not-false _ h)) [
    | inl same ↦ inl (eqb-true s2 t2 same)
    | inr pair ↦ inr pair
  ],
)

-- a relation without faults is a simulation
pub faultless-simulates : (T : Table) (related : ℕ → ℕ → Bool) → NeverFails T related → IsSimulation T related
faultless-simulates T related none s t k s2 pair step =
    stays related s2 (next T t k) (open_fault (related s t) (next T s k) (next T t k) pair step (none s t k))
  where
    open_fault : (b : Bool) (first second : Option ℕ) → b ≡ true → first ≡ Some s2 → (b && leads_outside related first second) ≡ false → leads_outside related (Some s2) second ≡ false
    open_fault b first second e f h = rw (e, f) at h
