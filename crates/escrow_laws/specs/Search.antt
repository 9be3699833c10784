-- How far the search for a fault of one operation has come.
use Rattle.std.specs.Prelude.{◌≡◌, ℕ, ◌+◌, ◌-◌, ◌<◌, ◌≤◌, ◌==◌, Bool, true, false, Option, Some, None}
use Rattle.type_table.specs.Table.{Table, next}
use Rattle.escrow_laws.specs.declared.bounded.Bounded.{Bounded}
use Rattle.escrow_laws.specs.Bounds.{moved, IsWithinBounds, bounded_at}
use Rattle.escrow_laws.specs.Faults.{IsNumericFault}

-- k is illegal from `start` on
abbrev pub IsIllegalFrom : Table → ℕ → ℕ → Type 0
IsIllegalFrom T k start = (r : ℕ) → start ≤ r → next T r k ≡ None

-- from `start` on, s is the first state in which k is legal, and k leads from there to t
pub record IsFirstLegalState (T : Table) (k start s t : ℕ) : Type 0 where
  pub later : start ≤ s
  pub leads : next T s k ≡ Some t
  pub least : (r : ℕ) → start ≤ r → r < s → next T r k ≡ None

-- r is moved as far as s is by a step to t
abbrev pub is_alike : ℕ → ℕ → ℕ → Option ℕ → Bool
is_alike s t r None = false
is_alike s t r (Some e) = e + s == r + t

-- k is legal from s, where it leads to t, up to `stop`, and moves all these states alike; in `stop` it isn't legal, or moves otherwise
pub record IsStretch (T : Table) (k s t stop : ℕ) : Type 0 where
  pub past : s < stop
  pub inside : stop ≤ T.states
  pub alike : (r : ℕ) → s ≤ r → r < stop → is_alike s t r (next T r k) ≡ true
  pub ends : is_alike s t stop (next T stop k) ≡ false

-- the first state in which k is at fault
pub record IsFirstOfOperation (T : Table) (k s : ℕ) : Type 0 where
  pub fails : IsNumericFault T k s
  pub least : (r : ℕ) → r < s → IsNumericFault T k r → ⊥

-- k is at fault nowhere
abbrev pub IsFaultlessAt : Table → ℕ → Type 0
IsFaultlessAt T k = (s : ℕ) → IsNumericFault T k s → ⊥

-- the operation that is legal from s, where it leads to t, up to `stop`
abbrev pub bounded_until : ℕ → ℕ → ℕ → Bounded
bounded_until s t stop = record { low = s; high = stop - 1; gives = t - s; takes = s - t }

-- operation k of the type is this one
pub record IsBounded (T : Table) (k : ℕ) (b : Bounded) : Type 0 where
  pub is : b ≡ bounded_at T k
  pub steps : (s : ℕ) → next T s k ≡ moved b s
  pub within : IsWithinBounds (T.states - 1) b
