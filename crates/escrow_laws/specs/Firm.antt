-- What open transactions did at a number that each of them sees without the others: when it stays legal whatever the others do, and who
-- keeps a transaction from an operation (O'Neil, The Escrow Transactional Method, 1986).
use Rattle.std.specs.Prelude.{◌≡◌, ℕ, zero, suc, ◌+◌, ◌-◌, ◌<◌, ◌≤◌, Bool, false, not, ◌&&◌, ◌||◌, ◌==◌, cond, nat_lt, List, [], ◌∷◌, ◌++◌, Some, is_some}
use Rattle.type_table.specs.Table.{Table}
use Rattle.type_table.specs.Run.{run, IsLegal}
use Rattle.escrow_laws.specs.Amounts.{Amounts, fall, rise}

-- ---- sums over transactions

-- the sum of f at the numbers below m
abbrev pub sum_below : ℕ → (ℕ → ℕ) → ℕ
sum_below zero f = 0
sum_below (suc m) f = sum_below m f + f m

-- f, and nothing at t
abbrev pub except : ℕ → (ℕ → ℕ) → ℕ → ℕ
except t f u = cond (u == t) 0 (f u)

-- how far down the open transactions below m, other than t, may have taken the number when t commits: `own` is what each of them did.
-- Each may commit before, or abort, or roll back some of its last operations and commit
abbrev pub others_fall : Amounts → (ℕ → List ℕ) → ℕ → ℕ → ℕ
others_fall a own m t = sum_below m (except t (λ u. fall a (own u)))

-- and how far up
abbrev pub others_rise : Amounts → (ℕ → List ℕ) → ℕ → ℕ → ℕ
others_rise a own m t = sum_below m (except t (λ u. rise a (own u)))

-- from m on no transaction did anything
abbrev pub IsIdleFrom : ℕ → (ℕ → List ℕ) → Type 0
IsIdleFrom m own = (u : ℕ) → m ≤ u → own u ≡ []

-- ---- whatever the others do

-- what each transaction did is legal from each number that the others may leave, of which `base` is committed
abbrev pub IsFirm : Table → Amounts → ℕ → (ℕ → List ℕ) → Type 0
IsFirm T a base own = (t m s : ℕ) → base ≤ s + others_fall a own m t → s ≤ base + others_rise a own m t → IsLegal T (Some s) (own t)

-- what t did is legal from the lowest number that they may leave
abbrev pub is_low_legal : Table → Amounts → ℕ → (ℕ → List ℕ) → ℕ → ℕ → Bool
is_low_legal T a base own m t = is_some (run T (Some (base - others_fall a own m t)) (own t))

-- and from the highest
abbrev pub is_high_legal : Table → Amounts → ℕ → (ℕ → List ℕ) → ℕ → ℕ → Bool
is_high_legal T a base own m t = is_some (run T (Some (base + others_rise a own m t)) (own t))

-- ---- one more operation

-- what each did, where t did k too
abbrev pub with_op : (ℕ → List ℕ) → ℕ → ℕ → ℕ → List ℕ
with_op own t k u = cond (u == t) (own u ++ k ∷ []) (own u)

-- u keeps t from what it did last. Where what t did would not be legal from the lowest or the highest number that the others may leave:
-- u may take the number down, or up. Else: what u did would not be
abbrev pub keeps : Table → Amounts → ℕ → (ℕ → List ℕ) → ℕ → ℕ → ℕ → Bool
keeps T a base own m t u =
    cond (is_low_legal T a base own m t && is_high_legal T a base own m t)
    (not (is_low_legal T a base own m u && is_high_legal T a base own m u))
    ((not (is_low_legal T a base own m t) && nat_lt 0 (fall a (own u))) || (not (is_high_legal T a base own m t) && nat_lt 0 (rise a (own u))))

-- t, one of those below m, may do k: that is legal after what t sees, which is base and then what t did, and no other keeps t from it. There is
-- one rule for all replies: that there isn't enough is the reply of an operation as any other
pub record IsAdmitted (T : Table) (a : Amounts) (base : ℕ) (own : ℕ → List ℕ) (m t k : ℕ) : Type 0 where
  pub inside : t < m
  pub legal : IsLegal T (Some base) (own t ++ k ∷ [])
  pub free : (u : ℕ) → (u == t) ≡ false → keeps T a base (with_op own t k) m t u ≡ false
