-- A number in escrow, and what happens to it one after another: operations, commits, rollbacks and aborts.
use Rattle.std.specs.Prelude.{◌≡◌, ℕ, ◌==◌, cond, List, [], ◌∷◌, ◌++◌, take, Some, unwrap_or}
use Rattle.type_table.specs.Table.{Table}
use Rattle.type_table.specs.Run.{run}
use Rattle.escrow_laws.specs.Amounts.{Amounts}
use Rattle.escrow_laws.specs.Firm.{IsIdleFrom, IsFirm, with_op, IsAdmitted}

-- the number that is committed, what each open transaction did, and the operations of the committed ones, in commit order
pub record Escrow : Type 0 where
  pub base : ℕ
  pub own : ℕ → List ℕ
  pub serial : List ℕ

-- t does k; t commits; or the first n operations of t are left, after a rollback, or none, after an abort
pub data Happening : Type 0 where
  Does : (t k : ℕ) → Happening
  Commits : (t : ℕ) → Happening
  Strikes : (t n : ℕ) → Happening

-- where nothing has happened
abbrev pub escrow_begun : ℕ → Escrow
escrow_begun initial = record { base = initial; own = λ _. []; serial = [] }

-- what each did, without t
abbrev pub without : (ℕ → List ℕ) → ℕ → ℕ → List ℕ
without own t u = cond (u == t) [] (own u)

-- and with the first n operations of t alone
abbrev pub struck : (ℕ → List ℕ) → ℕ → ℕ → ℕ → List ℕ
struck own t n u = cond (u == t) (take n (own u)) (own u)

-- after it. A commit moves base on by what t did
abbrev pub escrow_after : Table → Escrow → Happening → Escrow
escrow_after T x (Does t k) = record { base = x.base; own = with_op x.own t k; serial = x.serial }
escrow_after T x (Commits t) = record { base = unwrap_or (run T (Some x.base) (x.own t)) x.base; own = without x.own t; serial = x.serial ++ x.own t }
escrow_after T x (Strikes t n) = record { base = x.base; own = struck x.own t n; serial = x.serial }

-- an operation has to be admitted; a commit, a rollback and an abort are refused to nobody
abbrev pub IsAllowed : Table → Amounts → ℕ → Escrow → Happening → Type 0
IsAllowed T a m x (Does t k) = IsAdmitted T a x.base x.own m t k
IsAllowed T a m x (Commits t) = Unit {0}
IsAllowed T a m x (Strikes t n) = Unit {0}

-- what is left by these, one after another
abbrev pub left_by : Table → Escrow → List Happening → Escrow
left_by T x [] = x
left_by T x (h ∷ hs) = left_by T (escrow_after T x h) hs

-- each is allowed where it happens
abbrev pub AreAllowed : Table → Amounts → ℕ → Escrow → List Happening → Type 0
AreAllowed T a m x [] = Unit {0}
AreAllowed T a m x (h ∷ hs) = IsAllowed T a m x h × AreAllowed T a m (escrow_after T x h) hs

-- what each open transaction did stays legal whatever the others do, and base is the state to which what was committed leads, in commit order
pub record IsSoundWork (T : Table) (a : Amounts) (initial m : ℕ) (x : Escrow) : Type 0 where
  pub firm : IsFirm T a x.base x.own
  pub is_serial : run T (Some initial) x.serial ≡ Some x.base
  pub idle : IsIdleFrom m x.own
