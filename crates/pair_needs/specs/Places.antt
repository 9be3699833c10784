-- The place of the least witness among the states to which lists lead.
use Rattle.std.specs.Prelude.{◌≡◌, ◌⊎◌, ℕ, ◌+◌, ◌<◌, ◌≤◌, ◌==◌, ◌&&◌, ◌||◌, Bool, List, length, nat_lt, Option, None, Some, slice_get, if◌then◌else◌}
use Rattle.type_table.specs.Commute.{Commutes}
use Rattle.type_table.specs.Table.{Table}
use Rattle.type_table.specs.declared.table_kind.TableKind.{TableKind}
use Rattle.pair_needs.specs.Ends.{IsLeastShown}
use Rattle.pair_needs.specs.Needs.{only}
use Rattle.pair_needs.specs.Witnesses.{Shows}
use Rattle.pair_needs.specs.declared.leads.Lead.{Lead}
use Rattle.pair_needs.specs.declared.witness.Least.{Least}

-- so many operations and such a state are no worse than others
abbrev pub IsNoWorse : ℕ → ℕ → ℕ → ℕ → Type 0
IsNoWorse size s other t = (size < other) ⊎ ((size ≡ other) × (s ≤ t))

-- the place is that of this state, at which the pair fails, and the shortest lists have so many operations together
pub record IsPlace (kind : TableKind) (T : Table) (p q : ℕ) (leads : List Lead) (l : Least) : Type 0 where
  pub lead : Lead
  pub there : slice_get leads l.place ≡ Some lead
  pub state_is : lead.state ≡ l.state
  pub shown : ℕ
  pub least_shown : IsLeastShown kind T p q lead.state shown
  pub together : l.size ≡ length lead.list.items + shown

-- and none of the first n is better
pub record IsLeastPlace (kind : TableKind) (T : Table) (p q : ℕ) (leads : List Lead) (n : ℕ) (l : Least) : Type 0 where
  pub is_place : IsPlace kind T p q leads l
  pub least :
      (i : ℕ) (m : Lead) (h : Bool) (r : List ℕ) → i < n → slice_get leads i ≡ Some m → Shows kind T p q m.state h r
      → IsNoWorse l.size l.state (length m.list.items + length r) m.state

-- the pair fails at none of the first n
abbrev pub NoneFails : TableKind → Table → ℕ → ℕ → List Lead → ℕ → Type 0
NoneFails kind T p q leads n = (i : ℕ) (m : Lead) → i < n → slice_get leads i ≡ Some m → Commutes kind T (only m.state) p q

-- the better of two places, where there are any
abbrev pub is_better : Least → Least → Bool
is_better f l = nat_lt f.size l.size || (f.size == l.size && nat_lt f.state l.state)

abbrev pub better_of : Option Least → Option Least → Option Least
better_of None f = f
better_of (Some l) None = Some l
better_of (Some l) (Some f) = Some (if is_better f l then f else l)
