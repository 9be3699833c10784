-- From which amounts of a call another transaction keeps one.
use Rattle.std.specs.Prelude.{◌≡◌, ℕ, ◌+◌, ◌-◌, ◌≤◌, Bool, false, Some}
use Rattle.std.specs.List.{list_any}
use Rattle.type_table.specs.Operation.{operation_at}
use Rattle.escrow_laws.specs.declared.mark.Mark.{Mark}
use Rattle.number_types.specs.declared.number_call.NumberCall.{NumberCall}
use Rattle.number_types.specs.declared.number_call.NumberCall.TheVariants as calls
use Rattle.number_types.specs.declared.number_op.NumberOp.{NumberOp}
use Rattle.number_types.specs.declared.number_op.NumberOp.TheVariants as ops
use Rattle.number_types.specs.Number.{Number}
use Rattle.number_types.specs.Operations.{takes, gives}
use Rattle.object_trait.specs.Meaning.{Meaning}
use Rattle.object_trait.specs.Steps.{IsLegalFor, stopper}
use Rattle.escrow_manager.specs.declared.totals.Totals.{Totals}
use Rattle.escrow_manager.specs.declared.way.Way.{Way}
use Rattle.escrow_manager.specs.declared.way.Way.TheVariants.{Take, Give}

-- u keeps t from k, which is legal for t
abbrev pub IsKeptFrom : Meaning → ℕ → ℕ → ℕ → Type 0
IsKeptFrom m t k u = IsLegalFor m t k × (stopper m t k ≡ Some u)

-- ---- calls of any amount

-- the call that takes, or gives, any amount
abbrev pub any_call : Way → NumberCall
any_call Take = calls.TakeAny
any_call Give = calls.GiveAny

-- its operations with an amount: that it is moved, and that it is refused
abbrev pub moving : Way → ℕ → NumberOp
moving Take n = ops.Take n
moving Give n = ops.Give n

abbrev pub refusing : Way → ℕ → NumberOp
refusing Take n = ops.Short n
refusing Give n = ops.Full n

-- whether a line lists the amount
abbrev pub lists : Way → ℕ → NumberCall → Bool
lists Take n call = takes n call
lists Give n call = gives n call

-- the call has operations with this amount: it is 1 to the greatest value, and no line lists it
abbrev pub HasAmount : Number → Way → ℕ → Type 0
HasAmount v way n = (1 ≤ n) × (n ≤ v.max) × (list_any (lists way n) v.calls ≡ false)

-- it is the least such amount from `start` on
abbrev pub IsLeastAmount : Number → Way → ℕ → ℕ → Type 0
IsLeastAmount v way start n = (start ≤ n) × HasAmount v way n × ((j : ℕ) → start ≤ j → HasAmount v way j → n ≤ j)

-- it is the greatest such amount up to `stop`
abbrev pub IsMostAmount : Number → Way → ℕ → ℕ → Type 0
IsMostAmount v way stop n = (n ≤ stop) × HasAmount v way n × ((j : ℕ) → j ≤ stop → HasAmount v way j → j ≤ n)

-- with it u doesn't keep t from the operation at a place
abbrev pub IsFreeFrom : Number → Way → Meaning → ℕ → ℕ → ℕ → ℕ → Type 0
IsFreeFrom v way m t place u start = (n : ℕ) → IsLeastAmount v way start n → IsKeptFrom m t (operation_at place (Some n)) u → ⊥

abbrev pub IsFreeUpTo : Number → Way → Meaning → ℕ → ℕ → ℕ → ℕ → Type 0
IsFreeUpTo v way m t place u stop = (n : ℕ) → IsMostAmount v way stop n → IsKeptFrom m t (operation_at place (Some n)) u → ⊥

-- ---- where the answer changes

-- the least amount with which all together fall too far for u, or rise too far for u. So far t and u have these marks, and all have these totals
abbrev pub first_kept : Way → ℕ → Totals → Mark → Mark → ℕ
first_kept Take base totals t u = (base + t.above + u.fall + 1) - (totals.fallen + u.floor)
first_kept Give base totals t u = (u.ceiling + u.rise + t.fall) - (base + (totals.risen - t.rise) + t.above)

-- the least with which t's own operations are no longer legal, where others fall so far and rise so far
abbrev pub first_beyond : Way → ℕ → ℕ → Mark → ℕ → ℕ → ℕ
first_beyond Take top base t down up = (base + t.above + 1) - (t.fall + down)
first_beyond Give top base t down up = (top + t.fall + 1) - (base + up + t.above)

-- the greatest whose refusal is no longer true, where others fall so far and rise so far
abbrev pub last_refused : Way → ℕ → ℕ → Mark → ℕ → ℕ → ℕ
last_refused Take top base t down up = (base + up + t.above) - t.fall
last_refused Give top base t down up = (top + t.fall) - ((base - down) + t.above)
