-- Which operation the name of a call asks for.
use Rattle.std.specs.Prelude.{◌≡◌, ℕ, ◌≤◌, ◌==◌, Bool, true, false, List, Option, Some, None, IfSome}
use Rattle.number_types.specs.declared.number_call.NumberCall.{NumberCall}
use Rattle.number_types.specs.declared.number_call.NumberCall.TheVariants as calls
use Rattle.number_types.specs.declared.number_op.NumberOp.{NumberOp}
use Rattle.number_types.specs.declared.number_op.NumberOp.TheVariants.{Take, Short, Give, Full, AtLeast, Below, Value}
use Rattle.number_types.specs.Calls.{most_number, is_amount}
use Rattle.number_types.specs.Number.{Number}
use Rattle.number_types.specs.Operations.{op_at}

-- of what may be meant, what has this name is found: one at most has it
pub record IsNamed {A : Type 0} (may : A → Type 0) (name_of : A → List ℕ) (name : List ℕ) (found : Option A) : Type 0 where
  pub has_name : IfSome found (λ a. may a × (name_of a ≡ name))
  pub all : (a : A) → may a → name_of a ≡ name → found ≡ Some a

-- a call that a name may ask for: an amount has 32 bits, and `any` is none
abbrev pub MayBeAsked : NumberCall → Type 0
MayBeAsked (calls.Take n) = n ≤ most_number
MayBeAsked (calls.Give n) = n ≤ most_number
MayBeAsked (calls.AtLeast n) = n ≤ most_number
MayBeAsked calls.Value = Unit {0}
MayBeAsked _ = ⊥

-- the call that asks for an operation
abbrev pub call_for : NumberOp → NumberCall
call_for (Take n) = calls.Take n
call_for (Short n) = calls.Take n
call_for (Give n) = calls.Give n
call_for (Full n) = calls.Give n
call_for (AtLeast n) = calls.AtLeast n
call_for (Below n) = calls.AtLeast n
call_for (Value n) = calls.Value

-- whether a line's call answers a call: it lists the same one, or takes any amount that is 1 to max
abbrev pub answers : ℕ → NumberCall → NumberCall → Bool
answers max (calls.Take n) (calls.Take k) = k == n
answers max (calls.Take n) calls.TakeAny = is_amount max n
answers max (calls.Give n) (calls.Give k) = k == n
answers max (calls.Give n) calls.GiveAny = is_amount max n
answers max (calls.AtLeast n) (calls.AtLeast k) = k == n
answers max calls.Value calls.Value = true
answers max _ _ = false

-- what a line's call is told of an amount: nothing, where it lists one
abbrev pub told : NumberCall → ℕ → Option ℕ
told calls.TakeAny n = Some n
told calls.GiveAny n = Some n
told calls.Value n = Some n
told _ n = None

-- the least number whose operation answers a call
pub record IsFirstFor (v : Number) (call : NumberCall) (found : Option ℕ) : Type 0 where
  pub of_call : IfSome found (λ k. (op : NumberOp) × (op_at v k ≡ Some op) × (call_for op ≡ call))
  pub least : (p : ℕ) (op : NumberOp) → op_at v p ≡ Some op → call_for op ≡ call → (k : ℕ) × (found ≡ Some k) × (k ≤ p)
