-- A table that holds calls.
use Rattle.std.proofs.Common.{◌≡◌, List, IfOk, Result, Ok, Err, sym, subst}
use Rattle.object_calls.specs.declared.call.NamedCall.{NamedCall}

-- what is so of the calls is so of the table
pub held_as : (P : List NamedCall → Type 0) {E : Type 0} {calls : List NamedCall} (made : Result (List NamedCall) E) → IfOk made (λ its. its ≡ calls) → P calls → IfOk made P
held_as P (Ok its) is holds = subst P (sym is) holds
held_as P (Err e) is holds = tt
