-- Calls by their numbers, as calls by names.
use Rattle.std.specs.Prelude.{ℕ, List, [], map, zip, Bool, false, ◌==◌, if◌then◌else◌, Option, Some, None, slice_get}
use Rattle.type_table.specs.Table.{call_of, first_op}
use Rattle.object_trait.specs.Object.{Object}
use Rattle.attempts.specs.Commands.{CallAt}

-- it is this number
abbrev pub is_call_number : ℕ → Option ℕ → Bool
is_call_number c None = false
is_call_number c (Some k) = k == c

-- the name of call c at an object: that of the call whose first operation it is. Where there is none it is empty, and no call has it
abbrev pub numbered_name : Option Object → ℕ → List ℕ
numbered_name None c = []
numbered_name (Some o) c = if is_call_number c (first_op o.table (call_of o.table c)) then call_of o.table c else []

-- call c at object x, by its name
abbrev pub named_call : List Object → ℕ → ℕ → CallAt
named_call objects x c = (x, numbered_name (slice_get objects x) c)

-- the calls with these numbers, each at the object at its place
abbrev pub named_calls : List Object → List ℕ → List ℕ → List CallAt
named_calls objects xs cs = map (λ (p : ℕ × ℕ). named_call objects (p.0) (p.1)) (zip xs cs)
