-- How a store is made of types.
use Rattle.std.specs.Prelude.{◌≡◌, ℕ, List, [], ◌∷◌, ◌++◌, Option, Some}
use Rattle.table_checker.specs.Checked.{Checked}
use Rattle.object_trait.specs.Meaning.{Meaning}
use Rattle.object_trait.specs.Steps.{IsFresh}
use Rattle.store_limits.specs.declared.limits.Limits.{Limits}
use Rattle.store.specs.Ends.{MayBegin, RefusesNew, begun}
use Rattle.type_table.specs.Limits.{longest_history}
use Rattle.store.specs.declared.refusals.NewRefusal.{NewRefusal}
use Rattle.library_calls.specs.Codes.{number, new_code}
use Rattle.library_calls.specs.Holding.{objects_at, store_at}
use Rattle.library_calls.specs.declared.code.Code.TheVariants.{Done, NoMemory}
use Rattle.library_calls.specs.declared.held.Held.{Held}

-- another object: a new one of this type after the others, or memory was refused and there are the same
pub data AddsObject (ms : List Meaning) (c : Checked) (n : ℕ) (new : Option Held) : Type 0 where
  added : (m : Meaning) → n ≡ number Done → IsFresh m → m.checked ≡ c → objects_at new ≡ Some (ms ++ m ∷ []) → AddsObject ms c n new
  memory_refused : n ≡ number NoMemory → objects_at new ≡ Some ms → AddsObject ms c n new

-- limits of this many events, open transactions and objects
abbrev pub limits_of : ℕ → ℕ → ℕ → Limits
limits_of events opens objects = record { events = events; «open» = opens; objects = objects }

-- a store of these objects with no event yet, or the code of the refusal and the same objects
pub data MakesStore (ms : List Meaning) (limits : Limits) (n : ℕ) (new : Option Held) : Type 0 where
  made : n ≡ number Done → MayBegin longest_history ms limits → store_at new ≡ Some (begun ms limits) → MakesStore ms limits n new
  not_made : (why : NewRefusal) → n ≡ number (new_code why) → RefusesNew longest_history ms limits why → objects_at new ≡ Some ms → MakesStore ms limits n new
