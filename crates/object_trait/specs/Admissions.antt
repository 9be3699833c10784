-- What a transaction meets that asks for an operation.
use Rattle.std.specs.Prelude.{ℕ, Bool, true, false, [], ◌∷◌, Option, Some, None, is_some}
use Rattle.type_table.specs.Run.{run}
use Rattle.object_trait.specs.Meaning.{Meaning, view_of}
use Rattle.object_trait.specs.Steps.{stopper}
use Rattle.object_trait.specs.declared.admission.Admission.{Admission}
use Rattle.object_trait.specs.declared.admission.Admission.TheVariants as admission

-- what is legal is free or blocked, by who keeps from it
abbrev pub admitted_by : Option ℕ → Admission
admitted_by None = admission.Free
admitted_by (Some u) = admission.Blocked u

abbrev pub admitted_where : Bool → Option ℕ → Admission
admitted_where false keeper = admission.Illegal
admitted_where true keeper = admitted_by keeper

-- t asks for operation k: whether it is legal in the state that t sees, and who keeps t from it
abbrev pub admission_of : Meaning → ℕ → ℕ → Admission
admission_of m t k = admitted_where (is_some (run m.checked.file.table (view_of m t) (k ∷ []))) (stopper m t k)
