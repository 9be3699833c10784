-- What objects of any kind of recovery mean.
use Rattle.std.specs.Prelude.{◌≡◌, ℕ, List, map, Some, slice_get}
use Rattle.object_trait.specs.Meaning.{Meaning}
use Rattle.table_checker.specs.Checked.{Checked}
use Rattle.object_trait.specs.Steps.{IsFresh}
use Rattle.objects.specs.declared.object.Object.{Object}
use Rattle.objects.specs.declared.object.Object.TheVariants.{Undo, Intentions, Escrow}

-- what the manager inside means
abbrev pub meaning_of : Object → Meaning
meaning_of (Undo m) = m
meaning_of (Intentions m) = m
meaning_of (Escrow m) = m

-- each of them is as it was made
abbrev pub AreNew : List Object → Type 0
AreNew os = (x : ℕ) (m : Meaning) → slice_get (map meaning_of os) x ≡ Some m → IsFresh m

-- their types
abbrev pub checked_types : List Object → List Checked
checked_types os = map (λ (m : Meaning). m.checked) (map meaning_of os)
