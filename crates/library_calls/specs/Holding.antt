-- What a handle holds, as one of the things that it may hold.
use Rattle.std.specs.Prelude.{List, map, Option, Some, None}
use Rattle.table_checker.specs.Checked.{Checked}
use Rattle.object_trait.specs.Meaning.{Meaning}
use Rattle.objects.specs.Object.{meaning_of}
use Rattle.store_laws.specs.Stored.{Stored}
use Rattle.library_calls.specs.declared.held.Held.{Held}
use Rattle.library_calls.specs.declared.held.Held.TheVariants.{OfType, OfObjects, OfStore}

-- the type
abbrev pub type_at : Option Held → Option Checked
type_at None = None
type_at (Some (OfType a)) = Some a.value
type_at (Some (OfObjects os)) = None
type_at (Some (OfStore s)) = None

-- the objects of which no store is made yet
abbrev pub objects_at : Option Held → Option (List Meaning)
objects_at None = None
objects_at (Some (OfType a)) = None
objects_at (Some (OfObjects os)) = Some (map meaning_of os.items)
objects_at (Some (OfStore s)) = None

-- the store
abbrev pub store_at : Option Held → Option Stored
store_at None = None
store_at (Some (OfType a)) = None
store_at (Some (OfObjects os)) = None
store_at (Some (OfStore s)) = Some s
