-- The names of objects.
use Rattle.std.specs.Prelude.{◌≡◌, ℕ, true, List}
use Rattle.std.specs.List.{filter_map, list_all, IsDistinct}
use Rattle.std.specs.Str.{bytes_eq}
use Rattle.object_name.specs.ObjectName.{is_object_name}
use Rattle.store_text.specs.declared.line.ObjectLine.{ObjectLine}

-- the names that objects have, in the order of the objects
abbrev pub names_of : List ObjectLine → List (List ℕ)
names_of objects = filter_map (λ (o : ObjectLine). o.name) objects

-- each name is one, and no two objects have the same
pub record AreNamed (objects : List ObjectLine) : Type 0 where
  pub each : list_all is_object_name (names_of objects) ≡ true
  pub distinct : IsDistinct bytes_eq (names_of objects)
