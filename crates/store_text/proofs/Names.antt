-- Objects that have a name, and the lines that have it.
use Rattle.std.proofs.Common.{◌≡◌, ℕ, Bool, true, false, ◌||◌, List, [], ◌∷◌, ◌++◌, map, Option, Some, None, refl, ap}
use Rattle.std.specs.List.{list_any, cons_option}
use Rattle.std.specs.Option.{option_to_list}
use Rattle.std.specs.Str.{bytes_eq}
use Rattle.type_table.specs.declared.kind.Kind.{Kind}
use Rattle.store_text.specs.Body.{is_twin}
use Rattle.store_text.specs.Kept.{line_of_object, entry_line, end_lines, lines_of_parts}
use Rattle.store_text.specs.Named.{names_of}
use Rattle.object_name.specs.ObjectName.{is_same_name}
use Rattle.store_text.specs.declared.line.ObjectLine.{ObjectLine}
use Rattle.store_text.specs.declared.line.Line.{Line}
use Rattle.store_text.specs.declared.line.Line.TheVariants.{Object}

-- one of these objects has the name
abbrev pub have_name : Option (List ℕ) → List ObjectLine → Bool
have_name name objects = list_any (λ (o : ObjectLine). is_same_name name o.name) objects

-- ---- by the names alone

-- a name is among those of objects where an object has it
pub among_names : (w : List ℕ) (objects : List ObjectLine) → list_any (bytes_eq w) (names_of objects) ≡ have_name (Some w) objects
among_names w [] = refl
among_names w (o ∷ objects) = go o.name (among_names w objects)
  where
    go : (name : Option (List ℕ)) → list_any (bytes_eq w) (names_of objects) ≡ have_name (Some w) objects → list_any (bytes_eq w) (cons_option name (names_of objects)) ≡ (is_same_name (Some w) name || have_name (Some w) objects)
    go None e = e
    go (Some v) e = ap (λ b. bytes_eq w v || b) e

-- the names of objects with one more
pub names_more : (objects : List ObjectLine) (o : ObjectLine) → names_of (objects ++ o ∷ []) ≡ names_of objects ++ option_to_list o.name
names_more [] o = go o.name
  where
    go : (name : Option (List ℕ)) → cons_option name [] ≡ option_to_list name
    go None = refl
    go (Some v) = refl
names_more (p ∷ objects) o = go p.name (names_more objects o)
  where
    go : (name : Option (List ℕ)) → names_of (objects ++ o ∷ []) ≡ names_of objects ++ option_to_list o.name → cons_option name (names_of (objects ++ o ∷ [])) ≡ cons_option name (names_of objects) ++ option_to_list o.name
    go None e = e
    go (Some v) e = ap (λ ws. v ∷ ws) e

-- ---- by the lines

module _ {A : Type 0} (kind : Kind) (file : ℕ) (name : Option (List ℕ)) where
  -- a line has the same name as this object
  abbrev its_twin : Line A → Bool
  its_twin = is_twin (Object kind file name)

  none_behind : (entries : List A) (has_ended : Bool) → list_any its_twin (map entry_line entries ++ end_lines has_ended) ≡ false
  none_behind [] false = refl
  none_behind [] true = refl
  none_behind (y ∷ entries) has_ended = none_behind entries has_ended

  of_objects : (objects : List ObjectLine) (rest : List (Line A)) → list_any its_twin rest ≡ false → list_any its_twin (map line_of_object objects ++ rest) ≡ have_name name objects
  of_objects [] rest none = none
  of_objects (o ∷ objects) rest none = ap (λ b. is_same_name name o.name || b) (of_objects objects rest none)

  -- a line has its name where an object has it
  pub twins_are : (size max : Option ℕ) (objects : List ObjectLine) (entries : List A) (has_ended : Bool) → list_any its_twin (lines_of_parts size max objects entries has_ended) ≡ have_name name objects
  twins_are size max objects entries has_ended = behind size max
    where
      parts : list_any its_twin (map line_of_object objects ++ (map entry_line entries ++ end_lines has_ended)) ≡ have_name name objects
      parts = of_objects objects (map entry_line entries ++ end_lines has_ended) (none_behind entries has_ended)

      behind : (size max : Option ℕ) → list_any its_twin (lines_of_parts size max objects entries has_ended) ≡ have_name name objects
      behind None None = parts
      behind None (Some most) = parts
      behind (Some n) None = parts
      behind (Some n) (Some most) = parts
