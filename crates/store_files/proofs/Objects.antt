-- What declares the types of a store's objects, and their tables, one after another.
use Rattle.std.proofs.Common.{◌≡◌, ◌∙◌, ℕ, ◌+◌, ◌<◌, List, [], ◌∷◌, ◌++◌, length, take, map, get_or, Some, None, IfSome, ap, subst, sym, refl}
use Rattle.std.specs.Prelude.{slice_get}
use Rattle.std.specs.Option.{option_map}
use Rattle.std.proofs.lemmas.Option.{slice_get-get_or, slice_get-map}
use Rattle.type_table.specs.Table.{Table}
use Rattle.type_table.proofs.Elements.{take-found}
use Rattle.declared_types.specs.declared.declared_type.Declaration.{Declaration}
use Rattle.store_text.specs.declared.line.ObjectLine.{ObjectLine}
use Rattle.object_types.specs.Types.{HasDeclaration, IsFirstWith}
use Rattle.object_types.specs.declared.object_fault.ObjectFault.TheVariants.{NoType}
use Rattle.object_types.proofs.Pairs.{each_has, each_push, one_more}
use Rattle.store_files.specs.Types.{Held, AreReadAt, AreTablesOf, IsFirstFaultyOf, IsTableOfObject}

-- ---- files

-- an element by its place
pub at_map : {X Y : Type 0} (f : X → Y) (xs : List X) (i : ℕ) (d : X) → i < length xs → slice_get (map f xs) i ≡ Some (f (get_or xs i d))
at_map f xs i d inside = slice_get-map f xs i ∙ ap (option_map f) (slice_get-get_or xs i d inside)

module _ {T : Type 0} (describes : List ℕ → T → Type 0) (is_faulty : List ℕ → Type 0) (holds : Held) (paths : List (List ℕ)) (values : List T) (i : ℕ) (path : List ℕ)
    (there : slice_get paths i ≡ Some path) (known : AreReadAt describes holds (take i paths) values) where
  -- one more path has its value
  pub files_push : (new : List T) (value : T) → IfSome (holds path) (λ text. describes text value) → new ≡ values ++ value ∷ [] → AreReadAt describes holds (take (i + 1) paths) new
  files_push new value here is =
      let grown : AreReadAt describes holds (take i paths ++ path ∷ []) (values ++ value ∷ []) = record {
        as_many = one_more (take i paths) path values value known.as_many;
        each = each_push (λ (p : List ℕ) (v : T). IfSome (holds p) (λ text. describes text v)) (take i paths) values path value known.as_many known.each here;
      } in
      subst (λ (ps : List (List ℕ)). AreReadAt describes holds ps new) (sym (take-found paths i path there)) (subst (AreReadAt describes holds (take i paths ++ path ∷ [])) (sym is) grown)

  -- the first path without one
  pub first_faulty : IfSome (holds path) is_faulty → IsFirstFaultyOf describes is_faulty holds paths
  first_faulty fault = record { k = i; path = path; there = there; values = values; before = known; faulty = fault }

-- ---- tables

-- one more object has its table
pub tables_push : (declared : List Declaration) (objects : List ObjectLine) (tables new : List Table) (i : ℕ) (o : ObjectLine) (table : Table) → slice_get objects i ≡ Some o
    → AreTablesOf declared (take i objects) tables → IsTableOfObject declared o table → new ≡ tables ++ table ∷ [] → AreTablesOf declared (take (i + 1) objects) new
tables_push declared objects tables new i o table there known here is =
    let grown : AreTablesOf declared (take i objects ++ o ∷ []) (tables ++ table ∷ []) = record {
      as_many = one_more (take i objects) o tables table known.as_many;
      each = each_push (IsTableOfObject declared) (take i objects) tables o table known.as_many known.each here;
    } in
    subst (λ (os : List ObjectLine). AreTablesOf declared os new) (sym (take-found objects i o there)) (subst (AreTablesOf declared (take i objects ++ o ∷ [])) (sym is) grown)

-- the first object without one
pub first_without : (declared : List Declaration) (objects : List ObjectLine) (x : ℕ) (o : ObjectLine) (tables : List Table) → slice_get objects x ≡ Some o
    → AreTablesOf declared (take x objects) tables → slice_get declared o.file ≡ None → IsFirstWith HasDeclaration declared objects (NoType x o.file)
first_without declared objects x o tables there known none = record {
  x = x;
  o = o;
  there = there;
  before = λ y p got.
      let has = each_has (IsTableOfObject declared) (take x objects) tables known.as_many known.each y p got in
      (has.2.declaration, has.2.there);
  at = (refl, refl, none);
}
