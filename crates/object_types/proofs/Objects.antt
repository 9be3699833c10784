-- The types of objects, one after another.
use Rattle.std.proofs.Common.{◌≡◌, ◌∙◌, ℕ, ◌+◌, ◌<◌, List, [], ◌∷◌, ◌++◌, length, take, map, get_or, Some, Result, Ok, Err, ap, ap₂, subst, sym, refl, arith}
use Rattle.std.specs.Prelude.{slice_get, IfErr}
use Rattle.std.specs.declared.sync.Arc.{Arc}
use Rattle.std.specs.Option.{option_map}
use Rattle.std.proofs.lemmas.List.{length-map}
use Rattle.std.proofs.lemmas.Option.{slice_get-map, slice_get_read, slice_get_within}
use Rattle.type_table.specs.declared.kind.Kind.{Kind}
use Rattle.type_table.proofs.Elements.{take-found}
use Rattle.type_table.specs.declared.kind.Kind.TheVariants.{Escrow}
use Rattle.number_types.specs.Number.{Number}
use Rattle.declared_types.specs.declared.declared_type.Declaration.{Declaration}
use Rattle.declared_types.specs.declared.declared_type.Declaration.TheVariants.{Number as Numbers}
use Rattle.table_checker.specs.Checked.{Checked, IsChecked}
use Rattle.declared_types.specs.Declarations.{number_file}
use Rattle.store_text.specs.declared.line.ObjectLine.{ObjectLine}
use Rattle.object_types.specs.Types.{AreTypesOf, HasAcceptedType, IsCheckedFor, IsFaultAt, IsFirstObjectFault, IsRefusedFor, IsSharedAt, IsTypeOf, value_of}
use Rattle.object_types.specs.declared.object_fault.ObjectFault.{ObjectFault}
use Rattle.object_types.specs.declared.object_fault.ObjectFault.TheVariants.{NoType, NeedsEscrow, Refused, NoMemory}
use Rattle.object_types.proofs.Pairs.{each_has, each_push, one_more}

-- ---- types

-- one more object has its type
pub types_push : (declared : List Declaration) (objects : List ObjectLine) (types new : List Checked) (i : ℕ) (o : ObjectLine) (c : Checked) → slice_get objects i ≡ Some o
    → AreTypesOf declared (take i objects) types → IsTypeOf declared o c → new ≡ types ++ c ∷ [] → AreTypesOf declared (take (i + 1) objects) new
types_push declared objects types new i o c there known here is =
    let grown : AreTypesOf declared (take i objects ++ o ∷ []) (types ++ c ∷ []) = record {
      as_many = one_more (take i objects) o types c known.as_many;
      each = each_push (IsTypeOf declared) (take i objects) types o c known.as_many known.each here;
    } in
    subst (λ (os : List ObjectLine). AreTypesOf declared os new) (sym (take-found objects i o there)) (subst (AreTypesOf declared (take i objects ++ o ∷ [])) (sym is) grown)

-- the type of an object is that of one before it with the same kind and place
pub shared_type : {A : Type 0} (declared : List Declaration) (before : List ObjectLine) (types : List (Arc Checked A)) (j : ℕ) (o : ObjectLine) (shared a : Arc Checked A)
    → AreTypesOf declared before (map value_of types) → IsSharedAt before j o → shared ≡ get_or types j shared → value_of a ≡ value_of shared → IsTypeOf declared o (value_of a)
shared_type {A} declared before types j o shared a known sharing is same =
    let in_before : j < length before = slice_get_within before j sharing.other sharing.there in
    let in_types : j < length types = omega (arith, known.as_many, length-map types (value_of {A = A})) in
    let at : slice_get (map value_of types) j ≡ Some (value_of shared) =
    slice_get-map value_of types j ∙ ap (option_map value_of) (slice_get_read types (length types) j shared refl in_types is) in
    let its = known.each j sharing.other (value_of shared) sharing.there at in
    record {
      declaration = its.declaration;
      there = sym (ap (slice_get declared) sharing.file) ∙ its.there;
      checked = subst (λ (k : Kind). IsCheckedFor k its.declaration (value_of a)) sharing.kind (subst (IsCheckedFor sharing.other.kind its.declaration) (sym same) its.checked);
    }

-- what was accepted of a copy of a number
pub number_checked : {A : Type 0} (kind : Kind) (number copy : Number) (checked : Checked) (a : Arc Checked A) → kind ≡ Escrow → copy ≡ number → checked ≡ record { kind = Escrow; file = number_file copy }
    → IsChecked checked → value_of a ≡ checked → IsCheckedFor kind (Numbers number) (value_of a)
number_checked kind number copy checked a escrow copied is known same =
    (same ∙ is ∙ ap₂ (λ (k : Kind) (v : Number). record { kind = k; file = number_file v }) (sym escrow) copied, subst IsChecked (sym same) known, escrow)

-- what is refused of a declaration is refused of the object at its place
pub refused_at : {T : Type 0} (declared : List Declaration) (x : ℕ) (o : ObjectLine) (declaration : Declaration) (r : Result T ObjectFault) → slice_get declared o.file ≡ Some declaration
    → IfErr r (IsRefusedFor o.kind declaration x) → IfErr r (IsFaultAt declared x o)
refused_at declared x o declaration (Ok v) there refused = tt
refused_at declared x o declaration (Err (NoType y place)) there refused = absurd refused
refused_at declared x o declaration (Err (NeedsEscrow y)) there refused = (declaration, there, refused)
refused_at declared x o declaration (Err (Refused y refusal)) there refused = (declaration, there, refused)
refused_at declared x o declaration (Err NoMemory) there refused = tt

-- the objects before one are accepted
accepted_before : (declared : List Declaration) (objects : List ObjectLine) (x : ℕ) (types : List Checked) → AreTypesOf declared (take x objects) types
    → (y : ℕ) (p : ObjectLine) → slice_get (take x objects) y ≡ Some p → HasAcceptedType declared p
accepted_before declared objects x types known y p got =
    let has = each_has (IsTypeOf declared) (take x objects) types known.as_many known.each y p got in
    (has.0, has.2)

-- the first object without a type
pub first_fault : (declared : List Declaration) (objects : List ObjectLine) (x : ℕ) (o : ObjectLine) (types : List Checked) (fault : ObjectFault) → slice_get objects x ≡ Some o
    → AreTypesOf declared (take x objects) types → IsFaultAt declared x o fault → IsFirstObjectFault HasAcceptedType declared objects fault
first_fault declared objects x o types (NoType y place) there known at =
    record { x = x; o = o; there = there; before = accepted_before declared objects x types known; at = at }
first_fault declared objects x o types (NeedsEscrow y) there known at =
    record { x = x; o = o; there = there; before = accepted_before declared objects x types known; at = at }
first_fault declared objects x o types (Refused y refusal) there known at =
    record { x = x; o = o; there = there; before = accepted_before declared objects x types known; at = at }
first_fault declared objects x o types NoMemory there known at = tt

-- ---- lines

-- a line shares the type of another where the kinds and the places are the same
pub same_line : (lines : List ObjectLine) (i : ℕ) (other line : ObjectLine) → i < length lines → other ≡ get_or lines i other → other.kind ≡ line.kind → other.file ≡ line.file
    → IsSharedAt lines i line
same_line lines i other line inside is kinds places = record { other = other; there = slice_get_read lines (length lines) i other refl inside is; kind = kinds; file = places }
