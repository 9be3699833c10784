-- The types of the objects that a text names, by the TYPE words beside it, and why there are none.
use Rattle.std.specs.Prelude.{◌≡◌, ◌⊎◌, ℕ, List, All, map, IfSome, Result, Ok, Err}
use Rattle.table_checker.specs.Checked.{Checked}
use Rattle.declared_types.specs.Declarations.{IsFitDeclaration}
use Rattle.declared_types.specs.declared.declared_type.Declaration.{Declaration}
use Rattle.table_checker.specs.declared.refusal.CheckRefusal.{CheckRefusal}
use Rattle.store_text.specs.declared.line.ObjectLine.{ObjectLine}
use Rattle.command_files.specs.Answers.{IsEarlyFault}
use Rattle.command_files.specs.declared.fault.Fault.{Fault}
use Rattle.object_types.specs.Types.{AreTypesOf, HasAcceptedType, IsFirstWith, value_of}
use Rattle.object_types.specs.declared.object_fault.ObjectFault.TheVariants.{NoType, NeedsEscrow, Refused as RefusedType}
use Rattle.store_files.specs.Types.{Held, AreDeclaredAt, IsFirstFaultyDeclaration}
use Rattle.store_files.specs.Lines.{refused_object_line}
use Rattle.store_files.specs.declared.found_types.ObjectTypes.{ObjectTypes}
use Rattle.store_files.specs.declared.found_types.ObjectTypes.TheVariants.{Accepted, Refused}

-- each TYPE word has what its text declares, in its ranges whatever the text was, and each object has for its type the one at the place that
-- it names
pub record AreTypesAt (holds : Held) (words : List (List ℕ)) (objects : List ObjectLine) (types : List Checked) : Type 0 where
  pub declared : List Declaration
  pub held : AreDeclaredAt holds words declared
  pub fit : All IsFitDeclaration declared
  pub are : AreTypesOf declared objects types

-- the type of object x isn't accepted for its kind, for this reason, and those of the objects before it are
pub record IsRefusedObject (holds : Held) (words : List (List ℕ)) (objects : List ObjectLine) (x : ℕ) (refusal : CheckRefusal) : Type 0 where
  pub declared : List Declaration
  pub held : AreDeclaredAt holds words declared
  pub first : IsFirstWith HasAcceptedType declared objects (RefusedType x refusal)

-- the text is the line of such an object
abbrev pub SaysRefused : Held → List (List ℕ) → List ObjectLine → List ℕ → Type 0
SaysRefused holds words objects text = (x : ℕ) × (refusal : CheckRefusal) × IsRefusedObject holds words objects x refusal × (text ≡ refused_object_line x refusal)

-- no TYPE word is at the place that an object names, and the types of the objects before it are accepted
pub record HasNoType (holds : Held) (words : List (List ℕ)) (objects : List ObjectLine) : Type 0 where
  pub declared : List Declaration
  pub held : AreDeclaredAt holds words declared
  pub x : ℕ
  pub place : ℕ
  pub first : IsFirstWith HasAcceptedType declared objects (NoType x place)

-- an object of another kind than escrow names a number, and the types of the objects before it are accepted
pub record HasNoEscrow (holds : Held) (words : List (List ℕ)) (objects : List ObjectLine) : Type 0 where
  pub declared : List Declaration
  pub held : AreDeclaredAt holds words declared
  pub x : ℕ
  pub first : IsFirstWith HasAcceptedType declared objects (NeedsEscrow x)

-- the text of a type has a fault; or none has one, and an object names no type, or a number without escrow
pub data HasTypeFault (holds : Held) (words : List (List ℕ)) (objects : List ObjectLine) : Type 0 where
  in_type : IsFirstFaultyDeclaration holds words → HasTypeFault holds words objects
  no_type : HasNoType holds words objects → HasTypeFault holds words objects
  no_escrow : HasNoEscrow holds words objects → HasTypeFault holds words objects

-- the types of the objects, or the first that isn't accepted; or why there are none
abbrev pub FindsTypes : Held → List (List ℕ) → List ObjectLine → Result ObjectTypes Fault → Type 0
FindsTypes holds words objects (Ok (Accepted types)) = AreTypesAt holds words objects (map value_of types.items)
FindsTypes holds words objects (Ok (Refused x refusal)) = IsRefusedObject holds words objects x refusal
FindsTypes holds words objects (Err fault) = IsEarlyFault (HasTypeFault holds words objects) fault

-- a text that names objects has a fault; or it has none, and a type's text has one, or an object has no type for its kind
abbrev pub HasFault : {T : Type 0} → (List ℕ → T → Type 0) → (List ℕ → Type 0) → (T → List ObjectLine) → Held → List ℕ → List (List ℕ) → Type 0
HasFault {T} describes is_faulty objects holds path words =
    IfSome (holds path) is_faulty ⊎ ((value : T) × IfSome (holds path) (λ text. describes text value) × HasTypeFault holds words (objects value))
