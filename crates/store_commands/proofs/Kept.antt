-- What a source says stays while files are read, and so does what was read.
use Rattle.std.proofs.Common.{◌≡◌, ℕ, List, Option, IfSome, subst}
use Rattle.table_checker.specs.Checked.{Checked}
use Rattle.table_checker.specs.declared.refusal.CheckRefusal.{CheckRefusal}
use Rattle.store_text.specs.declared.line.ObjectLine.{ObjectLine}
use Rattle.store_files.specs.ObjectTypes.{AreTypesAt, HasNoEscrow, HasNoType, HasTypeFault, IsRefusedObject, in_type, no_escrow, no_type}
use Rattle.store_files.specs.Types.{AreReadAt, Held, IsFirstFaultyOf}

module _ (holds later : Held) (kept : (other : List ℕ) → later other ≡ holds other) where
  pub files_kept : {T : Type 0} {describes : List ℕ → T → Type 0} (paths : List (List ℕ)) (values : List T) → AreReadAt describes later paths values → AreReadAt describes holds paths values
  files_kept {T} {describes} paths values are = record {
    as_many = are.as_many;
    each = λ k path value at there. subst (λ (o : Option (List ℕ)). IfSome o (λ text. describes text value)) (kept path) (are.each k path value at there);
  }

  pub faulty_kept : {T : Type 0} {describes : List ℕ → T → Type 0} {is_faulty : List ℕ → Type 0} (paths : List (List ℕ)) → IsFirstFaultyOf describes is_faulty later paths
      → IsFirstFaultyOf describes is_faulty holds paths
  faulty_kept {T} {describes} {is_faulty} paths first = record {
    k = first.k;
    path = first.path;
    there = first.there;
    values = first.values;
    before = files_kept _ first.values first.before;
    faulty = subst (λ (o : Option (List ℕ)). IfSome o is_faulty) (kept first.path) first.faulty;
  }

  pub types_kept : (words : List (List ℕ)) (objects : List ObjectLine) (types : List Checked) → AreTypesAt later words objects types → AreTypesAt holds words objects types
  types_kept words objects types at = record { declared = at.declared; held = files_kept words at.declared at.held; fit = at.fit; are = at.are }

  pub refused_kept : (words : List (List ℕ)) (objects : List ObjectLine) (x : ℕ) (refusal : CheckRefusal) → IsRefusedObject later words objects x refusal
      → IsRefusedObject holds words objects x refusal
  refused_kept words objects x refusal at = record { declared = at.declared; held = files_kept words at.declared at.held; first = at.first }

  no_type_kept : (words : List (List ℕ)) (objects : List ObjectLine) → HasNoType later words objects → HasNoType holds words objects
  no_type_kept words objects has = record { declared = has.declared; held = files_kept words has.declared has.held; x = has.x; place = has.place; first = has.first }

  no_escrow_kept : (words : List (List ℕ)) (objects : List ObjectLine) → HasNoEscrow later words objects → HasNoEscrow holds words objects
  no_escrow_kept words objects has = record { declared = has.declared; held = files_kept words has.declared has.held; x = has.x; first = has.first }

  pub type_fault_kept : (words : List (List ℕ)) (objects : List ObjectLine) → HasTypeFault later words objects → HasTypeFault holds words objects
  type_fault_kept words objects (in_type first) = in_type (faulty_kept words first)
  type_fault_kept words objects (no_type has) = no_type (no_type_kept words objects has)
  type_fault_kept words objects (no_escrow has) = no_escrow (no_escrow_kept words objects has)
