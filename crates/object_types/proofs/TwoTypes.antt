-- Objects at the counter, at the one-way type and at no type.
use Rattle.std.proofs.Common.{◌≡◌, ℕ, zero, suc, [], ◌∷◌, take, Some, slice_get, refl, subst}
use Rattle.std.proofs.lemmas.Option.{none-some, same_Some}
use Rattle.table_checker.specs.Examples.{one_way_file}
use Rattle.declared_types.specs.declared.declared_type.Declaration.TheVariants.{Table}
use Rattle.store_text.specs.declared.line.ObjectLine.{ObjectLine}
use Rattle.object_types.specs.Types.{HasDeclaration, IsFirstWith}
use Rattle.object_types.specs.declared.object_fault.ObjectFault.TheVariants.{NoType}
use Rattle.object_types.specs.Examples.{two_types, line_in_place}

-- a type is at the first object's place
first-has_place : (y : ℕ) (p : ObjectLine) → slice_get (line_in_place 1 ∷ []) y ≡ Some p → HasDeclaration two_types p
first-has_place zero p at = subst (HasDeclaration two_types) (same_Some (line_in_place 1) p at) (Table one_way_file, refl)
first-has_place (suc y) p at = absurd (none-some p at)

pub second-unplaced : IsFirstWith HasDeclaration two_types (line_in_place 1 ∷ line_in_place 2 ∷ line_in_place 3 ∷ []) (NoType 1 2)
second-unplaced = record { x = 1; o = line_in_place 2; there = refl; before = first-has_place; at = (refl, refl, refl) }

-- no type is at the second object's
pub third-not_first : IsFirstWith HasDeclaration two_types (line_in_place 1 ∷ line_in_place 2 ∷ line_in_place 3 ∷ []) (NoType 2 3) → ⊥
third-not_first first =
    let there : slice_get (take first.x (line_in_place 1 ∷ line_in_place 2 ∷ line_in_place 3 ∷ [])) 1 ≡ Some (line_in_place 2) = rw (← first.at.0) refl in
    let place = first.before 1 (line_in_place 2) there in
    none-some place.0 place.1
