-- The tables of the counter and of the one-way type as those of objects.
use Rattle.std.proofs.Common.{◌≡◌, ℕ, zero, suc, [], ◌∷◌, Some, slice_get, refl, sym, subst, ap, ◌∙◌, arith}
use Rattle.std.proofs.lemmas.Option.{none-some, same_Some}
use Rattle.type_table.specs.Table.{Table}
use Rattle.type_table.specs.Examples.{counter_table, one_way}
use Rattle.declared_types.specs.declared.type_file.TypeFile.{TypeFile}
use Rattle.declared_types.specs.Declarations.{table_of}
use Rattle.declared_types.specs.declared.declared_type.Declaration.{Declaration}
use Rattle.declared_types.specs.declared.declared_type.Declaration.TheVariants.{Table as Tables}
use Rattle.table_checker.specs.Examples.{counter_file, one_way_file}
use Rattle.store_text.specs.declared.line.ObjectLine.{ObjectLine}
use Rattle.object_types.specs.Examples.{two_types, line_in_place}
use Rattle.store_files.specs.Types.{IsTableOfObject, AreTablesOf}

-- the table of an object at a known place
table_of-place : (place : ℕ) (file : TypeFile) (o : ObjectLine) (table : Table) → slice_get two_types place ≡ Some (Tables file)
    → Some (line_in_place place) ≡ Some o → Some file.table ≡ Some table → IsTableOfObject two_types o table
table_of-place place file o table there object is =
    subst (λ (line : ObjectLine). IsTableOfObject two_types line table) (same_Some (line_in_place place) o object)
    (record { declaration = Tables file; there = there; is = sym (same_Some file.table table is) })

each-table : (x : ℕ) (o : ObjectLine) (table : Table) → slice_get (line_in_place 1 ∷ line_in_place 0 ∷ []) x ≡ Some o → slice_get (one_way ∷ counter_table ∷ []) x ≡ Some table
    → IsTableOfObject two_types o table
each-table zero o table object is = table_of-place 1 one_way_file o table refl object is
each-table (suc zero) o table object is = table_of-place 0 counter_file o table refl object is
each-table (suc (suc x)) o table object is = absurd (none-some o object)

pub two-tables : AreTablesOf two_types (line_in_place 1 ∷ line_in_place 0 ∷ []) (one_way ∷ counter_table ∷ [])
two-tables = record { as_many = refl; each = each-table }

-- the counter is not the type at place 1
pub counter-elsewhere : IsTableOfObject two_types (line_in_place 1) counter_table → ⊥
counter-elsewhere of =
    let states : 3 ≡ 5 = ap (λ (T : Table). T.states) of.is ∙ ap (λ (declaration : Declaration). (table_of declaration).states) (sym (same_Some (Tables one_way_file) of.declaration of.there)) in
    omega (arith, states)
