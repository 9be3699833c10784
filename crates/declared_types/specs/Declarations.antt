-- What declares a type: a table's file, or a number, whose table is written nowhere.
use Rattle.std.specs.Prelude.{◌≡◌, ℕ, ◌+◌, nat_eq, true, List, [], ◌∷◌, map, replicate, suc, refl}
use Rattle.std.proofs.Common.{add-one, ap, sym, ◌∙◌}
use Rattle.std.proofs.lemmas.List.{length-map, length-replicate}
use Rattle.std.specs.List.{range_with_len}
use Rattle.std.proofs.lemmas.List.FromFn.{length-map-range_with_len}
use Rattle.equi_cert.specs.Relation.{rows_by}
use Rattle.type_table.specs.Table.{Table as TableValue, IsTable}
use Rattle.type_table.specs.declared.kind.Kind.{Kind}
use Rattle.type_table.specs.declared.kind.Kind.TheVariants.{Undo, Intentions, Escrow}
use Rattle.type_table.specs.declared.op.Op.{Op}
use Rattle.declared_types.specs.TypeFile.{file_at}
use Rattle.declared_types.specs.declared.type_file.TypeFile.{TypeFile}
use Rattle.number_types.specs.Number.{Number, IsNumber, number_at}
use Rattle.number_types.specs.Operations.{number_ops, number_rows, number_table}
use Rattle.declared_types.specs.declared.declared_type.Declaration.{Declaration}
use Rattle.declared_types.specs.declared.declared_type.Declaration.TheVariants.{Table, Number as Numbers}

-- the file of a number: at all its values, each of which looks like itself alone, and with no pair in conflict
abbrev pub number_file : Number → TypeFile
number_file v = record {
  table = number_table v;
  reach = true ∷ replicate v.max true;
  relation = rows_by (v.max + 1) nat_eq;
  undo = map (λ (op : Op). []) (number_ops v);
  intentions = map (λ (op : Op). []) (number_ops v);
  reach_fits = ap suc (length-replicate v.max true) ∙ sym (add-one v.max);
  some_reach = refl;
  relation_fits = length-map-range_with_len (λ s. map (nat_eq s) (range_with_len 0 (v.max + 1))) 0 (v.max + 1);
  undo_fits = length-map (number_ops v) (λ (op : Op). []);
  intentions_fits = length-map (number_ops v) (λ (op : Op). []);
}

-- the file that says as much as a declaration
abbrev pub file_of : Declaration → TypeFile
file_of (Table file) = file
file_of (Numbers number) = number_file number

-- its table
abbrev pub table_of : Declaration → TableValue
table_of declaration = (file_of declaration).table

-- what declares the type that begins at another state
abbrev pub declared_at : Declaration → ℕ → Declaration
declared_at (Table file) s = Table (file_at file s)
declared_at (Numbers number) s = Numbers (number_at number s)

-- whatever a text was, it declares a table or a number, whose parts are in their ranges
abbrev pub IsFitDeclaration : Declaration → Type 0
IsFitDeclaration (Table file) = IsTable file.table
IsFitDeclaration (Numbers number) = IsNumber number

-- a number is declared for escrow alone
abbrev pub IsDeclaredFor : Kind → Declaration → Type 0
IsDeclaredFor kind (Table file) = Unit {0}
IsDeclaredFor kind (Numbers number) = kind ≡ Escrow

-- the names of the operations that are listed, by their places: of a number those of its lines
abbrev pub rows_of : Declaration → List Op
rows_of (Table file) = file.table.ops
rows_of (Numbers number) = number_rows number

-- a kind for which a type is declared by a table
abbrev pub IsByTable : Kind → Type 0
IsByTable Undo = Unit {0}
IsByTable Intentions = Unit {0}
IsByTable Escrow = ⊥
