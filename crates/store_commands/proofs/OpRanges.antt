-- The operations of what declares a type are in the ranges of a history's text.
use Rattle.std.proofs.Common.{◌≡◌, ℕ, zero, suc, ◌*◌, ◌/◌, ◌<◌, ◌≤◌, true, is_some, leb, ltb, List, [], length, Option, Some, None, IfSome, refl, sym, ap, ◌∙◌, subst, inl, inr, arith}
use Rattle.std.specs.Prelude.{All, slice_get}
use Rattle.std.proofs.Math.ListN.{get_or-map}
use Rattle.std.proofs.lemmas.Bool.{cases_lt, false≢true, le-leb}
use Rattle.std.proofs.lemmas.List.{get_or_past}
use Rattle.std.proofs.lemmas.List.Elements.{All-get_or}
use Rattle.std.proofs.lemmas.Option.{get_or_from_slice_get, slice_get_within}
use Rattle.type_table.specs.Operation.{amount_by, place_of}
use Rattle.type_table.specs.Table.{Table, IsTable, call_of}
use Rattle.type_table.specs.declared.op.Op.{Op}
use Rattle.type_table.proofs.Elements.{element_at}
use Rattle.number_types.specs.Number.{Number, IsNumber}
use Rattle.number_types.specs.Operations.{op_at}
use Rattle.number_types.specs.declared.number_op.NumberOp.{NumberOp}
use Rattle.number_types.proofs.Tables.{below_count, found, has_what_is_there}
use Rattle.table_checker.specs.Checked.{Checked}
use Rattle.declared_types.specs.Declarations.{table_of, IsFitDeclaration}
use Rattle.declared_types.specs.declared.declared_type.Declaration.{Declaration}
use Rattle.declared_types.specs.declared.declared_type.Declaration.TheVariants as declared
use Rattle.store_text.specs.declared.line.ObjectLine.{ObjectLine}
use Rattle.object_types.specs.Types.{AreTypesOf}
use Rattle.script_run.specs.Laws.{AreOpsInRange, IsOpInRange}

-- ---- one operation

-- the amount of a number of an operation, where the number is small enough
amount_fits : (q : ℕ) → q ≤ 4294967296 → IfSome (amount_by q) (λ n. leb n 4294967295 ≡ true)
amount_fits zero low = tt
amount_fits (suc n) low = le-leb n 4294967295 (omega (arith, low))

in_range : (k : ℕ) → place_of k < 64 → k < 256 * 4294967297 → IsOpInRange k
in_range k place low = record {
  place = le-leb (place_of k) 63 (omega (arith, place));
  amount = amount_fits (k / 256) (omega (arith, low));
}

-- ---- of a table

-- where there is none, there is no name
no_name : (T : Table) (k : ℕ) → length T.ops ≤ k → call_of T k ≡ []
no_name T k past = get_or-map (λ (o : Op). o.call) T.ops k (record { call = []; reply = [] }) ∙ ap (λ (o : Op). o.call) (get_or_past T.ops k (record { call = []; reply = [] }) past)

table_ops : (T : Table) → IsTable T → AreOpsInRange T
table_ops T is k has = elim (cases_lt k (length T.ops)) [
  | inl below ↦ let few = is.ops_fit in in_range k (omega (arith, below, few)) (omega (arith, below, few))
  | inr past ↦ absurd (false≢true (sym (ap (λ (name : List ℕ). ltb 0 (length name)) (no_name T k past)) ∙ has))
]

-- ---- of a number

number_op : (v : Number) → IsNumber v → (k : ℕ) (o : Option NumberOp) → op_at v k ≡ o → is_some o ≡ true → IsOpInRange k
number_op v known k None is some = absurd (false≢true some)
number_op v known k (Some op) is some =
    let at = found v k op is in
    let line = slice_get_within v.calls (place_of k / 2) at.call at.at in
    in_range k (omega (arith, line, known.calls_fit)) (omega (arith, below_count v k op known is, known.max_fits))

-- ---- of what declares a type

pub declared_ops : (d : Declaration) → IsFitDeclaration d → AreOpsInRange (table_of d)
declared_ops (declared.Table file) fit = table_ops file.table fit
declared_ops (declared.Number v) fit = λ k has. number_op v fit k (op_at v k) refl (has_what_is_there v k fit ∙ has)

-- so each type of objects has operations in these ranges
pub types_ops : (declared : List Declaration) (objects : List ObjectLine) (types : List Checked) → AreTypesOf declared objects types → All IsFitDeclaration declared
    → (x : ℕ) (c : Checked) → slice_get types x ≡ Some c → AreOpsInRange c.file.table
types_ops declared objects types are fit x c there =
    let low : x < length objects = omega (arith, slice_get_within types x c there, are.as_many) in
    let object = element_at objects x low in
    let is = are.each x object.0 c object.1 there in
    let one : IsFitDeclaration is.declaration =
    subst IsFitDeclaration (get_or_from_slice_get declared object.0.file is.declaration is.declaration is.there)
    (All-get_or IsFitDeclaration declared object.0.file is.declaration (slice_get_within declared object.0.file is.declaration is.there) fit)
    in
    subst (λ (d : Checked). AreOpsInRange d.file.table) (sym is.checked.0) (declared_ops is.declaration one)
