-- The rows of types: each is an operation, or of a call that takes any amount or answers the number.
use Rattle.std.proofs.Common.{◌≡◌, ◌∙◌, ℕ, zero, suc, ◌/◌, ◌%◌, ◌<◌, ◌≤◌, true, false, List, [], ◌∷◌, ◌++◌, length, get_or, slice_get, Option, None, Some, is_some, codes, refl, sym, ap, subst, arith, append-nil}
use Rattle.std.specs.List.{flat_map, list_all}
use Rattle.std.specs.Prelude.{IfSome}
use Rattle.std.proofs.lemmas.Bool.{and_parts, false≢true}
use Rattle.std.proofs.lemmas.List.{length-append}
use Rattle.std.proofs.lemmas.List.FromFn.{length-map-range_with_len}
use Rattle.std.proofs.lemmas.Option.{slice_get-get_or}
use Rattle.need_text.specs.Text.{listed_words, word_if, word_of}
use Rattle.number_types.specs.Number.{Number, IsNumber}
use Rattle.number_types.specs.Calls.{are_ascending, is_below}
use Rattle.number_types.specs.Operations.{names_or_none, number_rows, number_table, op_at, op_count, op_in, rows_of_call}
use Rattle.number_types.specs.declared.number_call.NumberCall.{NumberCall}
use Rattle.number_types.specs.declared.number_call.NumberCall.TheVariants as calls
use Rattle.number_types.proofs.LineRows.{few_rows}
use Rattle.number_types.proofs.Tables.{has_what_is_there}
use Rattle.declared_types.specs.Declarations.{rows_of, table_of}
use Rattle.declared_types.specs.declared.declared_type.Declaration.{Declaration}
use Rattle.declared_types.specs.declared.declared_type.Declaration.TheVariants.{Table, Number as Numbers}
use Rattle.declared_types.proofs.TableOps.{name_length, op_found}
use Rattle.type_table.specs.Limits.{most_ops}
use Rattle.type_table.specs.Name.{is_name}
use Rattle.type_table.specs.Operation.{place-of-operation, amount-of-operation}
use Rattle.type_table.specs.Table.{has_op}
use Rattle.type_table.specs.declared.op.Op.{Op}
use Rattle.declared_types.specs.declared.type_file.TypeFile.{TypeFile}
use Rattle.type_commands.specs.Rows.{any_bounds, any_op_at, any_ops, any_words, number_row_line}
use Rattle.type_commands.specs.declared.rows.AnyOp.{AnyOp}

-- ---- the call of a row

-- `value` is below no call
last_call : (d : NumberCall) → is_below calls.Value d ≡ false
last_call (calls.Take k) = refl
last_call calls.TakeAny = refl
last_call (calls.Give k) = refl
last_call calls.GiveAny = refl
last_call (calls.AtLeast k) = refl
last_call calls.Value = refl

-- so it has one row, which is the last
no_second : (cs : List NumberCall) → are_ascending (calls.Value ∷ cs) ≡ true → 1 < length (flat_map rows_of_call (calls.Value ∷ cs)) → ⊥
no_second [] ascending below = omega (arith, below)
no_second (d ∷ cs) ascending below =
    let all = (and_parts (list_all (is_below calls.Value) (d ∷ cs)) (are_ascending (d ∷ cs)) ascending).0 in
    let first = (and_parts (is_below calls.Value d) (list_all (is_below calls.Value) cs) all).0 in
    false≢true (sym (last_call d) ∙ first)

-- a row is the first or the second of the call at half its place
record IsRowOf (cs : List NumberCall) (k : ℕ) : Type 0 where
  pub call : NumberCall
  pub at : slice_get cs (k / 2) ≡ Some call
  pub only : call ≡ calls.Value → k % 2 ≡ 0

after : (c : NumberCall) (cs : List NumberCall) (j : ℕ) → IsRowOf cs j → IsRowOf (c ∷ cs) (suc (suc j))
after c cs j row =
    let half : suc (suc j) / 2 ≡ suc (j / 2) = omega arith in
    let rest : suc (suc j) % 2 ≡ j % 2 = omega arith in
    record { call = row.call; at = ap (slice_get (c ∷ cs)) half ∙ row.at; only = λ is. rest ∙ row.only is }

row_call : (cs : List NumberCall) (k : ℕ) → are_ascending cs ≡ true → k < length (flat_map rows_of_call cs) → IsRowOf cs k
row_call [] k ascending below = absurd (omega (arith, below))
row_call (c ∷ cs) zero ascending below = record { call = c; at = refl; only = λ is. refl }
row_call (c ∷ cs) (suc zero) ascending below = record {
  call = c;
  at = refl;
  only = λ is.
      let A : NumberCall → Type 0 = λ d. are_ascending (d ∷ cs) ≡ true in
      let B : NumberCall → Type 0 = λ d. 1 < length (flat_map rows_of_call (d ∷ cs)) in
      absurd (no_second cs (subst A is ascending) (subst B is below));
}
row_call (c ∷ cs) (suc (suc j)) ascending below =
    let few : length (rows_of_call c) ≤ 2 = omega (arith, few_rows (c ∷ []), ap (λ (rows : List Op). length rows) (append-nil (rows_of_call c))) in
    after c cs j (row_call cs j (and_parts (list_all (is_below c) cs) (are_ascending cs) ascending).1
    (omega (arith, below, few, length-append (rows_of_call c) (flat_map rows_of_call cs))))

-- ---- the operation of a row

-- one of a call that lists its amount
listed : (max : ℕ) (call : NumberCall) (second : ℕ) → second < 2 → (call ≡ calls.Value → second ≡ 0) → slice_get (any_ops call) second ≡ None → is_some (op_in max second None call) ≡ true
listed max call (suc (suc i)) below only none = absurd (omega (arith, below))
listed max (calls.Take k) zero below only none = refl
listed max (calls.Take k) (suc zero) below only none = refl
listed max (calls.Give k) zero below only none = refl
listed max (calls.Give k) (suc zero) below only none = refl
listed max (calls.AtLeast k) zero below only none = refl
listed max (calls.AtLeast k) (suc zero) below only none = refl
listed max calls.TakeAny zero below only none = absurd cc
listed max calls.TakeAny (suc zero) below only none = absurd cc
listed max calls.GiveAny zero below only none = absurd cc
listed max calls.GiveAny (suc zero) below only none = absurd cc
listed max calls.Value zero below only none = absurd cc
listed max calls.Value (suc zero) below only none = absurd (let clash = only refl in cc)

pub row_is_op : (v : Number) (k : ℕ) → IsNumber v → k < 256 → k < length (number_rows v) → any_op_at v k ≡ None → has_op (number_table v) k ≡ true
row_is_op v k known small below none =
    let row = row_call v.calls k known.ascending below in
    let any : slice_get (any_ops row.call) (k % 2) ≡ None = rw row.at at none in
    let there : is_some (op_at v k) ≡ true =
    rw (place-of-operation k None small, amount-of-operation k None small, row.at) (listed v.max row.call (k % 2) (omega arith) row.only any) in
    sym (has_what_is_there v k known) ∙ there

-- a row's place is below the number of operations
few_below : (declaration : Declaration) (k : ℕ) → length (rows_of declaration) ≤ most_ops → k < length (rows_of declaration) → k < length (table_of declaration).ops
few_below (Table file) k few below = below
few_below (Numbers v) k few below = omega (arith, few, below, length-map-range_with_len (λ p. names_or_none (op_at v p)) 0 (op_count v))

pub rows_below : (declaration : Declaration) (rows : List Op) (found : Option ℕ) → rows ≡ rows_of declaration → length rows ≤ most_ops → IfSome found (λ k. k < length rows)
    → IfSome found (λ k. k < length (table_of declaration).ops)
rows_below declaration rows None same few below = tt
rows_below declaration rows (Some k) same few below =
    few_below declaration k (subst (λ (ops : List Op). length ops ≤ most_ops) same few) (subst (λ (ops : List Op). k < length ops) same below)

-- ---- the row at a place

pub row_found : (rows shown : List Op) (k place : ℕ) (row : Op) → shown ≡ rows → place ≡ k → row ≡ get_or shown place row → k < length rows → slice_get rows k ≡ Some row
row_found rows shown k place row same at is inside =
    let here : row ≡ get_or rows k row = is ∙ ap (λ (ops : List Op). get_or ops place row) same ∙ ap (λ i. get_or rows i row) at in
    slice_get-get_or rows k row inside ∙ ap Some (sym here)

-- a table's is one of its operations
pub table_row : (declaration : Declaration) (file : TypeFile) (k : ℕ) (row : Op) → declaration ≡ Table file → slice_get (rows_of declaration) k ≡ Some row → is_name row.call ≡ true
    → has_op (table_of declaration) k ≡ true
table_row declaration file k row is at name =
    let D : Declaration → Type 0 = λ d. slice_get (rows_of d) k ≡ Some row in
    let T : Declaration → Type 0 = λ d. has_op (table_of d) k ≡ true in
    subst T (sym is) (op_found file.table k row (subst D is at) (name_length row.call name))

-- the line of any amount
pub any_line_is : (v : Number) (k max : ℕ) (row : Op) (op : AnyOp) (found : Option AnyOp) → slice_get (number_rows v) k ≡ Some row → max ≡ v.max → found ≡ Some op
    → codes "bounds" ++ (32 ∷ word_of row ++ (any_words (any_bounds max op) ++ 10 ∷ [])) ≡ number_row_line v k found
any_line_is v k max row op found at same is =
    let words : listed_words (number_rows v) (k ∷ []) ≡ 32 ∷ word_of row = append-nil (32 ∷ word_if (slice_get (number_rows v) k)) ∙ ap (λ o. 32 ∷ word_if o) at in
    ap (λ m. codes "bounds" ++ (32 ∷ word_of row ++ (any_words (any_bounds m op) ++ 10 ∷ []))) same
    ∙ ap (λ (text : List ℕ). codes "bounds" ++ (text ++ (any_words (any_bounds v.max op) ++ 10 ∷ []))) (sym words)
    ∙ sym (ap (number_row_line v k) is)
