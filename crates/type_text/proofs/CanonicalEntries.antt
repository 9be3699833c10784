-- What the line of a cell is: its rank, its key, its numbers.
use Rattle.std.proofs.Common.{◌≡◌, ℕ, ◌<◌, ◌^◌, Bool, true, false, not, cond, ◌&&◌, eqb, ltb, List, length, Option, Some, None, refl, sym, subst, arith}
use Rattle.std.specs.List.{list_any}
use Rattle.std.specs.Option.{option_map}
use Rattle.std.proofs.lemmas.Bool.{lt-ltb, and_from, and_parts}
use Rattle.std.proofs.lemmas.Option.{cond_some, none-some, same_Some}
use Rattle.type_table.specs.Table.{next}
use Rattle.type_table.specs.Laws.{StepsWithin}
use Rattle.type_table.specs.StateSet.{has}
use Rattle.type_table.specs.ConflictTable.{conflicts}
use Rattle.type_table.specs.declared.table_kind.TableKind.{TableKind}
use Rattle.equi_cert.specs.Relation.{relates}
use Rattle.declared_types.specs.TypeFile.{conflicts_of, is_whole}
use Rattle.declared_types.specs.declared.type_file.TypeFile.{TypeFile}
use Rattle.type_text.specs.declared.type_line.TypeLine.{TypeLine}
use Rattle.type_text.specs.declared.type_line.TypeLine.TheVariants.{States, Initial, Step, Reach, Equi, Conflict}
use Rattle.type_text.specs.declared.entries.Entries.{Entries}
use Rattle.type_text.specs.declared.entries.Entries.TheVariants.{Steps, Members, Pairs, Conflicts}
use Rattle.type_text.specs.TypeLines.{rank_of, conflict_rank, key_of, is_in_range, is_twin, op_in, states_of, op_count}
use Rattle.type_text.specs.Canonical.{rows, columns, line_at, IsNamed, IsTypeFile}
use Rattle.type_text.proofs.Twins.{never_twin}
use Rattle.type_text.proofs.CanonicalFront.{AreCounted}

-- the rank of a section's lines
abbrev pub entry_rank : Entries → ℕ
entry_rank Steps = 4
entry_rank Members = 5
entry_rank Pairs = 6
entry_rank (Conflicts kind) = conflict_rank kind

-- the numbers of a line have at most seven digits
abbrev pub IsSmall : TypeLine → Type 0
IsSmall (States states) = states < 10 ^ 7
IsSmall (Initial s) = s < 10 ^ 7
IsSmall (Step s k t) = (s < 10 ^ 7) × (k < 10 ^ 7) × (t < 10 ^ 7)
IsSmall (Reach s) = s < 10 ^ 7
IsSmall (Equi s t) = (s < 10 ^ 7) × (t < 10 ^ 7)
IsSmall (Conflict kind p q) = (p < 10 ^ 7) × (q < 10 ^ 7)
IsSmall _ = Unit {0}

-- what is known of the line of a cell
pub record IsEntry (file : TypeFile) (rank row column : ℕ) (x : TypeLine) : Type 0 where
  pub ranked : rank_of x ≡ rank
  pub key : key_of x ≡ Some (row, column)
  pub inside : (before : List TypeLine) → AreCounted file before → is_in_range before x ≡ true
  pub no_op : op_in x ≡ None
  pub no_twin : (before : List TypeLine) → list_any (is_twin x) before ≡ false
  pub small : IsSmall x
  pub named : IsNamed x

-- a number below another is below what equals it
below : (a b c : ℕ) → a < c → b ≡ c → ltb a b ≡ true
below a b c h e = lt-ltb a b (omega (arith, h, e))

-- what a test of a cell lets through
pub picked : (b : Bool) (line x : TypeLine) → cond b (Some line) None ≡ Some x → (b ≡ true) × (line ≡ x)
picked b line x e = cond_some b line x e

-- what was made of a value
pub mapped : {A : Type 0} (f : A → TypeLine) (o : Option A) (x : TypeLine) → option_map f o ≡ Some x → (t : A) × (o ≡ Some t) × (f t ≡ x)
mapped f None x e = absurd (none-some x e)
mapped f (Some t) x e = (t, refl, same_Some (f t) x e)

module _ (file : TypeFile) (known : IsTypeFile file) where
  -- a `step` line of the table
  step_entry : (s k t : ℕ) → s < file.table.states → k < length file.table.ops → t < file.table.states → IsEntry file 4 s k (Step s k t)
  step_entry s k t s_in k_in t_in = record {
    ranked = refl;
    key = refl;
    inside = λ before counted.
        let state : (ltb s (states_of before) && ltb k (op_count before)) ≡ true = and_from _ _ (below s (states_of before) file.table.states s_in counted.states) (below k (op_count before) (length file.table.ops) k_in counted.ops) in
        and_from _ _ state (below t (states_of before) file.table.states t_in counted.states);
    no_op = refl;
    no_twin = λ before. sym (never_twin (Step s k t) before (λ op e. absurd cc));
    small = (omega (arith, s_in, known.table.states_fit), omega (arith, k_in, known.table.ops_fit), omega (arith, t_in, known.table.states_fit));
    named = tt;
  }

  -- a `reach` line of a state
  reach_entry : (s : ℕ) → s < file.table.states → IsEntry file 5 s 0 (Reach s)
  reach_entry s s_in = record {
    ranked = refl;
    key = refl;
    inside = λ before counted. below s (states_of before) file.table.states s_in counted.states;
    no_op = refl;
    no_twin = λ before. sym (never_twin (Reach s) before (λ op e. absurd cc));
    small = omega (arith, s_in, known.table.states_fit);
    named = tt;
  }

  -- an `equi` line of two states that differ
  equi_entry : (s t : ℕ) → s < file.table.states → t < file.table.states → not (eqb s t) ≡ true → IsEntry file 6 s t (Equi s t)
  equi_entry s t s_in t_in differ = record {
    ranked = refl;
    key = refl;
    inside = λ before counted. and_from _ _ (and_from _ _ (below s (states_of before) file.table.states s_in counted.states) (below t (states_of before) file.table.states t_in counted.states)) differ;
    no_op = refl;
    no_twin = λ before. sym (never_twin (Equi s t) before (λ op e. absurd cc));
    small = (omega (arith, s_in, known.table.states_fit), omega (arith, t_in, known.table.states_fit));
    named = tt;
  }

  -- a `conflict` line of two operations
  conflict_entry : (kind : TableKind) (p q : ℕ) → p < length file.table.ops → q < length file.table.ops → IsEntry file (conflict_rank kind) p q (Conflict kind p q)
  conflict_entry kind p q p_in q_in = record {
    ranked = refl;
    key = refl;
    inside = λ before counted. and_from _ _ (below p (op_count before) (length file.table.ops) p_in counted.ops) (below q (op_count before) (length file.table.ops) q_in counted.ops);
    no_op = refl;
    no_twin = λ before. sym (never_twin (Conflict kind p q) before (λ op e. absurd cc));
    small = (omega (arith, p_in, known.table.ops_fit), omega (arith, q_in, known.table.ops_fit));
    named = tt;
  }

  -- a row of a set that isn't whole
  row_of_set : (whole : Bool) (row : ℕ) → row < cond whole 0 file.table.states → row < file.table.states
  row_of_set true row h = absurd (omega (arith, h))
  row_of_set false row h = h

  -- the line of a cell
  pub entry_at : StepsWithin → (entries : Entries) (row column : ℕ) (x : TypeLine)
      → row < rows file entries → column < columns file entries → line_at file entries row column ≡ Some x → IsEntry file (entry_rank entries) row column x
  entry_at within Steps s k x s_in k_in e =
      let found = mapped (Step s k) (next file.table s k) x e in
      let inside = within file.table s k found.0 known.table found.1 in
      subst (IsEntry file 4 s k) found.2 (step_entry s k found.0 inside.0 inside.1 inside.2)
  entry_at within Members s column x s_in c_in e =
      let found = picked (has file.reach s) (Reach s) x e in
      let first : 0 ≡ column = omega (arith, c_in) in
      subst (λ c. IsEntry file 5 s c x) first (subst (IsEntry file 5 s 0) found.1 (reach_entry s (row_of_set (is_whole file.reach) s s_in)))
  entry_at within Pairs s t x s_in t_in e =
      let found = picked (relates file.relation s t && not (eqb s t)) (Equi s t) x e in
      subst (IsEntry file 6 s t) found.1 (equi_entry s t s_in t_in ((and_parts (relates file.relation s t) (not (eqb s t)) found.0).1))
  entry_at within (Conflicts kind) p q x p_in q_in e =
      let found = picked (conflicts (conflicts_of kind file) p q) (Conflict kind p q) x e in
      subst (IsEntry file (conflict_rank kind) p q) found.1 (conflict_entry kind p q p_in q_in)
