-- Rows after a head of lines.
use Rattle.std.proofs.Common.{◌≡◌, ℕ, zero, suc, ◌+◌, ◌-◌, ◌<◌, ◌≤◌, Bool, true, false, ◌||◌, ltb, List, [], ◌∷◌, ◌++◌, length, get_or, take, Some, None, Contains, refl, sym, ap, ◌∙◌, inl, inr, arith, append_assoc}
use Rattle.std.specs.List.{list_all, list_any, slice_get}
use Rattle.std.specs.Option.{option_map}
use Rattle.std.proofs.lemmas.Bool.{false≢true, lt-ltb}
use Rattle.std.proofs.lemmas.List.{append-nil, length-append, get_or-map, map-append, take-append-le}
use Rattle.std.proofs.lemmas.List.Elements.{Contains-append_left, Contains-append_right, Contains-append_cases, filter_map-append}
use Rattle.std.proofs.lemmas.List.Folds.{list_all_at, list_any-append, list_all-append}
use Rattle.std.proofs.lemmas.Option.{slice_get-map, slice_get_within}
use Rattle.type_table.specs.declared.op.Op.{Op}
use Rattle.type_table.specs.declared.table_kind.TableKind.TheVariants.{Undo, Intentions}
use Rattle.line_text.specs.Rules.{last_item}
use Rattle.line_text.specs.LineTests.{is_late}
use Rattle.type_text.specs.TypeLines.{type_rules, rank_of, op_in, ops_of, states_in, states_of, is_twin, AreTypeLines}
use Rattle.type_text.specs.Rows.{line_of_row, lines_of_rows, is_head}
use Rattle.type_text.specs.declared.row.Row.{Row}
use Rattle.type_text.specs.declared.row.Row.TheVariants.{Step as StepRow, Reach as ReachRow, Equi as EquiRow, Conflict as ConflictRow, End as EndRow}
use Rattle.type_text.specs.declared.type_line.TypeLine.{TypeLine}
use Rattle.type_text.specs.declared.type_line.TypeLine.TheVariants.{TypeName, States, Initial, Operation, Step, Reach, Equi, Conflict, End}

-- ---- one row

-- a row's line is none of the head
row_behind : (r : Row) → is_head (line_of_row r) ≡ false
row_behind (StepRow s k t) = refl
row_behind (ReachRow s) = refl
row_behind (EquiRow s t) = refl
row_behind (ConflictRow kind p q) = refl
row_behind EndRow = refl

-- it says no number of states
row_states : (r : Row) → states_in (Some (line_of_row r)) ≡ 0
row_states (StepRow s k t) = refl
row_states (ReachRow s) = refl
row_states (EquiRow s t) = refl
row_states (ConflictRow kind p q) = refl
row_states EndRow = refl

-- and no operation
row_op : (r : Row) → op_in (line_of_row r) ≡ None
row_op (StepRow s k t) = refl
row_op (ReachRow s) = refl
row_op (EquiRow s t) = refl
row_op (ConflictRow kind p q) = refl
row_op EndRow = refl

-- so it is no operation's twin
row_twin : (op : Op) (r : Row) → is_twin (Operation op) (line_of_row r) ≡ false
row_twin op (StepRow s k t) = refl
row_twin op (ReachRow s) = refl
row_twin op (EquiRow s t) = refl
row_twin op (ConflictRow kind p q) = refl
row_twin op EndRow = refl

-- its rank is above those of the head
row_rank : (r : Row) → 4 ≤ rank_of (line_of_row r)
row_rank (StepRow s k t) = omega arith
row_rank (ReachRow s) = omega arith
row_rank (EquiRow s t) = omega arith
row_rank (ConflictRow Undo p q) = omega arith
row_rank (ConflictRow Intentions p q) = omega arith
row_rank EndRow = omega arith

-- these are below 4
head_rank : (x : TypeLine) → is_head x ≡ true → rank_of x < 4
head_rank (TypeName name) h = omega arith
head_rank (States states) h = omega arith
head_rank (Initial s) h = omega arith
head_rank (Operation op) h = omega arith
head_rank (Step s k t) h = absurd cc
head_rank (Reach s) h = absurd cc
head_rank (Equi s t) h = absurd cc
head_rank (Conflict kind p q) h = absurd cc
head_rank End h = absurd cc

-- ---- rows alone

rows_ops : (rows : List Row) → ops_of (lines_of_rows rows) ≡ []
rows_ops [] = refl
rows_ops (r ∷ rows) = rw (row_op r) (rows_ops rows)

pub rows_twins : (op : Op) (rows : List Row) → list_any (is_twin (Operation op)) (lines_of_rows rows) ≡ false
rows_twins op [] = refl
rows_twins op (r ∷ rows) = rw (row_twin op r) (rows_twins op rows)

-- a line that rows say is none of the head
rows_behind : (rows : List Row) (n : ℕ) (x : TypeLine) → slice_get (lines_of_rows rows) n ≡ Some x → is_head x ≡ false
rows_behind [] n x e = absurd cc
rows_behind (r ∷ rows) zero x e = let same : line_of_row r ≡ x = cc in rw (← same) (row_behind r)
rows_behind (r ∷ rows) (suc n) x e = rows_behind rows n x e

-- the line of a row at a place
pub row_line : (rows : List Row) (i : ℕ) (d : Row) (x : TypeLine) → i < length rows → x ≡ line_of_row (get_or rows i d) → x ≡ get_or (lines_of_rows rows) i x
row_line rows i d x below is = is ∙ sym (get_or-map line_of_row rows i d x below)

-- a test of rows is one of their lines
pub rows_any : (p : TypeLine → Bool) (rows : List Row) → list_any (λ r. p (line_of_row r)) rows ≡ list_any p (lines_of_rows rows)
rows_any p [] = refl
rows_any p (r ∷ rows) = ap (λ b. p (line_of_row r) || b) (rows_any p rows)

pub row_count : (rows : List Row) → length (lines_of_rows rows) ≡ length rows
row_count [] = refl
row_count (r ∷ rows) = ap suc (row_count rows)

-- ---- a head, and rows after it

module _ (head : List TypeLine) (rows : List Row) where
  abbrev whole : List TypeLine
  whole = head ++ lines_of_rows rows

  -- the operations are those of the head
  pub head_ops : ops_of whole ≡ ops_of head
  head_ops = filter_map-append op_in head (lines_of_rows rows) ∙ ap (λ ops. ops_of head ++ ops) (rows_ops rows) ∙ append-nil (ops_of head)

  -- so are the twins of an operation
  pub head_twins : (op : Op) → list_any (is_twin (Operation op)) whole ≡ list_any (is_twin (Operation op)) head
  head_twins op = list_any-append (is_twin (Operation op)) head (lines_of_rows rows) ∙ rw (rows_twins op rows) (none (list_any (is_twin (Operation op)) head))
    where
      none : (b : Bool) → (b || false) ≡ b
      none true = refl
      none false = refl

  -- rows are among the lines
  pub rows_among : (x : TypeLine) → Contains (lines_of_rows rows) x → Contains whole x
  rows_among x h = Contains-append_right head (lines_of_rows rows) x h

  -- and only they, of the lines that are none of the head
  pub among_rows : list_all is_head head ≡ true → (x : TypeLine) → is_head x ≡ false → Contains whole x → Contains (lines_of_rows rows) x
  among_rows heads x behind h =
      elim (Contains-append_cases head (lines_of_rows rows) x h) [
        | inl front ↦ absurd (false≢true (sym (list_all_at is_head head front.0 x front.1 (ap is_head front.2 ∙ behind)) ∙ heads))
        | inr later ↦ later
      ]

-- a line of the head that is at a place is there without the rows
pub head_at : (head : List TypeLine) (rows : List Row) (n : ℕ) (x : TypeLine) → is_head x ≡ true → slice_get (head ++ lines_of_rows rows) n ≡ Some x → slice_get head n ≡ Some x
head_at [] rows n x front e = absurd (false≢true (sym (rows_behind rows n x e) ∙ front))
head_at (y ∷ head) rows zero x front e = e
head_at (y ∷ head) rows (suc n) x front e = head_at head rows n x front e

-- and with them
pub at_head : (head : List TypeLine) (rows : List Row) (n : ℕ) (x : TypeLine) → slice_get head n ≡ Some x → slice_get (head ++ lines_of_rows rows) n ≡ Some x
at_head [] rows n x e = absurd cc
at_head (y ∷ head) rows zero x e = e
at_head (y ∷ head) rows (suc n) x e = at_head head rows n x e

-- rows say no number of states
rows_states : (rows : List Row) (n : ℕ) → states_in (slice_get (lines_of_rows rows) n) ≡ 0
rows_states [] n = refl
rows_states (r ∷ rows) zero = row_states r
rows_states (r ∷ rows) (suc n) = rows_states rows n

-- the number of states is that of the head
pub head_states : (head : List TypeLine) (rows : List Row) → states_of (head ++ lines_of_rows rows) ≡ states_of head
head_states [] rows = rows_states rows 1
head_states (x ∷ []) rows = rows_states rows 0
head_states (x ∷ y ∷ head) rows = refl

-- ---- the order of the sections

-- the last of a list with rows at its end is a row's
last_row : (head : List TypeLine) (r : Row) (rows : List Row) → (x : Row) × (last_item (head ++ lines_of_rows (r ∷ rows)) ≡ Some (line_of_row x))
last_row head r rows =
    let last = element_at (r ∷ rows) (length rows) (omega arith) in
    let long : length (head ++ lines_of_rows (r ∷ rows)) ≡ length head + (length rows + 1) = omega (arith, length-append head (lines_of_rows (r ∷ rows)), row_count (r ∷ rows)) in
    let place : length (head ++ lines_of_rows (r ∷ rows)) - 1 ≡ length head + length rows = omega (arith, long) in
    (last.0, ap (slice_get (head ++ lines_of_rows (r ∷ rows))) place ∙ slice_get_right head (lines_of_rows (r ∷ rows)) (length rows) ∙ slice_get-map line_of_row (r ∷ rows) (length rows) ∙ ap (option_map line_of_row) last.1)
  where
    element_at : (xs : List Row) (n : ℕ) → n < length xs → (x : Row) × (slice_get xs n ≡ Some x)
    element_at [] n below = absurd (omega arith)
    element_at (x ∷ xs) zero below = (x, refl)
    element_at (x ∷ xs) (suc n) below = element_at xs n (omega arith)

    slice_get_right : (front back : List TypeLine) (n : ℕ) → slice_get (front ++ back) (length front + n) ≡ slice_get back n
    slice_get_right [] back n = ap (slice_get back) (omega arith)
    slice_get_right (x ∷ front) back n = let e : length (x ∷ front) + n ≡ suc (length front + n) = omega arith in ap (slice_get ((x ∷ front) ++ back)) e ∙ slice_get_right front back n

-- a line of the head that isn't late has no row before it
pub no_row_before : (head : List TypeLine) (rows : List Row) (x : TypeLine) → is_head x ≡ true → is_late type_rules (last_item (head ++ lines_of_rows rows)) x ≡ false → rows ≡ []
no_row_before head [] x front late = refl
no_row_before head (r ∷ rows) x front late =
    let last = last_row head r rows in
    let lower : ltb (rank_of x) (rank_of (line_of_row last.0)) ≡ true = lt-ltb (rank_of x) (rank_of (line_of_row last.0)) (omega (arith, head_rank x front, row_rank last.0)) in
    let clash : true ≡ false = rw (last.1, lower) at late in
    absurd cc

-- ---- lines that describe a file

-- the head of lines that describe a file says its table, too
pub AreTypeLines-head : (head : List TypeLine) (rows : List Row) → AreTypeLines (head ++ lines_of_rows rows) → AreTypeLines head
AreTypeLines-head head rows lines =
    let ops = head_ops head rows in
    let states = head_states head rows in
    let count : length (ops_of (head ++ lines_of_rows rows)) ≡ length (ops_of head) = ap length ops in
    record {
      name = (lines.name.0, head_at head rows 0 (TypeName lines.name.0) refl lines.name.1);
      states = (lines.states.0, head_at head rows 1 (States lines.states.0) refl lines.states.1, lines.states.2, lines.states.3);
      initial = (lines.initial.0, head_at head rows 2 (Initial lines.initial.0) refl lines.initial.1, omega (arith, lines.initial.2, states));
      some_op = omega (arith, lines.some_op, count);
      ops_fit = omega (arith, lines.ops_fit, count);
      ops_differ = λ i op e.
          let within = slice_get_within head i (Operation op) e in
          let front : take i (head ++ lines_of_rows rows) ≡ take i head = take-append-le i head (lines_of_rows rows) (omega arith) in
          rw front at (lines.ops_differ i op (at_head head rows i (Operation op) e));
      steps_inside = λ s k t h.
          let inside = lines.steps_inside s k t (Contains-append_left head (lines_of_rows rows) (Step s k t) h) in
          (omega (arith, inside.0, states), omega (arith, inside.1, count), omega (arith, inside.2, states));
      steps_once = λ s k t u h l. lines.steps_once s k t u (Contains-append_left head (lines_of_rows rows) (Step s k t) h) (Contains-append_left head (lines_of_rows rows) (Step s k u) l);
      reach_inside = λ s h. omega (arith, lines.reach_inside s (Contains-append_left head (lines_of_rows rows) (Reach s) h), states);
      equi_inside = λ s t h.
          let inside = lines.equi_inside s t (Contains-append_left head (lines_of_rows rows) (Equi s t) h) in
          (omega (arith, inside.0, states), omega (arith, inside.1, states));
      conflicts_inside = λ kind p q h.
          let inside = lines.conflicts_inside kind p q (Contains-append_left head (lines_of_rows rows) (Conflict kind p q) h) in
          (omega (arith, inside.0, count), omega (arith, inside.1, count));
    }

-- ---- one more line

-- after a head without rows
pub kept_head : (head : List TypeLine) (rows : List Row) (line : TypeLine) → rows ≡ [] → (head ++ line ∷ []) ++ lines_of_rows rows ≡ (head ++ lines_of_rows rows) ++ line ∷ []
kept_head head rows line none = rw none (append-nil (head ++ line ∷ []) ∙ ap (λ xs. xs ++ line ∷ []) (sym (append-nil head)))

-- as a row
pub kept_row : (head : List TypeLine) (rows : List Row) (row : Row) (line : TypeLine) → line_of_row row ≡ line → head ++ lines_of_rows (rows ++ row ∷ []) ≡ (head ++ lines_of_rows rows) ++ line ∷ []
kept_row head rows row line is = ap (λ xs. head ++ xs) (map-append line_of_row rows (row ∷ [])) ∙ sym (append_assoc head (lines_of_rows rows) (line_of_row row ∷ [])) ∙ ap (λ x. (head ++ lines_of_rows rows) ++ x ∷ []) is

-- a head with one more of its lines
pub heads_more : (head : List TypeLine) (line : TypeLine) → list_all is_head head ≡ true → is_head line ≡ true → list_all is_head (head ++ line ∷ []) ≡ true
heads_more head line heads one = list_all-append is_head head (line ∷ []) ∙ rw (heads, one) refl

-- how many lines there are
pub kept_count : (head : List TypeLine) (rows : List Row) → length (head ++ lines_of_rows rows) ≡ length head + length rows
kept_count head rows = length-append head (lines_of_rows rows) ∙ ap (λ n. length head + n) (row_count rows)
