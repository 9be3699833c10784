-- The lines of a canonical text describe the file.
use Rattle.std.proofs.Common.{◌≡◌, ◌↔◌, ◌⊎◌, ℕ, zero, suc, ◌<◌, ◌≤◌, Bool, true, false, not, cond, ◌&&◌, eqb, List, [], ◌∷◌, length, get_or, Some, Contains, refl, sym, ap, subst, ◌∙◌, inl, inr, arith}
use Rattle.std.specs.Option.{option_map}
use Rattle.std.proofs.lemmas.Bool.{false≢true, cases_Bool, cases_lt, cases_eq, ne_eqb, and_from, and_parts, not_from_false}
use Rattle.std.proofs.lemmas.List.{append-nil, get_or_default, get_or_past}
use Rattle.std.proofs.lemmas.List.Elements.{Contains-append_cases, filter_map-append}
use Rattle.std.proofs.lemmas.List.Folds.{Any-from_list_any}
use Rattle.std.proofs.lemmas.List.Sums.{AllPass-from_list_all}
use Rattle.type_table.specs.Table.{next}
use Rattle.type_table.specs.Laws.{StepsWithin}
use Rattle.type_table.specs.StateSet.{has}
use Rattle.type_table.specs.ConflictTable.{conflict_row, conflicts, IsSquare}
use Rattle.type_table.specs.declared.table_kind.TableKind.{TableKind}
use Rattle.type_table.specs.declared.table_kind.TableKind.TheVariants.{Undo, Intentions}
use Rattle.equi_cert.specs.Relation.{relates}
use Rattle.declared_types.specs.declared.type_file.TypeFile.{TypeFile}
use Rattle.type_text.specs.declared.type_line.TypeLine.{TypeLine}
use Rattle.type_text.specs.declared.type_line.TypeLine.TheVariants.{Step, Reach, Equi, Conflict, End}
use Rattle.type_text.specs.declared.entries.Entries.{Entries}
use Rattle.type_text.specs.declared.entries.Entries.TheVariants.{Steps, Members, Pairs, Conflicts}
use Rattle.type_text.specs.TypeLines.{rank_of, op_in, ops_of}
use Rattle.type_text.specs.TypeFile.{IsTableOf, IsReached, IsFileOf}
use Rattle.declared_types.specs.TypeFile.{conflicts_of, is_whole}
use Rattle.type_text.specs.Canonical.{rows, canonical_lines, IsTypeFile}
use Rattle.type_text.proofs.CanonicalEntries.{entry_rank, entry_at, picked, mapped}
use Rattle.type_text.proofs.CanonicalMembers.{IsCell, cell_of_line, contains_cell, section_in_lines, body, each_in_body}
use Rattle.type_text.proofs.CanonicalAccepted.{body_ops}

-- ---- the section of a line, by its rank

-- the section of a rank
abbrev section_at : ℕ → Entries
section_at rank = cond (eqb rank 4) Steps (cond (eqb rank 5) Members (cond (eqb rank 6) Pairs (cond (eqb rank 7) (Conflicts Undo) (Conflicts Intentions))))

-- the rank of a section says which it is
section_again : (entries : Entries) → section_at (entry_rank entries) ≡ entries
section_again Steps = refl
section_again Members = refl
section_again Pairs = refl
section_again (Conflicts Undo) = refl
section_again (Conflicts Intentions) = refl

-- sections of one rank are one section
same_section : (a b : Entries) → entry_rank a ≡ entry_rank b → a ≡ b
same_section a b e = sym (section_again a) ∙ ap section_at e ∙ section_again b

-- a fact of two numbers is one of their equals
moved : (P : ℕ → ℕ → Type 0) (a b c d : ℕ) → a ≡ c → b ≡ d → P a b → P c d
moved P a b c d first second h = subst (λ x. P x d) first (subst (P a) second h)

-- entries come after the operations and before `end`
rank_between : (entries : Entries) → (4 ≤ entry_rank entries) × (entry_rank entries ≤ 8)
rank_between Steps = (omega arith, omega arith)
rank_between Members = (omega arith, omega arith)
rank_between Pairs = (omega arith, omega arith)
rank_between (Conflicts Undo) = (omega arith, omega arith)
rank_between (Conflicts Intentions) = (omega arith, omega arith)

module _ (within : StepsWithin) (file : TypeFile) (known : IsTypeFile file) where
  -- a line of no section isn't of the rank of one
  other_rank : (x : TypeLine) → rank_of x < 4 → (entries : Entries) → rank_of x ≡ entry_rank entries → IsCell file entries x
  other_rank x low entries e = absurd (let ends = rank_between entries in omega (arith, ends.0, low, e))

  -- a line of a section's rank is that of one of its cells
  cell_in_body : (x : TypeLine) → Contains (body file) x → (entries : Entries) → rank_of x ≡ entry_rank entries → IsCell file entries x
  cell_in_body = each_in_body file (λ x. (entries : Entries) → rank_of x ≡ entry_rank entries → IsCell file entries x)
      (other_rank _ (omega arith)) (other_rank _ (omega arith)) (other_rank _ (omega arith)) (λ op h. other_rank _ (omega arith))
      (λ own x h entries e.
      let cell = cell_of_line file own x h in
      let entry = entry_at file known within own cell.row cell.column x cell.row_in cell.column_in cell.is in
      subst (λ section. IsCell file section x) (same_section own entries (sym entry.ranked ∙ e)) cell)

  -- so is one of the whole text
  cell_in_lines : (x : TypeLine) (entries : Entries) → rank_of x ≡ entry_rank entries → Contains (canonical_lines file) x → IsCell file entries x
  cell_in_lines x entries e h = elim (Contains-append_cases (body file) (End ∷ []) x h) [
    | inl inside ↦ cell_in_body x inside entries e
    | inr last ↦ absurd (not_end last.0 last.1 last.2)
  ]
    where
      not_end : (k : ℕ) → k < 1 → get_or (End ∷ []) k x ≡ x → ⊥
      not_end zero below same = let ends = rank_between entries in omega (arith, ap rank_of same, e, ends.1)
      not_end (suc k) below same = omega (arith, below)

  -- the line of a cell is one of the text
  line_of_cell : (x : TypeLine) (entries : Entries) → IsCell file entries x → Contains (canonical_lines file) x
  line_of_cell x entries cell = section_in_lines file entries x (contains_cell file entries x cell)

  -- ---- the table

  -- the operations of the `op` lines are the table's
  lines_ops : ops_of (canonical_lines file) ≡ file.table.ops
  lines_ops = filter_map-append op_in (body file) (End ∷ []) ∙ append-nil (ops_of (body file)) ∙ body_ops within file known

  -- the `step` lines are the table's steps
  step_lines : (s k t : ℕ) → (next file.table s k ≡ Some t) ↔ Contains (canonical_lines file) (Step s k t)
  step_lines s k t = (
    λ h.
        let inside = within file.table s k t known.table h in
        line_of_cell (Step s k t) Steps (record { row = s; column = k; row_in = inside.0; column_in = inside.1; is = ap (option_map (Step s k)) h }),
    λ h.
        let cell = cell_in_lines (Step s k t) Steps refl h in
        let found = mapped (Step cell.row cell.column) (next file.table cell.row cell.column) (Step s k t) cell.is in
        let same : Step cell.row cell.column found.0 ≡ Step s k t = found.2 in
        let step : next file.table cell.row cell.column ≡ Some found.0 = found.1 in
        let first : cell.row ≡ s = cc in
        let second : cell.column ≡ k = cc in
        let third : found.0 ≡ t = cc in
        moved (λ x y. next file.table x y ≡ Some found.0) cell.row cell.column s k first second step ∙ ap Some third,
  )

  -- so the lines describe the table
  table_lines : IsTableOf (canonical_lines file) file.table
  table_lines = record { name = refl; states = refl; initial = refl; ops = sym lines_ops; steps = step_lines }

  -- ---- the set

  -- a member is a state
  member_within : (s : ℕ) → has file.reach s ≡ true → s < file.table.states
  member_within s h = elim (cases_lt s (length file.reach)) [
    | inl inside ↦ omega (arith, inside, file.reach_fits)
    | inr past ↦ absurd (false≢true (sym (get_or_past file.reach s false past) ∙ h))
  ]

  -- the `reach` lines of a set that isn't whole are its members
  member_line : is_whole file.reach ≡ false → (s : ℕ) → has file.reach s ≡ true → Contains (canonical_lines file) (Reach s)
  member_line part s h =
      let inside : s < rows file Members = rw part (member_within s h) in
      line_of_cell (Reach s) Members (record { row = s; column = 0; row_in = inside; column_in = omega arith; is = rw h refl })

  -- the state of a `reach` line is a member
  line_member : (s : ℕ) → Contains (canonical_lines file) (Reach s) → has file.reach s ≡ true
  line_member s h =
      let cell = cell_in_lines (Reach s) Members refl h in
      let found = picked (has file.reach cell.row) (Reach cell.row) (Reach s) cell.is in
      let same : Reach cell.row ≡ Reach s = found.1 in
      let here : cell.row ≡ s = cc in
      subst (λ x. has file.reach x ≡ true) here found.0

  -- a set of all states has no line
  whole_no_line : is_whole file.reach ≡ true → (s : ℕ) → Contains (canonical_lines file) (Reach s) → ⊥
  whole_no_line whole s h =
      let cell = cell_in_lines (Reach s) Members refl h in
      let none : cell.row < 0 = rw whole at cell.row_in in
      omega (arith, none)

  -- a state of a file that has no `reach` line
  no_line_member : (s : ℕ) → s < file.table.states → ((r : ℕ) → Contains (canonical_lines file) (Reach r) → ⊥) → has file.reach s ≡ true
  no_line_member s s_in none = elim (cases_Bool (is_whole file.reach)) [
    | inl whole ↦ AllPass-from_list_all (λ member. member) file.reach whole s false (omega (arith, s_in, file.reach_fits))
    | inr part ↦
        let some = Any-from_list_any (λ member. member) file.reach file.some_reach in
        absurd (none some.0 (member_line part some.0 (member some.0 some.1 some.2 some.3 some.4)))
  ]
    where
      member : (r : ℕ) (x : Bool) → r < length file.reach → get_or file.reach r x ≡ x → x ≡ true → has file.reach r ≡ true
      member r x below at is = get_or_default file.reach r false x below ∙ at ∙ is

  -- the set is what the `reach` lines say
  set_lines : (s : ℕ) → (has file.reach s ≡ true) ↔ IsReached (canonical_lines file) file.table.states s
  set_lines s = (
    λ h. elim (cases_Bool (is_whole file.reach)) [
      | inl whole ↦ inr (member_within s h, whole_no_line whole)
      | inr part ↦ inl (member_line part s h)
    ],
    λ h. elim h [
      | inl line ↦ line_member s line
      | inr rest ↦ no_line_member s rest.0 rest.1
    ],
  )

  -- ---- the relation and the conflict tables

  -- the `equi` lines are the pairs of the relation, but for the equal ones
  pair_lines : (s t : ℕ) → s < file.table.states → t < file.table.states → (relates file.relation s t ≡ true) ↔ ((s ≡ t) ⊎ Contains (canonical_lines file) (Equi s t))
  pair_lines s t s_in t_in = (
    λ h. elim (cases_eq s t) [
      | inl same ↦ inl same
      | inr other ↦
          let shown : (relates file.relation s t && not (eqb s t)) ≡ true = and_from _ _ h (not_from_false (eqb s t) (ne_eqb s t other)) in
          inr (line_of_cell (Equi s t) Pairs (record { row = s; column = t; row_in = s_in; column_in = t_in; is = rw shown refl }))
    ],
    λ h. elim h [
      | inl same ↦ rw (← same) (known.relation.reflexive s (omega (arith, s_in, file.relation_fits)))
      | inr line ↦
          let cell = cell_in_lines (Equi s t) Pairs refl line in
          let found = picked (relates file.relation cell.row cell.column && not (eqb cell.row cell.column)) (Equi cell.row cell.column) (Equi s t) cell.is in
          let related = (and_parts (relates file.relation cell.row cell.column) (not (eqb cell.row cell.column)) found.0).0 in
          let same : Equi cell.row cell.column ≡ Equi s t = found.1 in
          let first : cell.row ≡ s = cc in
          let second : cell.column ≡ t = cc in
          moved (λ x y. relates file.relation x y ≡ true) cell.row cell.column s t first second related
    ],
  )

  -- a pair of a square table is within it
  pair_within : (ops : ℕ) (table : List (List Bool)) (p q : ℕ) → IsSquare ops table → conflicts table p q ≡ true → (p < ops) × (q < ops)
  pair_within ops table p q square h = elim (cases_lt p ops) [
    | inl p_in ↦ elim (cases_lt q ops) [
      | inl q_in ↦ (p_in, q_in)
      | inr past ↦ absurd (false≢true (sym (get_or_past (conflict_row table p) q false (omega (arith, square.width p p_in, past))) ∙ h))
    ]
    | inr past ↦
        let no_row : conflict_row table p ≡ [] = get_or_past table p [] (omega (arith, square.height, past)) in
        absurd (false≢true (sym (ap (λ cells. get_or cells q false) no_row) ∙ h))
  ]

  -- the `conflict` lines of a kind are the pairs of its table
  conflict_lines : (kind : TableKind) → IsSquare (length file.table.ops) (conflicts_of kind file) → (p q : ℕ) → (conflicts (conflicts_of kind file) p q ≡ true) ↔ Contains (canonical_lines file) (Conflict kind p q)
  conflict_lines kind square p q = (
    λ h.
        let inside = pair_within (length file.table.ops) (conflicts_of kind file) p q square h in
        line_of_cell (Conflict kind p q) (Conflicts kind) (record { row = p; column = q; row_in = inside.0; column_in = inside.1; is = rw h refl }),
    λ h.
        let cell = cell_in_lines (Conflict kind p q) (Conflicts kind) refl h in
        let found = picked (conflicts (conflicts_of kind file) cell.row cell.column) (Conflict kind cell.row cell.column) (Conflict kind p q) cell.is in
        let same : Conflict kind cell.row cell.column ≡ Conflict kind p q = found.1 in
        let first : cell.row ≡ p = cc in
        let second : cell.column ≡ q = cc in
        moved (λ x y. conflicts (conflicts_of kind file) x y ≡ true) cell.row cell.column p q first second found.0,
  )

  -- the lines describe the file
  pub canonical_described : IsFileOf (canonical_lines file) file
  canonical_described = record {
    table = table_lines;
    reach = set_lines;
    relation = pair_lines;
    undo = conflict_lines Undo known.undo;
    intentions = conflict_lines Intentions known.intentions;
  }
