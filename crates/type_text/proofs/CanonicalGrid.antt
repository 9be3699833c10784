-- A section of entries follows the sections in front.
use Rattle.std.proofs.Common.{◌≡◌, ◌⊎◌, ℕ, ◌+◌, ◌<◌, ◌≤◌, Bool, true, false, not, ◌&&◌, ◌||◌, eqb, ltb, List, [], ◌∷◌, ◌++◌, Option, Some, None, refl, ap, ◌∙◌, inl, inr, arith}
use Rattle.std.specs.List.{slice_get}
use Rattle.std.specs.Option.{option_to_list}
use Rattle.std.proofs.lemmas.Bool.{le-ltb, lt-ltb, ne_eqb, eq-eqb, and_from, and_right, or_from, or_left, or_right, not_from_false}
use Rattle.std.proofs.lemmas.List.{append-nil}
use Rattle.std.proofs.lemmas.List.Elements.{filter_map-append}
use Rattle.line_text.specs.Rules.{count_at, was_read, last_item}
use Rattle.line_text.specs.LineTests.{is_late, lacks, is_full, is_single, ascends, keys_ascend}
use Rattle.line_text.specs.Accepted.{HasPassed}
use Rattle.type_table.specs.Laws.{StepsWithin}
use Rattle.type_table.specs.declared.table_kind.TableKind.TheVariants.{Undo, Intentions}
use Rattle.declared_types.specs.declared.type_file.TypeFile.{TypeFile}
use Rattle.type_text.specs.declared.type_line.TypeLine.{TypeLine}
use Rattle.type_text.specs.declared.entries.Entries.{Entries}
use Rattle.type_text.specs.declared.entries.Entries.TheVariants.{Steps, Members, Pairs, Conflicts}
use Rattle.type_text.specs.TypeLines.{rank_of, key_of, sections, op_in, ops_of, type_rules}
use Rattle.type_text.specs.Canonical.{rows, columns, line_at, lines_of_row, lines_of_entries, IsTypeFile}
use Rattle.type_text.proofs.CanonicalFollows.{Follow, follow_range}
use Rattle.type_text.proofs.CanonicalEntries.{entry_rank, IsEntry, entry_at}
use Rattle.type_text.proofs.CanonicalFront.{front, AreCounted, front_counted, front_read, last_push}

-- ---- the order of lines

-- the key is below that of a cell
abbrev IsBelow : Option (ℕ × ℕ) → ℕ → ℕ → Type 0
IsBelow None row column = ⊥
IsBelow (Some key) row column = (key.0 < row) ⊎ ((key.0 ≡ row) × (key.1 < column))

-- a line comes before a cell of a section: it is of a lower rank, or of this one with a lower key
abbrev IsInFront : TypeLine → ℕ → ℕ → ℕ → Type 0
IsInFront last rank row column = (rank_of last < rank) ⊎ ((rank_of last ≡ rank) × IsBelow (key_of last) row column)

-- a line of a rank that isn't lower isn't late
pub not_late : (r last : ℕ) (single : Bool) → last ≤ r → single ≡ false → (ltb r last || (eqb r last && single)) ≡ false
not_late r last single h e = or_from (ltb r last) (eqb r last && single) (le-ltb r last h) (and_right (eqb r last) single e)

-- a key below that of a cell rises to it
keys_rise : (key : Option (ℕ × ℕ)) (row column : ℕ) → IsBelow key row column → keys_ascend key (Some (row, column)) ≡ true
keys_rise None row column h = absurd h
keys_rise (Some key) row column (inl less) = or_left (ltb key.0 row) (eqb key.0 row && ltb key.1 column) (lt-ltb key.0 row less)
keys_rise (Some key) row column (inr same) = or_right (ltb key.0 row) (eqb key.0 row && ltb key.1 column) (and_from (eqb key.0 row) (ltb key.1 column) (eq-eqb key.0 row same.0) (lt-ltb key.1 column same.1))

-- so does the key of a line that comes before the cell
rises : (last : TypeLine) (rank row column : ℕ) → IsInFront last rank row column → (not (eqb rank (rank_of last)) || keys_ascend (key_of last) (Some (row, column))) ≡ true
rises last rank row column (inl lower) = or_left (not (eqb rank (rank_of last))) (keys_ascend (key_of last) (Some (row, column))) (not_from_false (eqb rank (rank_of last)) (ne_eqb rank (rank_of last) (λ e. omega (arith, lower, e))))
rises last rank row column (inr here) = or_right (not (eqb rank (rank_of last))) (keys_ascend (key_of last) (Some (row, column))) (keys_rise (key_of last) row column here.1)

-- a line before a cell of a section has at most the rank of this section
at_most : (last : TypeLine) (rank row column : ℕ) → IsInFront last rank row column → rank_of last ≤ rank
at_most last rank row column (inl lower) = omega (arith, lower)
at_most last rank row column (inr here) = omega (arith, here.0)

-- a key below a cell is below the next one of the row
next_column : (key : Option (ℕ × ℕ)) (row column : ℕ) → IsBelow key row column → IsBelow key row (column + 1)
next_column None row column h = absurd h
next_column (Some key) row column (inl less) = inl less
next_column (Some key) row column (inr same) = inr (same.0, omega (arith, same.1))

-- and below the first one of the next row
next_row : (key : Option (ℕ × ℕ)) (row column : ℕ) → IsBelow key row column → IsBelow key (row + 1) 0
next_row None row column h = absurd h
next_row (Some key) row column (inl less) = inl (omega (arith, less))
next_row (Some key) row column (inr same) = inl (omega (arith, same.0))

-- ---- a section's own tests

-- a section of entries is no single line
any_single : (entries : Entries) → is_single (slice_get sections (entry_rank entries)) ≡ false
any_single Steps = refl
any_single Members = refl
any_single Pairs = refl
any_single (Conflicts Undo) = refl
any_single (Conflicts Intentions) = refl

-- it takes any number of lines
any_full : (entries : Entries) (n : ℕ) → is_full (slice_get sections (entry_rank entries)) n ≡ false
any_full Steps n = refl
any_full Members n = refl
any_full Pairs n = refl
any_full (Conflicts Undo) n = refl
any_full (Conflicts Intentions) n = refl

-- no section that must come before it is missing after the operations
any_lacks : (before : List TypeLine) → ((k : ℕ) → k < 4 → was_read type_rules before k ≡ true) → (entries : Entries) → lacks type_rules before (entry_rank entries) ≡ false
any_lacks before is_read Steps = rw (is_read 0 (omega arith), is_read 1 (omega arith), is_read 2 (omega arith), is_read 3 (omega arith)) refl
any_lacks before is_read Members = rw (is_read 0 (omega arith), is_read 1 (omega arith), is_read 2 (omega arith), is_read 3 (omega arith)) refl
any_lacks before is_read Pairs = rw (is_read 0 (omega arith), is_read 1 (omega arith), is_read 2 (omega arith), is_read 3 (omega arith)) refl
any_lacks before is_read (Conflicts Undo) = rw (is_read 0 (omega arith), is_read 1 (omega arith), is_read 2 (omega arith), is_read 3 (omega arith)) refl
any_lacks before is_read (Conflicts Intentions) = rw (is_read 0 (omega arith), is_read 1 (omega arith), is_read 2 (omega arith), is_read 3 (omega arith)) refl

-- the line of a cell passes after lines of which the last comes before the cell
entry_passes : (file : TypeFile) (before : List TypeLine) (last x : TypeLine) (entries : Entries) (row column : ℕ)
    → AreCounted file before → ((k : ℕ) → k < 4 → was_read type_rules before k ≡ true) → last_item before ≡ Some last → IsInFront last (entry_rank entries) row column
    → IsEntry file (entry_rank entries) row column x → HasPassed type_rules before x
entry_passes file before last x entries row column counted is_read last_is in_front entry = record {
  in_order =
      ap (λ o. is_late type_rules o x) last_is
      ∙ ap (λ r. ltb r (rank_of last) || (eqb r (rank_of last) && is_single (slice_get sections r))) entry.ranked
      ∙ not_late (entry_rank entries) (rank_of last) (is_single (slice_get sections (entry_rank entries))) (at_most last (entry_rank entries) row column in_front) (any_single entries);
  lacks_none = ap (lacks type_rules before) entry.ranked ∙ any_lacks before is_read entries;
  misses_none = refl;
  in_range = entry.inside before counted;
  has_room = ap (λ r. is_full (slice_get sections r) (count_at type_rules before r)) entry.ranked ∙ any_full entries (count_at type_rules before (entry_rank entries));
  ascending =
      ap (λ o. ascends type_rules o x) last_is
      ∙ ap (λ r. not (eqb r (rank_of last)) || keys_ascend (key_of last) (key_of x)) entry.ranked
      ∙ ap (λ key. not (eqb (entry_rank entries) (rank_of last)) || keys_ascend (key_of last) key) entry.key
      ∙ rises last (entry_rank entries) row column in_front;
  no_twin = entry.no_twin before;
}

-- ---- from cell to cell

-- lines that end before a cell of a section
record IsBehind (file : TypeFile) (rank row column : ℕ) (before : List TypeLine) : Type 0 where
  more : List TypeLine
  front_is : before ≡ front file more
  ops : ops_of more ≡ file.table.ops
  last : TypeLine
  last_is : last_item before ≡ Some last
  in_front : IsInFront last rank row column

-- one more line
behind_push : (file : TypeFile) (rank row column : ℕ) (before : List TypeLine) (x : TypeLine) → IsBehind file rank row column before → IsEntry file rank row column x → IsBehind file rank row (column + 1) (before ++ x ∷ [])
behind_push file rank row column before x h entry = record {
  more = h.more ++ x ∷ [];
  front_is = ap (λ lines. lines ++ x ∷ []) h.front_is;
  ops = filter_map-append op_in h.more (x ∷ []) ∙ rw entry.no_op (append-nil (ops_of h.more) ∙ h.ops);
  last = x;
  last_is = last_push before x;
  in_front = inr (entry.ranked, rw entry.key (inr (refl, omega arith)));
}

-- no line
behind_column : (file : TypeFile) (rank row column : ℕ) (before : List TypeLine) → IsBehind file rank row column before → IsBehind file rank row (column + 1) before
behind_column file rank row column before h = record {
  more = h.more;
  front_is = h.front_is;
  ops = h.ops;
  last = h.last;
  last_is = h.last_is;
  in_front = elim h.in_front [
    | inl lower ↦ inl lower
    | inr here ↦ inr (here.0, next_column (key_of h.last) row column here.1)
  ];
}

-- the next row
behind_row : (file : TypeFile) (rank row column : ℕ) (before : List TypeLine) → IsBehind file rank row column before → IsBehind file rank (row + 1) 0 before
behind_row file rank row column before h = record {
  more = h.more;
  front_is = h.front_is;
  ops = h.ops;
  last = h.last;
  last_is = h.last_is;
  in_front = elim h.in_front [
    | inl lower ↦ inl lower
    | inr here ↦ inr (here.0, next_row (key_of h.last) row column here.1)
  ];
}

module _ (within : StepsWithin) (file : TypeFile) (known : IsTypeFile file) (entries : Entries) where
  -- after these lines an entry passes
  behind_passes : (row column : ℕ) (before : List TypeLine) (x : TypeLine) → IsBehind file (entry_rank entries) row column before → IsEntry file (entry_rank entries) row column x → HasPassed type_rules before x
  behind_passes row column before x h entry =
      let counted : AreCounted file before = rw h.front_is (front_counted file h.more h.ops) in
      let is_read : (k : ℕ) → k < 4 → was_read type_rules before k ≡ true = rw h.front_is (front_read file h.more h.ops known.table.some_ops) in
      entry_passes file before h.last x entries row column counted is_read h.last_is h.in_front entry

  -- the line of a cell, if it has one
  cell_follows : (row column : ℕ) (before : List TypeLine) (line : Option TypeLine) → row < rows file entries → column < columns file entries → line_at file entries row column ≡ line
      → IsBehind file (entry_rank entries) row column before
      → Follow before (option_to_list line) × IsBehind file (entry_rank entries) row (column + 1) (before ++ option_to_list line)
  cell_follows row column before None row_in column_in e h = (tt, rw append-nil (behind_column file (entry_rank entries) row column before h))
  cell_follows row column before (Some x) row_in column_in e h =
      let entry = entry_at file known within entries row column x row_in column_in e in
      ((behind_passes row column before x h entry, tt), behind_push file (entry_rank entries) row column before x h entry)

  -- the lines of a row
  row_follows : (here : ℕ) (before : List TypeLine) → here < rows file entries → IsBehind file (entry_rank entries) here 0 before
      → Follow before (lines_of_row file entries here) × IsBehind file (entry_rank entries) (here + 1) 0 (before ++ lines_of_row file entries here)
  row_follows row before row_in h =
      let all = follow_range (IsBehind file (entry_rank entries) row) (λ column. option_to_list (line_at file entries row column)) (columns file entries)
      (λ column lines column_in g. cell_follows row column lines (line_at file entries row column) row_in column_in refl g) (columns file entries) 0 before (omega arith) h in
      (all.0, behind_row file (entry_rank entries) row (columns file entries) (before ++ lines_of_row file entries row) all.1)

  -- the lines of a section
  section_follows : (before : List TypeLine) → IsBehind file (entry_rank entries) 0 0 before
      → Follow before (lines_of_entries file entries) × IsBehind file (entry_rank entries) (rows file entries) 0 (before ++ lines_of_entries file entries)
  section_follows before h =
      follow_range (λ here lines. IsBehind file (entry_rank entries) here 0 lines) (lines_of_row file entries) (rows file entries)
      (λ row lines row_in g. row_follows row lines row_in g) (rows file entries) 0 before (omega arith) h

-- ---- from section to section

-- lines of ranks up to this one
pub record IsUpTo (file : TypeFile) (rank : ℕ) (before : List TypeLine) : Type 0 where
  pub more : List TypeLine
  pub front_is : before ≡ front file more
  pub ops : ops_of more ≡ file.table.ops
  pub last : TypeLine
  pub last_is : last_item before ≡ Some last
  pub low : rank_of last ≤ rank

-- a section follows the lines of lower ranks
pub entries_follow : StepsWithin → (file : TypeFile) → IsTypeFile file → (entries : Entries) (rank : ℕ) (before : List TypeLine) → rank < entry_rank entries → IsUpTo file rank before
    → Follow before (lines_of_entries file entries) × IsUpTo file (entry_rank entries) (before ++ lines_of_entries file entries)
entries_follow within file known entries rank before above h =
    let start : IsBehind file (entry_rank entries) 0 0 before = record { more = h.more; front_is = h.front_is; ops = h.ops; last = h.last; last_is = h.last_is; in_front = inl (omega (arith, above, h.low)) } in
    let all = section_follows within file known entries before start in
    (all.0, record { more = all.1.more; front_is = all.1.front_is; ops = all.1.ops; last = all.1.last; last_is = all.1.last_is; low = at_most all.1.last (entry_rank entries) (rows file entries) 0 all.1.in_front })
