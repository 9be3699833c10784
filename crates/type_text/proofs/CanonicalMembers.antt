-- The lines of a canonical text, by the sections to which they belong.
use Rattle.std.proofs.Common.{◌≡◌, ◌⊎◌, ℕ, zero, suc, ◌<◌, List, [], ◌∷◌, ◌++◌, length, get_or, map, Option, Some, None, Contains, refl, sym, ap, subst, inl, inr, arith}
use Rattle.std.specs.List.{flat_map, range_with_len}
use Rattle.std.specs.Option.{option_to_list}
use Rattle.std.proofs.lemmas.List.Elements.{Contains-append_left, Contains-append_right, Contains-append_cases}
use Rattle.std.proofs.lemmas.List.FromFn.{length-range_with_len, get_or-range_with_len}
use Rattle.type_table.specs.declared.op.Op.{Op}
use Rattle.type_table.specs.declared.table_kind.TableKind.TheVariants.{Undo, Intentions}
use Rattle.declared_types.specs.declared.type_file.TypeFile.{TypeFile}
use Rattle.type_text.specs.declared.type_line.TypeLine.{TypeLine}
use Rattle.type_text.specs.declared.type_line.TypeLine.TheVariants.{TypeName, States, Initial, Operation, End}
use Rattle.type_text.specs.declared.entries.Entries.{Entries}
use Rattle.type_text.specs.declared.entries.Entries.TheVariants.{Steps, Members, Pairs, Conflicts}
use Rattle.type_text.specs.Canonical.{rows, columns, line_at, lines_of_row, lines_of_entries, canonical_lines}
use Rattle.type_text.proofs.CanonicalFront.{front}

-- ---- members of lists

-- the first element or one of the others
contains_cons : {X : Type 0} (x : X) (xs : List X) (y : X) → Contains (x ∷ xs) y → (x ≡ y) ⊎ Contains xs y
contains_cons {X} x xs y h = go h.0 h.1 h.2
  where
    go : (k : ℕ) → k < suc (length xs) → get_or (x ∷ xs) k y ≡ y → (x ≡ y) ⊎ Contains xs y
    go zero within e = inl e
    go (suc k) within e = inr (k, omega (arith, within), e)

-- an element of a list is one of the list with another before it
contains_behind : {X : Type 0} (x : X) (xs : List X) (y : X) → Contains xs y → Contains (x ∷ xs) y
contains_behind x xs y h = (suc h.0, omega (arith, h.1), h.2)

-- the first element is one
contains_first : {X : Type 0} (x : X) (xs : List X) → Contains (x ∷ xs) x
contains_first x xs = (0, omega arith, refl)

-- an element of one of the lists that are joined
contains_flat_map : {X A : Type 0} (f : X → List A) (xs : List X) (x : X) (y : A) → Contains xs x → Contains (f x) y → Contains (flat_map f xs) y
contains_flat_map f [] x y h k = absurd (omega (arith, h.1))
contains_flat_map {X} {A} f (z ∷ xs) x y h k =
    elim (contains_cons z xs x h) [
      | inl here ↦ Contains-append_left (f z) (flat_map f xs) y (subst (λ (w : X). Contains (f w) y) (sym here) k)
      | inr later ↦ Contains-append_right (f z) (flat_map f xs) y (contains_flat_map f xs x y later k)
    ]

-- and the list in which an element of the whole is
from_flat_map : {X A : Type 0} (f : X → List A) (xs : List X) (y : A) → Contains (flat_map f xs) y → (x : X) × Contains xs x × Contains (f x) y
from_flat_map f [] y h = absurd (omega (arith, h.1))
from_flat_map f (z ∷ xs) y h =
    elim (Contains-append_cases (f z) (flat_map f xs) y h) [
      | inl here ↦ (z, contains_first z xs, here)
      | inr later ↦ let found = from_flat_map f xs y later in (found.0, contains_behind z xs found.0 found.1, found.2)
    ]

-- the numbers below another
contains_range : (n i : ℕ) → i < n → Contains (range_with_len 0 n) i
contains_range n i below = (i, omega (arith, below, length-range_with_len 0 n), omega (arith, get_or-range_with_len 0 n i i below))

-- and only these
from_range : (n i : ℕ) → Contains (range_with_len 0 n) i → i < n
from_range n i h =
    let below : h.0 < n = omega (arith, h.1, length-range_with_len 0 n) in
    omega (arith, below, h.2, get_or-range_with_len 0 n h.0 i below)

-- the value that may be there
contains_option : {X : Type 0} (o : Option X) (x : X) → o ≡ Some x → Contains (option_to_list o) x
contains_option None x e = absurd cc
contains_option (Some y) x e = let same : y ≡ x = cc in (0, omega arith, same)

-- and nothing else
from_option : {X : Type 0} (o : Option X) (x : X) → Contains (option_to_list o) x → o ≡ Some x
from_option None x h = absurd (omega (arith, h.1))
from_option (Some y) x h = elim (contains_cons y [] x h) [
  | inl here ↦ ap Some here
  | inr later ↦ absurd (omega (arith, later.1))
]

-- ---- lines of a section

-- a line is that of a cell of a section
pub record IsCell (file : TypeFile) (entries : Entries) (x : TypeLine) : Type 0 where
  pub row : ℕ
  pub column : ℕ
  pub row_in : row < rows file entries
  pub column_in : column < columns file entries
  pub is : line_at file entries row column ≡ Some x

-- the line of a cell is one of the section
pub contains_cell : (file : TypeFile) (entries : Entries) (x : TypeLine) → IsCell file entries x → Contains (lines_of_entries file entries) x
contains_cell file entries x cell =
    contains_flat_map (lines_of_row file entries) (range_with_len 0 (rows file entries)) cell.row x (contains_range (rows file entries) cell.row cell.row_in)
    (contains_flat_map (λ column. option_to_list (line_at file entries cell.row column)) (range_with_len 0 (columns file entries)) cell.column x (contains_range (columns file entries) cell.column cell.column_in)
    (contains_option (line_at file entries cell.row cell.column) x cell.is))

-- and each line of the section is that of a cell
pub cell_of_line : (file : TypeFile) (entries : Entries) (x : TypeLine) → Contains (lines_of_entries file entries) x → IsCell file entries x
cell_of_line file entries x h =
    let row = from_flat_map (lines_of_row file entries) (range_with_len 0 (rows file entries)) x h in
    let column = from_flat_map (λ column. option_to_list (line_at file entries row.0 column)) (range_with_len 0 (columns file entries)) x row.2 in
    record {
      row = row.0;
      column = column.0;
      row_in = from_range (rows file entries) row.0 row.1;
      column_in = from_range (columns file entries) column.0 column.1;
      is = from_option (line_at file entries row.0 column.0) x column.2;
    }

-- ---- all lines

-- the lines of a canonical text up to those of a section
abbrev pub up_to_ops : TypeFile → List TypeLine
up_to_ops file = front file (map Operation file.table.ops)

-- the same with the `step` lines
abbrev pub up_to_steps : TypeFile → List TypeLine
up_to_steps file = up_to_ops file ++ lines_of_entries file Steps

-- the same with the `reach` lines
abbrev pub up_to_members : TypeFile → List TypeLine
up_to_members file = up_to_steps file ++ lines_of_entries file Members

-- the same with the `equi` lines
abbrev pub up_to_pairs : TypeFile → List TypeLine
up_to_pairs file = up_to_members file ++ lines_of_entries file Pairs

-- the same with the `conflict undo` lines
abbrev pub up_to_undo : TypeFile → List TypeLine
up_to_undo file = up_to_pairs file ++ lines_of_entries file (Conflicts Undo)

-- all but `end`
abbrev pub body : TypeFile → List TypeLine
body file = up_to_undo file ++ lines_of_entries file (Conflicts Intentions)

-- the elements of a list made by a function
from_map : {X Y : Type 0} (f : X → Y) (xs : List X) (y : Y) → Contains (map f xs) y → (x : X) × Contains xs x × (f x ≡ y)
from_map f [] y h = absurd (omega (arith, h.1))
from_map f (z ∷ xs) y h =
    elim (contains_cons (f z) (map f xs) y h) [
      | inl here ↦ (z, contains_first z xs, here)
      | inr later ↦ let found = from_map f xs y later in (found.0, contains_behind z xs found.0 found.1, found.2)
    ]

-- what holds of each part holds of each line
module _ (file : TypeFile) (P : TypeLine → Type 0)
    (name : P (TypeName file.table.name)) (states : P (States file.table.states)) (initial : P (Initial file.table.initial))
    (ops : (op : Op) → Contains file.table.ops op → P (Operation op))
    (cells : (entries : Entries) (x : TypeLine) → Contains (lines_of_entries file entries) x → P x)
  where
    -- of the first lines and the operations
    each_up_to_ops : (x : TypeLine) → Contains (up_to_ops file) x → P x
    each_up_to_ops x h =
        elim (contains_cons (TypeName file.table.name) (States file.table.states ∷ Initial file.table.initial ∷ map Operation file.table.ops) x h) [
          | inl here ↦ subst P here name
          | inr h ↦ elim (contains_cons (States file.table.states) (Initial file.table.initial ∷ map Operation file.table.ops) x h) [
            | inl here ↦ subst P here states
            | inr h ↦ elim (contains_cons (Initial file.table.initial) (map Operation file.table.ops) x h) [
              | inl here ↦ subst P here initial
              | inr h ↦ let found = from_map Operation file.table.ops x h in subst P found.2 (ops found.0 found.1)
            ]
          ]
        ]

    -- after more lines that are so
    each_more : (lines : List TypeLine) → ((x : TypeLine) → Contains lines x → P x) → (entries : Entries) (x : TypeLine) → Contains (lines ++ lines_of_entries file entries) x → P x
    each_more lines so_far entries x h =
        elim (Contains-append_cases lines (lines_of_entries file entries) x h) [
          | inl before ↦ so_far x before
          | inr here ↦ cells entries x here
        ]

    -- of all lines but `end`
    pub each_in_body : (x : TypeLine) → Contains (body file) x → P x
    each_in_body =
        let steps = each_more (up_to_ops file) each_up_to_ops Steps in
        let members = each_more (up_to_steps file) steps Members in
        let pairs = each_more (up_to_members file) members Pairs in
        let undo = each_more (up_to_pairs file) pairs (Conflicts Undo) in
        each_more (up_to_undo file) undo (Conflicts Intentions)

-- a line before a section is a line of the text
undo_in_body : (file : TypeFile) (x : TypeLine) → Contains (up_to_undo file) x → Contains (body file) x
undo_in_body file x h = Contains-append_left (up_to_undo file) (lines_of_entries file (Conflicts Intentions)) x h

-- so is one before the conflicts
pairs_in_body : (file : TypeFile) (x : TypeLine) → Contains (up_to_pairs file) x → Contains (body file) x
pairs_in_body file x h = undo_in_body file x (Contains-append_left (up_to_pairs file) (lines_of_entries file (Conflicts Undo)) x h)

-- one before the pairs
members_in_body : (file : TypeFile) (x : TypeLine) → Contains (up_to_members file) x → Contains (body file) x
members_in_body file x h = pairs_in_body file x (Contains-append_left (up_to_members file) (lines_of_entries file Pairs) x h)

-- and one before the members
steps_in_body : (file : TypeFile) (x : TypeLine) → Contains (up_to_steps file) x → Contains (body file) x
steps_in_body file x h = members_in_body file x (Contains-append_left (up_to_steps file) (lines_of_entries file Members) x h)

-- a line of a section is a line of the text
section_in_body : (file : TypeFile) (entries : Entries) (x : TypeLine) → Contains (lines_of_entries file entries) x → Contains (body file) x
section_in_body file Steps x h = steps_in_body file x (Contains-append_right (up_to_ops file) (lines_of_entries file Steps) x h)
section_in_body file Members x h = members_in_body file x (Contains-append_right (up_to_steps file) (lines_of_entries file Members) x h)
section_in_body file Pairs x h = pairs_in_body file x (Contains-append_right (up_to_members file) (lines_of_entries file Pairs) x h)
section_in_body file (Conflicts Undo) x h = undo_in_body file x (Contains-append_right (up_to_pairs file) (lines_of_entries file (Conflicts Undo)) x h)
section_in_body file (Conflicts Intentions) x h = Contains-append_right (up_to_undo file) (lines_of_entries file (Conflicts Intentions)) x h

-- and so of the whole text
pub section_in_lines : (file : TypeFile) (entries : Entries) (x : TypeLine) → Contains (lines_of_entries file entries) x → Contains (canonical_lines file) x
section_in_lines file entries x h = Contains-append_left (body file) (End ∷ []) x (section_in_body file entries x h)
