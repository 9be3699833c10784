-- A small grammar, which the tests read, and texts of it whose outcome was worked out by hand.
use Rattle.std.specs.Prelude.{◌≡◌, ℕ, min, Bool, true, false, ◌&&◌, nat_lt, nat_le, List, [], ◌∷◌, ◌++◌, replicate, Option, Some, None, Result, Ok, Err, ◌==◌, if◌then◌else◌, count_by, codes}
use Rattle.std.specs.List.{flat_map}
use Rattle.line_text.specs.Shapes.{◌>>=◌, is_key, exactly, number_at}
use Rattle.line_text.specs.Rules.{Rules}
use Rattle.line_text.specs.Outcome.{fault_on, outcome_of}
use Rattle.line_text.specs.declared.fault.FaultKind.{FaultKind}
use Rattle.line_text.specs.declared.fault.FaultKind.TheVariants.{NotAscii, LineTooLong, Unterminated, UnknownWord, BadNumber, OutOfRange, OutOfOrder, Missing, AfterEnd, TwiceOp}
use Rattle.line_text.specs.declared.section.Section.{Section}

-- rank and two numbers: `size N`, `op A B`, `step S T`, `open W` and `put W` (which ends in 1), `end`
abbrev pub Entry : Type 0
Entry = ℕ × ℕ × ℕ

-- a line with one number
abbrev pub with_one : ℕ → ℕ → List (List ℕ) → Result Entry FaultKind
with_one rank last words = do
  whole ← exactly words 2
  n ← number_at words 1
  Ok (rank, n, last)

-- a line with two numbers
abbrev pub with_two : ℕ → List (List ℕ) → Result Entry FaultKind
with_two rank words = do
  whole ← exactly words 3
  m ← number_at words 1
  n ← number_at words 2
  Ok (rank, m, n)

-- the line `end`
abbrev pub with_none : List (List ℕ) → Result Entry FaultKind
with_none words = do
  whole ← exactly words 1
  Ok (4, 0, 0)

-- the entry of a line's words
abbrev pub entry_of : List (List ℕ) → Result Entry FaultKind
entry_of words =
    if is_key words (codes "size") then with_one 0 0 words
    else (if is_key words (codes "op") then with_two 1 words
    else (if is_key words (codes "step") then with_two 2 words
    else (if is_key words (codes "open") then with_one 3 0 words
    else (if is_key words (codes "put") then with_one 3 1 words
    else (if is_key words (codes "end") then with_none words
    else Err UnknownWord)))))

-- the rank of an entry; any number above is that of `end`
abbrev pub rank_of : Entry → ℕ
rank_of x = min x.0 4

-- the number of the `size` line, which comes first
abbrev pub size_of : List Entry → ℕ
size_of [] = 0
size_of (x ∷ before) = x.1

-- a size is 1 to 9, and the states of a step are below the size
abbrev pub is_in_range : List Entry → Entry → Bool
is_in_range before x = if x.0 == 0 then nat_le 1 x.1 && nat_le x.1 9 else (if x.0 == 2 then nat_lt x.1 (size_of before) && nat_lt x.2 (size_of before) else true)

-- a `put` comes after an `open`
abbrev pub misses : List Entry → Entry → Bool
misses before x = x.0 == 3 && x.2 == 1 && count_by (λ y. rank_of y == 3) before == 0

-- steps ascend
abbrev pub key_of : Entry → Option (ℕ × ℕ)
key_of x = if x.0 == 2 then Some (x.1, x.2) else None

-- an `op` comes once
abbrev pub is_twin : Entry → Entry → Bool
is_twin x y = x.0 == 1 && y.0 == 1 && y.1 == x.1 && y.2 == x.2

-- a section
abbrev section : Bool → Bool → Option ℕ → Section
section single needed most = record { is_single = single; is_needed = needed; most = most }

-- the sections: one size, one or two ops, steps, opens and puts, one end
abbrev pub sections : List Section
sections = section true true None ∷ section false true (Some 2) ∷ section false false None ∷ section false false None ∷ section true true None ∷ []

-- the grammar
abbrev pub example : Rules Entry
example = record {
  item_of = entry_of;
  rank_of = rank_of;
  sections = sections;
  misses = misses;
  is_in_range = is_in_range;
  key_of = key_of;
  is_twin = is_twin;
  twin_fault = λ x. TwiceOp;
}

-- lines that are ended
abbrev pub ended : List (List ℕ) → List ℕ
ended lines = flat_map (λ l. l ++ 10 ∷ []) lines

-- a text is refused at a line
abbrev Refuses : List ℕ → ℕ → FaultKind → Type 0
Refuses text line kind = outcome_of example text ≡ Err (fault_on line kind)

-- the definition at texts whose outcome was worked out by hand
pub record WorkedTexts : Type 0 where
  pub value : outcome_of example (ended (codes "size 3" ∷ [] ∷ codes "# note" ∷ codes "op  1 2" ∷ codes " step 0 1 " ∷ codes "open 7" ∷ codes "put 8" ∷ codes "end" ∷ codes "#" ∷ [])) ≡ Ok ((0, 3, 0) ∷ (1, 1, 2) ∷ (2, 0, 1) ∷ (3, 7, 0) ∷ (3, 8, 1) ∷ (4, 0, 0) ∷ [])
  pub long_line : outcome_of example (ended (replicate 200 35 ∷ codes "size 1" ∷ codes "op 0 0" ∷ codes "end" ∷ [])) ≡ Ok ((0, 1, 0) ∷ (1, 0, 0) ∷ (4, 0, 0) ∷ [])
  pub empty : Refuses [] 1 Missing
  pub one_empty_line : Refuses (10 ∷ []) 2 Missing
  pub tab : Refuses (ended (codes "size 3" ∷ (35 ∷ 9 ∷ []) ∷ [])) 2 NotAscii
  pub too_long : Refuses (ended (codes "size 3" ∷ replicate 201 35 ∷ [])) 2 LineTooLong
  pub no_line_feed : Refuses (ended (codes "size 3" ∷ []) ++ codes "op 1 2") 2 Unterminated
  pub unknown : Refuses (ended (codes "sizes 3" ∷ [])) 1 UnknownWord
  pub word_count : Refuses (ended (codes "size 3 4" ∷ [])) 1 UnknownWord
  pub leading_zero : Refuses (ended (codes "size 03" ∷ [])) 1 BadNumber
  pub eight_digits : Refuses (ended (codes "size 10000000" ∷ [])) 1 BadNumber
  pub range : Refuses (ended (codes "size 0" ∷ [])) 1 OutOfRange
  pub third_op : Refuses (ended (codes "size 3" ∷ codes "op 1 1" ∷ codes "op 1 2" ∷ codes "op 1 3" ∷ [])) 4 OutOfRange
  pub state : Refuses (ended (codes "size 3" ∷ codes "op 1 1" ∷ codes "step 0 3" ∷ [])) 3 OutOfRange
  pub second_single : Refuses (ended (codes "size 3" ∷ codes "size 3" ∷ [])) 2 OutOfOrder
  pub lower_rank : Refuses (ended (codes "size 3" ∷ codes "op 1 1" ∷ codes "step 0 1" ∷ codes "op 1 2" ∷ [])) 4 OutOfOrder
  pub same_entry : Refuses (ended (codes "size 3" ∷ codes "op 1 1" ∷ codes "step 0 1" ∷ codes "step 0 1" ∷ [])) 4 OutOfOrder
  pub lower_entry : Refuses (ended (codes "size 3" ∷ codes "op 1 1" ∷ codes "step 1 0" ∷ codes "# note" ∷ codes "step 0 2" ∷ [])) 5 OutOfOrder
  pub no_op : Refuses (ended (codes "size 3" ∷ codes "step 9 9" ∷ [])) 2 Missing
  pub put_first : Refuses (ended (codes "size 3" ∷ codes "op 1 1" ∷ codes "put 1" ∷ [])) 3 Missing
  pub no_end : Refuses (ended (codes "size 3" ∷ codes "op 1 1" ∷ [])) 3 Missing
  pub behind_end : Refuses (ended (codes "size 3" ∷ codes "op 1 1" ∷ codes "end" ∷ codes "# note" ∷ codes "what" ∷ [])) 5 AfterEnd
  pub twice : Refuses (ended (codes "size 3" ∷ codes "op 1 1" ∷ codes "op 1 1" ∷ [])) 3 TwiceOp
