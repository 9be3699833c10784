-- The grammar of number files, and what its lines say together.
use Rattle.std.specs.Prelude.{◌≡◌, ℕ, ◌<◌, ◌≤◌, Bool, true, false, ◌&&◌, List, [], ◌∷◌, length, nat_lt, nat_le, ◌==◌, if◌then◌else◌, slice_get, Option, Some, None, Result, Ok, Err, codes}
use Rattle.std.specs.List.{filter_map, list_all}
use Rattle.std.specs.Str.{bytes_eq}
use Rattle.line_text.specs.Rules.{Rules}
use Rattle.line_text.specs.Shapes.{◌>>=◌, word, exactly, name_at, is_key}
use Rattle.line_text.specs.declared.fault.FaultKind.{FaultKind}
use Rattle.line_text.specs.declared.fault.FaultKind.TheVariants.{UnknownWord, TwiceOp}
use Rattle.line_text.specs.declared.section.Section.{Section}
use Rattle.line_text.specs.LongNumbers.{long_number_at}
use Rattle.number_types.specs.Calls.{most_number, most_calls, call_rank, amount_of, is_within, are_ascending}
use Rattle.number_types.specs.declared.number_call.NumberCall.{NumberCall}
use Rattle.number_types.specs.declared.number_call.NumberCall.TheVariants.{Take, TakeAny, Give, GiveAny, AtLeast, Value}
use Rattle.number_text.specs.declared.number_line.Counted.{Counted}
use Rattle.number_text.specs.declared.number_line.Counted.TheVariants as of
use Rattle.number_text.specs.declared.number_line.NumberLine.{NumberLine}
use Rattle.number_text.specs.declared.number_line.NumberLine.TheVariants.{Called, Max, Initial, Call, TooLarge, End}

-- ---- what a line says

-- the line with a number
abbrev pub line_with : Counted → ℕ → NumberLine
line_with of.Max n = Max n
line_with of.Initial n = Initial n
line_with of.Take n = Call (Take n)
line_with of.Give n = Call (Give n)
line_with of.AtLeast n = Call (AtLeast n)

-- or that the number is too large for any
abbrev pub number_line : Counted → ℕ → NumberLine
number_line counted n = if nat_le n most_number then line_with counted n else TooLarge counted

-- `number NAME`
unfoldable pub called_of : List (List ℕ) → Result NumberLine FaultKind
called_of words = do
  done ← exactly words 2
  name ← name_at words 1
  Ok (Called name)

-- a keyword and a number
unfoldable pub numbered_of : Counted → List (List ℕ) → Result NumberLine FaultKind
numbered_of counted words = do
  done ← exactly words 2
  n ← long_number_at words 1
  Ok (number_line counted n)

-- whether a line has one word after the keyword, which is `any`
unfoldable pub says_any : List (List ℕ) → Bool
says_any words = length words == 2 && bytes_eq (word words 1) (codes "any")

-- a keyword and `any`, or a number
unfoldable pub any_or_numbered : NumberCall → Counted → List (List ℕ) → Result NumberLine FaultKind
any_or_numbered any counted words = if says_any words then Ok (Call any) else numbered_of counted words

-- a keyword alone
unfoldable pub bare_of : NumberLine → List (List ℕ) → Result NumberLine FaultKind
bare_of line words = do
  done ← exactly words 1
  Ok line

-- by the keyword
unfoldable pub line_of : List (List ℕ) → Result NumberLine FaultKind
line_of words =
    if is_key words (codes "number") then called_of words
    else (if is_key words (codes "max") then numbered_of of.Max words
    else (if is_key words (codes "initial") then numbered_of of.Initial words
    else (if is_key words (codes "take") then any_or_numbered TakeAny of.Take words
    else (if is_key words (codes "give") then any_or_numbered GiveAny of.Give words
    else (if is_key words (codes "atleast") then numbered_of of.AtLeast words
    else (if is_key words (codes "value") then bare_of (Call Value) words
    else (if is_key words (codes "end") then bare_of End words
    else Err UnknownWord)))))))

-- ---- the sections

-- the rank of the section of a counted line
abbrev pub counted_rank : Counted → ℕ
counted_rank of.Max = 1
counted_rank of.Initial = 2
counted_rank of.Take = 3
counted_rank of.Give = 5
counted_rank of.AtLeast = 7

-- the rank of the section of a line
abbrev pub rank_of : NumberLine → ℕ
rank_of (Called name) = 0
rank_of (Max m) = 1
rank_of (Initial s) = 2
rank_of (Call call) = call_rank call
rank_of (TooLarge counted) = counted_rank counted
rank_of End = 9

-- a section that is one line
abbrev pub one_line : Section
one_line = record { is_single = true; is_needed = true; most = None }

-- a section of any number of lines
abbrev pub any_lines : Section
any_lines = record { is_single = false; is_needed = false; most = None }

-- a section of at most one line
abbrev pub maybe_line : Section
maybe_line = record { is_single = true; is_needed = false; most = None }

abbrev pub sections : List Section
sections = one_line ∷ one_line ∷ one_line ∷ any_lines ∷ maybe_line ∷ any_lines ∷ maybe_line ∷ any_lines ∷ maybe_line ∷ one_line ∷ []

-- ---- what the lines say together

-- the greatest value, which the second line says
abbrev pub max_in : Option NumberLine → ℕ
max_in (Some (Max m)) = m
max_in _ = 0

abbrev pub max_of : List NumberLine → ℕ
max_of lines = max_in (slice_get lines 1)

abbrev pub call_in : NumberLine → Option NumberCall
call_in (Call call) = Some call
call_in _ = None

-- the calls in the order of their lines
abbrev pub calls_of : List NumberLine → List NumberCall
calls_of lines = filter_map call_in lines

-- ---- the tests of a line after others

-- the amount that a call lists is within the greatest value, and the call is one of at most 32
abbrev pub is_in_range : List NumberLine → NumberLine → Bool
is_in_range before (Max m) = nat_le 1 m && nat_le m most_number
is_in_range before (Initial s) = nat_le s (max_of before)
is_in_range before (Call call) = is_within (max_of before) call && nat_lt (length (calls_of before)) most_calls
is_in_range before (TooLarge counted) = false
is_in_range before _ = true

-- a number has a call
abbrev pub misses : List NumberLine → NumberLine → Bool
misses before End = length (calls_of before) == 0
misses before _ = false

-- the amount of a line, by which its section ascends. A section of one line has no second that could be compared
abbrev pub amount_in : NumberLine → ℕ
amount_in (Call call) = amount_of call
amount_in _ = 0

abbrev pub number_rules : Rules NumberLine
number_rules = record {
  item_of = line_of;
  rank_of = rank_of;
  sections = sections;
  misses = misses;
  is_in_range = is_in_range;
  key_of = λ x. Some (amount_in x, 0);
  is_twin = λ x y. false;
  twin_fault = λ x. TwiceOp;
}

-- ---- lines that describe a number

-- what is known of the lines of an accepted text
pub record AreNumberLines (lines : List NumberLine) : Type 0 where
  pub name : (name : List ℕ) × (slice_get lines 0 ≡ Some (Called name))
  pub max : (m : ℕ) × (slice_get lines 1 ≡ Some (Max m)) × (1 ≤ m) × (m ≤ most_number)
  pub initial : (s : ℕ) × (slice_get lines 2 ≡ Some (Initial s)) × (s ≤ max_of lines)
  pub amounts : list_all (is_within (max_of lines)) (calls_of lines) ≡ true
  pub ascending : are_ascending (calls_of lines) ≡ true
  pub some_call : 0 < length (calls_of lines)
  pub calls_fit : length (calls_of lines) ≤ most_calls
