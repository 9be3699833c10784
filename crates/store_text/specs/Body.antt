-- The grammar of the texts about a store's objects.
use Rattle.std.specs.Prelude.{ℕ, Bool, true, false, ◌&&◌, List, [], ◌∷◌, length, nat_le, nat_lt, ◌==◌, if◌then◌else◌, count_by, Option, Some, None, Result, Ok, Err, codes}
use Rattle.type_table.specs.Limits.{most_events}
use Rattle.line_text.specs.Outcome.{outcome_of}
use Rattle.line_text.specs.Rules.{Rules}
use Rattle.line_text.specs.Shapes.{◌>>=◌, exactly, number_at, kind_at, is_key, word}
use Rattle.line_text.specs.declared.fault.FaultKind.{FaultKind}
use Rattle.line_text.specs.declared.fault.FaultKind.TheVariants.{UnknownWord, TwiceName}
use Rattle.line_text.specs.declared.fault.TextFault.{TextFault}
use Rattle.line_text.specs.declared.section.Section.{Section}
use Rattle.object_name.specs.ObjectName.{is_object_name, is_same_name}
use Rattle.store_text.specs.Size.{may_have, most_size, text_size}
use Rattle.store_text.specs.declared.line.Line.{Line}
use Rattle.store_text.specs.declared.line.Line.TheVariants.{Objects, Max, Object, Entry, End}

-- what a text has of its own
pub record Body (A : Type 0) : Type 0 where
  -- whether it begins with a `max` line
  pub has_max : Bool
  -- the entry of a line's words, where the line is none of those that all texts have
  pub entry_of : List (List ℕ) → Result A FaultKind
  -- whether the numbers of an entry are in range, in a text that may have so many objects
  pub is_in_range : ℕ → A → Bool
  -- whether an entry can't be the first
  pub wants_another : A → Bool

-- ---- what a line says

-- whether a text says how many objects it may have
abbrev pub has_size : Option ℕ → Bool
has_size None = false
has_size (Some n) = true

unfoldable pub size_of_words : {A : Type 0} → List (List ℕ) → Result (Line A) FaultKind
size_of_words words = do
  done ← exactly words 2
  size ← number_at words 1
  Ok (Objects size)

unfoldable pub max_of_words : {A : Type 0} → List (List ℕ) → Result (Line A) FaultKind
max_of_words words = do
  done ← exactly words 2
  most ← number_at words 1
  Ok (Max most)

-- the name of an object at a place
unfoldable pub object_name_at : List (List ℕ) → ℕ → Result (List ℕ) FaultKind
object_name_at words place = if is_object_name (word words place) then Ok (word words place) else Err UnknownWord

-- an object without a name
unfoldable pub nameless_of_words : {A : Type 0} → List (List ℕ) → Result (Line A) FaultKind
nameless_of_words words = do
  done ← exactly words 3
  kind ← kind_at words 1
  file ← number_at words 2
  Ok (Object kind file None)

-- and one with a name
unfoldable pub named_of_words : {A : Type 0} → List (List ℕ) → Result (Line A) FaultKind
named_of_words words = do
  name ← object_name_at words 3
  kind ← kind_at words 1
  file ← number_at words 2
  Ok (Object kind file (Some name))

-- in a text that says its size an object may have a name
unfoldable pub object_of_words : {A : Type 0} → Option ℕ → List (List ℕ) → Result (Line A) FaultKind
object_of_words size words = if has_size size && length words == 4 then named_of_words words else nameless_of_words words

unfoldable pub end_of_words : {A : Type 0} → List (List ℕ) → Result (Line A) FaultKind
end_of_words words = do
  done ← exactly words 1
  Ok End

-- by the keyword
unfoldable pub line_of : {A : Type 0} → Body A → Option ℕ → List (List ℕ) → Result (Line A) FaultKind
line_of b size words =
    if is_key words (codes "objects") && has_size size then size_of_words words
    else (if b.has_max && is_key words (codes "max") then max_of_words words
    else (if is_key words (codes "object") then object_of_words size words
    else (if is_key words (codes "end") then end_of_words words
    else (b.entry_of words >>= λ x. Ok (Entry x)))))

-- ---- the sections

-- their ranks; no line has rank 0 in a text that doesn't say its size, nor rank 1 in one without a `max` line
abbrev pub size_rank : ℕ
size_rank = 0

abbrev pub max_rank : ℕ
max_rank = 1

abbrev pub object_rank : ℕ
object_rank = 2

abbrev pub entry_rank : ℕ
entry_rank = 3

abbrev pub end_rank : ℕ
end_rank = 4

-- the rank of the section of a line
abbrev pub rank_of : {A : Type 0} → Line A → ℕ
rank_of (Objects size) = size_rank
rank_of (Max most) = max_rank
rank_of (Object kind file name) = object_rank
rank_of (Entry x) = entry_rank
rank_of End = end_rank

-- a section that is one line
abbrev pub one_line : Section
one_line = record { is_single = true; is_needed = true; most = None }

-- a section that a text doesn't have
abbrev pub no_section : Section
no_section = record { is_single = true; is_needed = false; most = Some 0 }

-- the `object` lines: 1 to as many as the text may have
abbrev pub object_lines : ℕ → Section
object_lines objects = record { is_single = false; is_needed = true; most = Some objects }

-- the entries: 0 to 1,000,000
abbrev pub entry_lines : Section
entry_lines = record { is_single = false; is_needed = false; most = Some most_events }

-- the section of a line that some texts have
abbrev pub one_line_if : Bool → Section
one_line_if true = one_line
one_line_if false = no_section

abbrev pub sections : Bool → Option ℕ → List Section
sections has_max size = one_line_if (has_size size) ∷ one_line_if has_max ∷ object_lines (may_have size) ∷ entry_lines ∷ one_line ∷ []

-- ---- the tests of a line after others

abbrev pub is_in_range : {A : Type 0} → Body A → Option ℕ → Line A → Bool
is_in_range b size (Objects n) = nat_le 1 n && nat_le n most_size
is_in_range b size (Max most) = nat_le 2 most && nat_le most most_events
is_in_range b size (Object kind file name) = nat_lt file (may_have size)
is_in_range b size (Entry x) = b.is_in_range (may_have size) x
is_in_range b size End = true

-- an entry that can't be the first needs one before it
abbrev pub misses : {A : Type 0} → Body A → List (Line A) → Line A → Bool
misses b before (Entry x) = b.wants_another x && count_by (λ y. rank_of y == entry_rank) before == 0
misses b before _ = false

-- an object has the name of another
abbrev pub is_twin : {A : Type 0} → Line A → Line A → Bool
is_twin (Object kind file name) (Object another place second) = is_same_name name second
is_twin _ _ = false

-- the grammar of a text that says this of the number of its objects
abbrev pub store_rules : {A : Type 0} → Body A → Option ℕ → Rules (Line A)
store_rules b size = record {
  item_of = line_of b size;
  rank_of = rank_of;
  sections = sections b.has_max size;
  misses = misses b;
  is_in_range = λ before x. is_in_range b size x;
  key_of = λ x. None;
  is_twin = is_twin;
  twin_fault = λ x. TwiceName;
}

-- the grammar of a text, which is chosen by its first line that has words
abbrev pub rules_for : {A : Type 0} → Body A → List ℕ → Rules (Line A)
rules_for b text = store_rules b (text_size text)

-- the lines of a text that none of them refuses, else its first fault
abbrev pub store_outcome : {A : Type 0} → Body A → List ℕ → Result (List (Line A)) TextFault
store_outcome b text = outcome_of (rules_for b text) text
