-- The eleven tests of a line, once for all grammars.
use Rattle.std.specs.Prelude.{ℕ, zero, suc, Bool, true, false, not, ◌&&◌, ◌||◌, List, [], ◌∷◌, length, nat_le, nat_lt, ◌==◌, if◌then◌else◌, slice_get, Option, Some, None, Result, Ok, Err}
use Rattle.std.specs.List.{list_all, list_any}
use Rattle.std.specs.Option.{option_or}
use Rattle.type_table.specs.Limits.{longest_line}
use Rattle.line_text.specs.Text.{TextLine, content_of}
use Rattle.line_text.specs.Rules.{Rules, items_of, count_at, was_read, end_rank, last_item}
use Rattle.line_text.specs.declared.fault.FaultKind.{FaultKind}
use Rattle.line_text.specs.declared.fault.FaultKind.TheVariants.{NotAscii, LineTooLong, Unterminated, OutOfRange, OutOfOrder, Missing, AfterEnd}
use Rattle.line_text.specs.declared.section.Section.{Section}

-- the kind beside the first test that holds
abbrev pub first_kind : List (Bool × FaultKind) → Option FaultKind
first_kind [] = None
first_kind (test ∷ tests) = if test.0 then Some test.1 else first_kind tests

-- a byte that a line may have
abbrev pub is_text_byte : ℕ → Bool
is_text_byte b = nat_le 32 b && nat_le b 126

-- whether a section is a single line
abbrev pub is_single : Option Section → Bool
is_single None = false
is_single (Some s) = s.is_single

-- whether a section must be there
abbrev pub is_needed : Option Section → Bool
is_needed None = false
is_needed (Some s) = s.is_needed

-- whether a number has come to a limit, if there is one
abbrev pub has_reached : Option ℕ → ℕ → Bool
has_reached None n = false
has_reached (Some most) n = nat_le most n

-- whether a section with this many lines takes no more
abbrev pub is_full : Option Section → ℕ → Bool
is_full None n = false
is_full (Some s) n = has_reached s.most n

-- test 7: the section has a lower rank than that of the item before, or the same where it is a single line
abbrev pub is_late : {Item : Type 0} → Rules Item → Option Item → Item → Bool
is_late g None x = false
is_late g (Some y) x = nat_lt (g.rank_of x) (g.rank_of y) || (g.rank_of x == g.rank_of y && is_single (slice_get g.sections (g.rank_of x)))

-- test 8: a section of a rank below this one must be there and hasn't come
abbrev pub lacks : {Item : Type 0} → Rules Item → List Item → ℕ → Bool
lacks g before zero = false
lacks g before (suc rank) = lacks g before rank || (is_needed (slice_get g.sections rank) && not (was_read g before rank))

-- the order of pairs: by the first numbers, then by the second
abbrev pub pair_below : ℕ × ℕ → ℕ × ℕ → Bool
pair_below a b = nat_lt a.0 b.0 || (a.0 == b.0 && nat_lt a.1 b.1)

-- whether two keys ascend, where both are there
abbrev pub keys_ascend : Option (ℕ × ℕ) → Option (ℕ × ℕ) → Bool
keys_ascend (Some a) (Some b) = pair_below a b
keys_ascend a b = true

-- test 10 doesn't hold: the entry is greater than that of the item before, where both are of one section and have keys
abbrev pub ascends : {Item : Type 0} → Rules Item → Option Item → Item → Bool
ascends g None x = true
ascends g (Some y) x = not (g.rank_of x == g.rank_of y) || keys_ascend (g.key_of y) (g.key_of x)

-- the first of tests 7 to 11 that refuses an item after others
unfoldable pub item_fault : {Item : Type 0} → Rules Item → List Item → Item → Option FaultKind
item_fault g before x =
    first_kind ((is_late g (last_item before) x, OutOfOrder)
    ∷ (lacks g before (g.rank_of x) || g.misses before x, Missing)
    ∷ (not (g.is_in_range before x) || is_full (slice_get g.sections (g.rank_of x)) (count_at g before (g.rank_of x)), OutOfRange)
    ∷ (not (ascends g (last_item before) x), OutOfOrder)
    ∷ (list_any (g.is_twin x) before, g.twin_fault x)
    ∷ [])

-- the fault of what the words of a line are: not to be read, or tests 7 to 11
abbrev pub parsed_fault : {Item : Type 0} → Rules Item → List Item → Result Item FaultKind → Option FaultKind
parsed_fault g before (Err kind) = Some kind
parsed_fault g before (Ok x) = item_fault g before x

-- tests 4 to 11, which a line without words passes
unfoldable pub words_fault : {Item : Type 0} → Rules Item → List Item → List (List ℕ) → Option FaultKind
words_fault g before words =
    if length words == 0 then None
    else (if was_read g before (end_rank g) then Some AfterEnd
    else parsed_fault g before (g.item_of words))

-- tests 1 to 3
abbrev pub form_fault : TextLine → Option FaultKind
form_fault l =
    first_kind ((not (list_all is_text_byte l.bytes), NotAscii)
    ∷ (nat_lt longest_line (length l.bytes), LineTooLong)
    ∷ (not l.is_ended, Unterminated)
    ∷ [])

-- tests 1 to 11
unfoldable pub line_fault : {Item : Type 0} → Rules Item → List Item → TextLine → Option FaultKind
line_fault g before l = option_or (form_fault l) (words_fault g before (content_of l.bytes))

-- the first test that refuses a line, from the lines before it alone
abbrev pub fault_of : {Item : Type 0} → Rules Item → List TextLine → TextLine → Option FaultKind
fault_of g before l = line_fault g (items_of g before) l
