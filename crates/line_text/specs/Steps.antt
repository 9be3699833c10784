-- What the reader's steps answer and leave.
use Rattle.std.specs.Prelude.{◌≡◌, ◌⊎◌, ℕ, ◌+◌, ◌<◌, ◌≤◌, true, false, List, ◌∷◌, ◌++◌, length, Option, Some, None, Result, Ok, Err}
use Rattle.std.specs.Option.{option_to_list}
use Rattle.line_text.specs.Text.{TextLine, lines_of, content_of}
use Rattle.line_text.specs.Rules.{Rules, IsCounted, item_in, items_of, last_item}
use Rattle.line_text.specs.LineTests.{form_fault, lacks, words_fault, line_fault}
use Rattle.line_text.specs.Outcome.{ArePassed}
use Rattle.line_text.specs.declared.fault.FaultKind.{FaultKind}
use Rattle.line_text.specs.declared.fault.FaultKind.TheVariants.{NoMemory}
use Rattle.line_text.specs.declared.read_so_far.Place.{Place}

-- the rank of an item's section, and what the item ascends by
abbrev pub place_of : {Item : Type 0} → Rules Item → Item → Place
place_of g x = record { rank = g.rank_of x; key = g.key_of x }

-- the place of an item, where there is one
abbrev pub place_in : {Item : Type 0} → Rules Item → Option Item → Option Place
place_in g None = None
place_in g (Some x) = Some (place_of g x)

-- what is known of items: how many of each rank, the last one's place, and a rank below which no section is missing
pub record IsKnown {Item : Type 0} (g : Rules Item) (items : List Item) (counts : List ℕ) (last : Option Place) (clear : ℕ) : Type 0 where
  pub counted : IsCounted g items counts
  pub last_is : last ≡ place_in g (last_item items)
  pub lacks_none : lacks g items clear ≡ false

-- an ended line
abbrev pub ended : List ℕ → TextLine
ended bytes = record { bytes = bytes; is_ended = true }

-- a text's first line passes tests 1 to 3, and was cut into its words
pub record IsCut (text : List ℕ) (words : List (List ℕ)) (behind : List ℕ) : Type 0 where
  pub line : TextLine
  pub first : lines_of text ≡ line ∷ lines_of behind
  pub formed : form_fault line ≡ None
  pub said : words ≡ content_of line.bytes
  pub shorter : length behind < length text

-- a text's first line, and why it isn't cut: a fault of its form, or memory was refused
pub record IsRefusedFirst (text : List ℕ) (kind : FaultKind) : Type 0 where
  pub line : TextLine
  pub after : List TextLine
  pub first : lines_of text ≡ line ∷ after
  pub refused : (form_fault line ≡ Some kind) ⊎ (kind ≡ NoMemory)

-- words were judged after items: they pass and their item is then after the others, or the fault is theirs, or memory was refused
abbrev pub JudgesWords : {Item : Type 0} → Rules Item → List (List ℕ) → List Item → Result (Unit {0}) FaultKind → List Item → Type 0
JudgesWords g words before (Ok _) after = (words_fault g before words ≡ None) × (after ≡ before ++ option_to_list (item_in g words))
JudgesWords g words before (Err kind) after = (words_fault g before words ≡ Some kind) ⊎ (kind ≡ NoMemory)

-- a text's first line passed after items, and its item is then after the others
pub record Reads {Item : Type 0} (g : Rules Item) (text behind : List ℕ) (before after : List Item) : Type 0 where
  pub line : TextLine
  pub first : lines_of text ≡ line ∷ lines_of behind
  pub shorter : length behind < length text
  pub passed : line_fault g before line ≡ None
  pub items : after ≡ before ++ option_to_list (item_in g (content_of line.bytes))

-- some lines of a text were read and passed, and what is left of it has the others
pub record HasRead {Item : Type 0} (g : Rules Item) (text rest : List ℕ) (line : ℕ) (items : List Item) : Type 0 where
  pub before : List TextLine
  pub split : lines_of text ≡ before ++ lines_of rest
  pub items_are : items ≡ items_of g before
  pub line_is : line ≡ length before + 1
  pub passed : ArePassed g (lines_of text) (length before)
  pub room : length before + length rest ≤ length text

-- so many lines at the front of what is left of a text passed after items, and their items are then after the others
pub record ReadsLines {Item : Type 0} (g : Rules Item) (rest behind : List ℕ) (count : ℕ) (before after : List Item) : Type 0 where
  pub goes_on : (text : List ℕ) (line : ℕ) → HasRead g text rest line before → HasRead g text behind (line + count) after
  pub shorter : length behind + count ≤ length rest
  pub none : count ≡ 0 → after ≡ before

-- a text's first line is refused after items, or memory was
pub record IsStopped {Item : Type 0} (g : Rules Item) (text : List ℕ) (before : List Item) (kind : FaultKind) : Type 0 where
  pub line : TextLine
  pub after : List TextLine
  pub first : lines_of text ≡ line ∷ after
  pub refused : (line_fault g before line ≡ Some kind) ⊎ (kind ≡ NoMemory)
