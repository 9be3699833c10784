-- Lines as they are usually written: one space between two words, and none elsewhere.
use Rattle.std.specs.Prelude.{◌≡◌, ◌≢◌, ℕ, ◌+◌, ◌<◌, ◌≤◌, true, false, List, [], ◌∷◌, ◌++◌, length, slice_index, slice_get, Some, None, Result, Ok}
use Rattle.decimals.specs.Decimals.{number_of}
use Rattle.line_text.specs.Spelling.{IsWord}
use Rattle.line_text.specs.Rules.{Rules, count_at, was_read, end_rank, last_item}
use Rattle.line_text.specs.LineTests.{is_late, lacks, is_full, ascends}
use Rattle.line_text.specs.Accepted.{HasPassed}
use Rattle.line_text.specs.Steps.{place_of}
use Rattle.line_text.specs.declared.read_so_far.Place.{Place}
use Rattle.line_text.specs.declared.fault.FaultKind.{FaultKind}

-- a text begins with these words, one space between two and an LF after the last, and goes on so
abbrev pub IsPlainLine : List (List ℕ) → List ℕ → List ℕ → Type 0
IsPlainLine [] text behind = ⊥
IsPlainLine (w ∷ []) text behind = IsWord w × (text ≡ w ++ 10 ∷ behind)
IsPlainLine (w ∷ v ∷ words) text behind = (rest : List ℕ) × IsWord w × (text ≡ w ++ 32 ∷ rest) × IsPlainLine (v ∷ words) rest behind

-- and these words, which are no comment and no long line, say an item
pub record SaysPlainly {Item : Type 0} (item_of : List (List ℕ) → Result Item FaultKind) (text : List ℕ) (x : Item) (behind : List ℕ) : Type 0 where
  pub words : List (List ℕ)
  pub line : IsPlainLine words text behind
  pub no_comment : slice_index text 0 ≢ 35
  pub short : length text ≤ length behind + 201
  pub said : item_of words ≡ Ok x

-- a text begins with a number and this byte, and goes on so
pub record IsNumberBefore (stop : ℕ) (text : List ℕ) (n : ℕ) (behind : List ℕ) : Type 0 where
  pub word : List ℕ
  pub is_word : IsWord word
  pub front : text ≡ word ++ stop ∷ behind
  pub short : length text ≤ length behind + 8
  pub said : number_of word ≡ Some n

-- the place of an item that ascends by nothing
abbrev pub plain_place : ℕ → Place
plain_place rank = record { rank = rank; key = None }

-- a section that has items may go on after these with an item that ascends by nothing, if its numbers are in range
pub record TakesMore {Item : Type 0} (g : Rules Item) (before : List Item) (rank : ℕ) : Type 0 where
  pub unended : was_read g before (end_rank g) ≡ false
  pub some : 0 < count_at g before rank
  pub in_order : (x : Item) → plain_place rank ≡ place_of g x → is_late g (last_item before) x ≡ false
  pub lacks_none : lacks g before rank ≡ false
  pub has_room : is_full (slice_get g.sections rank) (count_at g before rank) ≡ false
  pub ascending : (x : Item) → plain_place rank ≡ place_of g x → ascends g (last_item before) x ≡ true

-- a text's first line says an item of this section plainly, which passes its tests and is kept after the others
pub record KeepsPlainly {Item : Type 0} (g : Rules Item) (rank : ℕ) (text behind : List ℕ) (before after : List Item) : Type 0 where
  pub item : Item
  pub says : SaysPlainly g.item_of text item behind
  pub place : plain_place rank ≡ place_of g item
  pub passed : HasPassed g before item
  pub kept : after ≡ before ++ item ∷ []
