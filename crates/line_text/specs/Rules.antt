-- What a grammar of lines says, and the items that lines say under it.
use Rattle.std.specs.Prelude.{◌≡◌, ℕ, ◌-◌, ◌<◌, Bool, List, length, nat_lt, ◌==◌, if◌then◌else◌, count_by, slice_get, slice_index, Option, None, Result}
use Rattle.std.specs.List.{filter_map}
use Rattle.std.specs.Result.{result_ok}
use Rattle.line_text.specs.Text.{TextLine, content_of}
use Rattle.line_text.specs.declared.fault.FaultKind.{FaultKind}
use Rattle.line_text.specs.declared.section.Section.{Section}

-- a grammar: what is its own beside the rules of all texts
pub record Rules (Item : Type 0) : Type 0 where
  -- the item of a line's words: tests 5 and 6
  pub item_of : List (List ℕ) → Result Item FaultKind
  -- the rank of the section to which an item's line belongs
  pub rank_of : Item → ℕ
  -- the sections by rank; the last is `end`
  pub sections : List Section
  -- whether a line of its own section must come before an item and doesn't: a `do` needs a `job`
  pub misses : List Item → Item → Bool
  -- whether the numbers of an item are in range after these items
  pub is_in_range : List Item → Item → Bool
  -- what the items of its section ascend by, where they do
  pub key_of : Item → Option (ℕ × ℕ)
  -- whether the first item may not come after the second
  pub is_twin : Item → Item → Bool
  -- the fault of an item after a twin
  pub twin_fault : Item → FaultKind

-- the item of a line's words, where there is a word and they say one
abbrev pub item_in : {Item : Type 0} → Rules Item → List (List ℕ) → Option Item
item_in g words = if length words == 0 then None else result_ok (g.item_of words)

-- the items that lines say, in order
abbrev pub items_of : {Item : Type 0} → Rules Item → List TextLine → List Item
items_of g lines = filter_map (λ l. item_in g (content_of l.bytes)) lines

-- how many items are of a rank
abbrev pub count_at : {Item : Type 0} → Rules Item → List Item → ℕ → ℕ
count_at g items rank = count_by (λ x. g.rank_of x == rank) items

-- whether an item of a rank is among these
abbrev pub was_read : {Item : Type 0} → Rules Item → List Item → ℕ → Bool
was_read g items rank = nat_lt 0 (count_at g items rank)

-- the rank of `end`
abbrev pub end_rank : {Item : Type 0} → Rules Item → ℕ
end_rank g = length g.sections - 1

-- the last of the items
abbrev pub last_item : {Item : Type 0} → List Item → Option Item
last_item items = slice_get items (length items - 1)

-- a number for each rank: how many of the items are of it
pub record IsCounted {Item : Type 0} (g : Rules Item) (items : List Item) (counts : List ℕ) : Type 0 where
  pub each_rank : length counts ≡ length g.sections
  pub counted : (rank : ℕ) → rank < length g.sections → slice_index counts rank ≡ count_at g items rank
