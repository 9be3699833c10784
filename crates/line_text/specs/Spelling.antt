-- The canonical text of items: a line for each, and one space between two words.
use Rattle.std.specs.Prelude.{◌≡◌, ◌≢◌, ℕ, ◌<◌, ◌≤◌, List, [], ◌∷◌, ◌++◌, length, slice_index, true, Some, Ok}
use Rattle.std.specs.Fmt.{decimal}
use Rattle.std.specs.List.{join_with_byte, flat_map, AllByRecursion}
use Rattle.type_table.specs.Limits.{longest_line}
use Rattle.type_table.specs.Name.{is_name}
use Rattle.decimals.specs.Decimals.{number_of}
use Rattle.line_text.specs.Rules.{Rules}
use Rattle.line_text.specs.Outcome.{outcome_of}
use Rattle.line_text.specs.Accepted.{IsAccepted}

-- the words of a line with one space between two
abbrev pub spaced : List (List ℕ) → List ℕ
spaced words = join_with_byte 32 words

-- the lines of items, each ended by a LF
abbrev pub text_of : {Item : Type 0} → (Item → List (List ℕ)) → List Item → List ℕ
text_of words items = flat_map (λ x. spaced (words x) ++ 10 ∷ []) items

-- bytes that a word may have, and at least one
abbrev pub IsWord : List ℕ → Type 0
IsWord w = (0 < length w) × AllByRecursion (λ b. (33 ≤ b) × (b ≤ 126)) w

-- the words of a line that says an item and isn't a comment
pub record Spells {Item : Type 0} (g : Rules Item) (x : Item) (words : List (List ℕ)) : Type 0 where
  pub some : 0 < length words
  pub each : AllByRecursion IsWord words
  pub no_comment : slice_index (spaced words) 0 ≢ 35
  pub short : length (spaced words) ≤ longest_line
  pub said : g.item_of words ≡ Ok x

-- the canonical text of items that may follow each other so is read as these items
abbrev pub IsReadAgain : {Item : Type 0} → Rules Item → (Item → List (List ℕ)) → List Item → Type 0
IsReadAgain g words items =
    AllByRecursion (λ x. Spells g x (words x)) items → IsAccepted g items → outcome_of g (text_of words items) ≡ Ok items

-- the decimal text of a number of at most seven digits is a word, and is read as this number
pub record NumberIsReadAgain (n : ℕ) : Type 0 where
  pub read : number_of (decimal n) ≡ Some n
  pub is_word : IsWord (decimal n)
  pub short : length (decimal n) ≤ 7

-- a name is a word
abbrev pub NameIsWord : List ℕ → Type 0
NameIsWord w = is_name w ≡ true → IsWord w × (length w ≤ 32)
