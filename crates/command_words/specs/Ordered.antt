-- The words of an audit in an order that is given.
use Rattle.std.specs.Prelude.{◌≡◌, ◌⊎◌, ◌==◌, ℕ, ◌<◌, ◌^◌, length, List, [], ◌∷◌, All, Some, codes}
use Rattle.std.specs.List.{after_first, before_first, position_or_len}
use Rattle.clap.specs.Walk.{Text}
use Rattle.command_words.specs.Lines.{IsPlain}
use Rattle.decimals.specs.Decimals.{long_number_of}

-- the text has a comma
abbrev pub HasComma : Text → Type 0
HasComma text = position_or_len (λ b. b == 44) text < length text

-- the word is the number of a transaction, below 2 ^ 32: `0`, or decimal digits without a leading zero
abbrev pub SpellsTransaction : Text → ℕ → Type 0
SpellsTransaction word n = (long_number_of word ≡ Some n) × (n < 2 ^ 32)

-- the text is these numbers, with a comma between two
pub data SpellsNumbers : Text → List ℕ → Type 0 where
  one : (text : Text) (n : ℕ) → ¬ (HasComma text) → SpellsTransaction text n → SpellsNumbers text (n ∷ [])
  more : (text : Text) (n : ℕ) (ns : List ℕ) → HasComma text → SpellsTransaction (before_first (λ b. b == 44) text) n
      → SpellsNumbers (after_first (λ b. b == 44) text) ns → SpellsNumbers text (n ∷ ns)

-- the list is empty and has no number, or it is these
abbrev pub SpellsOrder : Text → List ℕ → Type 0
SpellsOrder list ns = ((list ≡ []) × (ns ≡ [])) ⊎ SpellsNumbers list ns

-- a history that is to be audited in an order
pub record Ordered : Type 0 where
  -- the numbers of its committed transactions, in this order
  pub order : List ℕ
  -- the path of the history
  pub history : Text
  -- the paths of the type files
  pub types : List Text

-- the words are `audit --order T,T,.. HISTORY TYPE...`; none of the paths begins with a hyphen, and there is at least one TYPE
pub record AreOrderedWords (words : List Text) (a : Ordered) : Type 0 where
  pub list : Text
  pub are : words ≡ codes "audit" ∷ codes "--order" ∷ list ∷ a.history ∷ a.types
  pub order : SpellsOrder list a.order
  pub plain : IsPlain a.history × All IsPlain a.types
  pub some : 0 < length a.types
