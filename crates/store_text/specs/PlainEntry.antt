-- Plain lines of entries.
use Rattle.std.specs.Prelude.{◌≡◌, ℕ, true, List, [], ◌∷◌, ◌++◌, Option}
use Rattle.line_text.specs.Plain.{SaysPlainly}
use Rattle.store_text.specs.Body.{Body, line_of}
use Rattle.store_text.specs.declared.line.Line.TheVariants.{Entry}

-- a text's first line says an entry plainly, whatever the text says of its size; the entry's numbers are in range where the text may have so many objects, and it is kept after the others
pub record KeepsEntry {A : Type 0} (b : Body A) (objects : ℕ) (text behind : List ℕ) (before after : List A) : Type 0 where
  pub entry : A
  pub says : (size : Option ℕ) → SaysPlainly (line_of b size) text (Entry entry) behind
  pub in_range : b.is_in_range objects entry ≡ true
  pub kept : after ≡ before ++ entry ∷ []
