-- Texts of the counter of two, worked by hand.
use Rattle.std.specs.Prelude.{ℕ, List, take}
use Rattle.type_text.specs.Examples.{counter_text, ended}

-- the whole of its text
abbrev pub counter_bytes : List ℕ
counter_bytes = ended counter_text

-- the same without its `end`
abbrev pub endless_bytes : List ℕ
endless_bytes = ended (take 13 counter_text)
