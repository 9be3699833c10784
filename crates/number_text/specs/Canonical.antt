-- The canonical text of a number: its lines in their order, with one space between two words.
use Rattle.std.specs.Prelude.{◌≡◌, ℕ, true, List, [], ◌∷◌, ◌++◌, map, Ok, codes}
use Rattle.std.specs.Fmt.{decimal}
use Rattle.type_table.specs.Name.{is_name}
use Rattle.line_text.specs.Spelling.{text_of}
use Rattle.line_text.specs.Outcome.{outcome_of}
use Rattle.number_types.specs.declared.number_call.NumberCall.{NumberCall}
use Rattle.number_types.specs.declared.number_call.NumberCall.TheVariants.{Take, TakeAny, Give, GiveAny, AtLeast, Value}
use Rattle.number_text.specs.declared.number_line.NumberLine.{NumberLine}
use Rattle.number_text.specs.declared.number_line.NumberLine.TheVariants.{Called, Max, Initial, Call, TooLarge, End}
use Rattle.number_text.specs.NumberLines.{number_rules}
use Rattle.number_text.specs.NumberFile.{IsNumberOf, Reads}
use Rattle.number_types.specs.Number.{Number, IsNumber}

-- the words of a call's line
abbrev pub call_words : NumberCall → List (List ℕ)
call_words (Take k) = codes "take" ∷ decimal k ∷ []
call_words TakeAny = codes "take" ∷ codes "any" ∷ []
call_words (Give k) = codes "give" ∷ decimal k ∷ []
call_words GiveAny = codes "give" ∷ codes "any" ∷ []
call_words (AtLeast k) = codes "atleast" ∷ decimal k ∷ []
call_words Value = codes "value" ∷ []

-- the words of a line. One with a number that is too large is in no text of a number
abbrev pub words_of : NumberLine → List (List ℕ)
words_of (Called name) = codes "number" ∷ name ∷ []
words_of (Max m) = codes "max" ∷ decimal m ∷ []
words_of (Initial s) = codes "initial" ∷ decimal s ∷ []
words_of (Call call) = call_words call
words_of (TooLarge counted) = []
words_of End = codes "end" ∷ []

abbrev pub canonical_lines : Number → List NumberLine
canonical_lines v = Called v.name ∷ Max v.max ∷ Initial v.initial ∷ (map Call v.calls ++ End ∷ [])

abbrev pub canonical_text : Number → List ℕ
canonical_text v = text_of words_of (canonical_lines v)

-- the text is read, and what is read is this number
pub record IsReadBack (v : Number) : Type 0 where
  pub read : outcome_of number_rules (canonical_text v) ≡ Ok (canonical_lines v)
  pub described : IsNumberOf (canonical_lines v) v

-- ---- statements of laws

-- the canonical text of a number is read as that number
abbrev pub CanonicalIsRead : Type 0
CanonicalIsRead = (v : Number) → IsNumber v → is_name v.name ≡ true → IsReadBack v

-- what a reading answers of the canonical text of a number is that number
abbrev pub WrittenIsRead : Type 0
WrittenIsRead = (v back : Number) → IsNumber v → is_name v.name ≡ true → Reads (Ok back) (canonical_text v) → back ≡ v
