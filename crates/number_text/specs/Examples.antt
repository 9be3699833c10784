-- Texts of numbers whose outcome was worked out by hand.
use Rattle.std.specs.Prelude.{◌≡◌, ℕ, List, [], ◌∷◌, ◌++◌, slice_set, Ok, Err, codes}
use Rattle.std.specs.List.{flat_map}
use Rattle.line_text.specs.Outcome.{fault_on, outcome_of}
use Rattle.line_text.specs.declared.fault.FaultKind.{FaultKind}
use Rattle.number_types.specs.declared.number_call.NumberCall.TheVariants.{Take, Give, AtLeast}
use Rattle.number_text.specs.declared.number_line.NumberLine.{NumberLine}
use Rattle.number_text.specs.declared.number_line.NumberLine.TheVariants.{Called, Max, Initial, Call, End}
use Rattle.number_text.specs.NumberLines.{number_rules}

-- the lines of a credit in cents, which has each kind of line
abbrev pub credit_text : List (List ℕ)
credit_text =
    codes "number credit"
    ∷ codes "max 4294967295"
    ∷ codes "initial 0"
    ∷ codes "take 5"
    ∷ codes "take 4294967295"
    ∷ codes "give 5"
    ∷ codes "atleast 1000000000"
    ∷ codes "end"
    ∷ []

-- what they say
abbrev pub credit_lines : List NumberLine
credit_lines =
    Called (codes "credit")
    ∷ Max 4294967295
    ∷ Initial 0
    ∷ Call (Take 5)
    ∷ Call (Take 4294967295)
    ∷ Call (Give 5)
    ∷ Call (AtLeast 1000000000)
    ∷ End
    ∷ []

-- the bytes of lines, each ended by a LF
abbrev pub ended : List (List ℕ) → List ℕ
ended text = flat_map (λ l. l ++ 10 ∷ []) text

-- these lines are read as these
abbrev pub Says : List (List ℕ) → List NumberLine → Type 0
Says text lines = outcome_of number_rules (ended text) ≡ Ok lines

-- a text is refused at a line
abbrev pub Refuses : List (List ℕ) → ℕ → FaultKind → Type 0
Refuses text line kind = outcome_of number_rules (ended text) ≡ Err (fault_on line kind)

-- the credit's text with another line in place of the one at a place, counted from 0
abbrev pub credit_with : ℕ → List ℕ → List (List ℕ)
credit_with place line = slice_set credit_text place line
