-- Texts of types whose outcome was worked out by hand.
use Rattle.std.specs.Prelude.{◌≡◌, ℕ, List, [], ◌∷◌, ◌++◌, slice_set, Ok, Err, codes}
use Rattle.std.specs.List.{flat_map}
use Rattle.type_table.specs.Examples.{ok_op}
use Rattle.type_table.specs.declared.table_kind.TableKind.TheVariants.{Undo, Intentions}
use Rattle.line_text.specs.Outcome.{fault_on, outcome_of}
use Rattle.line_text.specs.declared.fault.FaultKind.{FaultKind}
use Rattle.type_text.specs.declared.type_line.TypeLine.{TypeLine}
use Rattle.type_text.specs.declared.type_line.TypeLine.TheVariants.{TypeName, States, Initial, Operation, Step, Conflict, End}
use Rattle.type_text.specs.TypeLines.{type_rules}

-- the lines of the counter of two
abbrev pub counter_text : List (List ℕ)
counter_text =
    codes "type counter"
    ∷ codes "states 3"
    ∷ codes "initial 0"
    ∷ codes "op inc:1 ok"
    ∷ codes "op dec:1 ok"
    ∷ codes "step 0 0 1"
    ∷ codes "step 1 0 2"
    ∷ codes "step 1 1 0"
    ∷ codes "step 2 1 1"
    ∷ codes "conflict undo 0 1"
    ∷ codes "conflict undo 1 0"
    ∷ codes "conflict intentions 0 0"
    ∷ codes "conflict intentions 1 1"
    ∷ codes "end"
    ∷ []

-- what they say
abbrev pub counter_lines : List TypeLine
counter_lines =
    TypeName (codes "counter")
    ∷ States 3
    ∷ Initial 0
    ∷ Operation (ok_op (codes "inc:1"))
    ∷ Operation (ok_op (codes "dec:1"))
    ∷ Step 0 0 1
    ∷ Step 1 0 2
    ∷ Step 1 1 0
    ∷ Step 2 1 1
    ∷ Conflict Undo 0 1
    ∷ Conflict Undo 1 0
    ∷ Conflict Intentions 0 0
    ∷ Conflict Intentions 1 1
    ∷ End
    ∷ []

-- the bytes of lines, each ended by a LF
abbrev pub ended : List (List ℕ) → List ℕ
ended text = flat_map (λ l. l ++ 10 ∷ []) text

-- these lines are read as these
abbrev pub Says : List (List ℕ) → List TypeLine → Type 0
Says text lines = outcome_of type_rules (ended text) ≡ Ok lines

-- a text is refused at a line
abbrev pub Refuses : List (List ℕ) → ℕ → FaultKind → Type 0
Refuses text line kind = outcome_of type_rules (ended text) ≡ Err (fault_on line kind)

-- the counter's text with another line in place of the one at a place, counted from 0
abbrev pub counter_with : ℕ → List ℕ → List (List ℕ)
counter_with place line = slice_set counter_text place line
