-- Texts of scripts whose outcome was worked out by hand.
use Rattle.std.specs.Prelude.{◌≡◌, ℕ, List, [], ◌∷◌, ◌++◌, slice_set, Some, None, Ok, Err, codes}
use Rattle.std.specs.List.{flat_map}
use Rattle.type_table.specs.declared.kind.Kind.TheVariants.{Undo, Intentions, Escrow}
use Rattle.line_text.specs.Outcome.{fault_on}
use Rattle.line_text.specs.declared.fault.FaultKind.{FaultKind}
use Rattle.serial_order.specs.declared.command.Command.{Command}
use Rattle.serial_order.specs.declared.command.Command.TheVariants.{Begin, Call, Commit, Abort, Rollback}
use Rattle.store_text.specs.Body.{store_outcome}
use Rattle.store_text.specs.declared.line.Line.{Line}
use Rattle.store_text.specs.declared.line.Line.TheVariants.{Objects, Max, Object, Entry, End}
use Rattle.script_text.specs.Commands.{commands}

-- a script over two objects
abbrev pub script_text : List (List ℕ)
script_text =
    codes "max 20"
    ∷ codes "object undo 0"
    ∷ codes "object intentions 1"
    ∷ codes "begin"
    ∷ codes "call 0 1 inc:1"
    ∷ codes "rollback 0 1"
    ∷ codes "commit 0"
    ∷ codes "abort 7"
    ∷ codes "end"
    ∷ []

-- what its lines say
abbrev pub script_lines : List (Line Command)
script_lines =
    Max 20
    ∷ Object Undo 0 None
    ∷ Object Intentions 1 None
    ∷ Entry Begin
    ∷ Entry (Call 0 1 (codes "inc:1"))
    ∷ Entry (Rollback 0 1)
    ∷ Entry (Commit 0)
    ∷ Entry (Abort 7)
    ∷ End
    ∷ []

-- the bytes of lines, each ended by a LF
abbrev pub ended : List (List ℕ) → List ℕ
ended text = flat_map (λ l. l ++ 10 ∷ []) text

-- these lines are read as these
abbrev pub SaysCommands : List (List ℕ) → List (Line Command) → Type 0
SaysCommands text lines = store_outcome commands (ended text) ≡ Ok lines

-- a text is refused at a line
abbrev pub RefusesScript : List (List ℕ) → ℕ → FaultKind → Type 0
RefusesScript text line kind = store_outcome commands (ended text) ≡ Err (fault_on line kind)

-- the script's text with another line in place of the one at a place, counted from 0
abbrev pub script_with : ℕ → List ℕ → List (List ℕ)
script_with place line = slice_set script_text place line

-- a script at a store that may have three hundred objects
abbrev pub sized_script_text : List (List ℕ)
sized_script_text = codes "objects 300" ∷ codes "max 20" ∷ codes "object undo 299" ∷ codes "begin" ∷ codes "end" ∷ []

-- what its lines say
abbrev pub sized_script_lines : List (Line Command)
sized_script_lines = Objects 300 ∷ Max 20 ∷ Object Undo 299 None ∷ Entry Begin ∷ End ∷ []

-- it with another line in place of the one at a place, counted from 0
abbrev pub sized_script_with : ℕ → List ℕ → List (List ℕ)
sized_script_with place line = slice_set sized_script_text place line

-- a script at four objects, of which two have names
abbrev pub named_script_text : List (List ℕ)
named_script_text =
    codes "objects 4"
    ∷ codes "max 20"
    ∷ codes "object undo 0 A12"
    ∷ codes "object undo 0"
    ∷ codes "object escrow 1 room:7/b"
    ∷ codes "object undo 0"
    ∷ codes "begin"
    ∷ codes "end"
    ∷ []

-- what its lines say
abbrev pub named_script_lines : List (Line Command)
named_script_lines =
    Objects 4
    ∷ Max 20
    ∷ Object Undo 0 (Some (codes "A12"))
    ∷ Object Undo 0 None
    ∷ Object Escrow 1 (Some (codes "room:7/b"))
    ∷ Object Undo 0 None
    ∷ Entry Begin
    ∷ End
    ∷ []

-- it with another line in place of the one at a place, counted from 0
abbrev pub named_script_with : ℕ → List ℕ → List (List ℕ)
named_script_with place line = slice_set named_script_text place line
