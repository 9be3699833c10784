-- Texts of histories whose outcome was worked out by hand.
use Rattle.std.specs.Prelude.{◌≡◌, ℕ, List, [], ◌∷◌, ◌++◌, slice_set, Some, None, Ok, Err, codes}
use Rattle.std.specs.List.{flat_map}
use Rattle.type_table.specs.Operation.{operation_at}
use Rattle.type_table.specs.declared.kind.Kind.TheVariants.{Undo, Intentions}
use Rattle.object_trait.specs.declared.event.Event.{Event}
use Rattle.object_trait.specs.declared.event.EventKind.{EventKind}
use Rattle.object_trait.specs.declared.event.EventKind.TheVariants as kind
use Rattle.line_text.specs.Outcome.{fault_on}
use Rattle.line_text.specs.declared.fault.FaultKind.{FaultKind}
use Rattle.store_text.specs.Body.{store_outcome}
use Rattle.store_text.specs.declared.line.Line.{Line}
use Rattle.store_text.specs.declared.line.Line.TheVariants.{Objects, Object, Entry, End}
use Rattle.store_text.specs.declared.line.ObjectLine.{ObjectLine}
use Rattle.history_text.specs.declared.event_line.EventLine.{EventLine}
use Rattle.history_text.specs.declared.event_line.EventLine.TheVariants.{Begin, Op, OpOf, Busy, Nothing, Commit, Abort, Rollback}
use Rattle.history_text.specs.Events.{history_body}

-- a history over two objects, which has each kind of event, and an operation with an amount
abbrev pub two_objects_text : List (List ℕ)
two_objects_text =
    codes "object undo 0"
    ∷ codes "object intentions 255"
    ∷ codes "begin 0 0"
    ∷ codes "begin 255 1"
    ∷ codes "op 0 0 1 63"
    ∷ codes "busy 255 1 1 2 0"
    ∷ codes "none 255 1 0 3"
    ∷ codes "rollback 0 0 1"
    ∷ codes "op 0 0 0 2 4294967295"
    ∷ codes "commit 0 0"
    ∷ codes "abort 255 1"
    ∷ codes "end"
    ∷ []

-- what its lines say
abbrev pub history_lines : List (Line EventLine)
history_lines =
    Object Undo 0 None
    ∷ Object Intentions 255 None
    ∷ Entry (Begin 0 0)
    ∷ Entry (Begin 255 1)
    ∷ Entry (Op 0 0 1 63)
    ∷ Entry (Busy 255 1 1 2 0)
    ∷ Entry (Nothing 255 1 0 3)
    ∷ Entry (Rollback 0 0 1)
    ∷ Entry (OpOf 0 0 0 2 4294967295)
    ∷ Entry (Commit 0 0)
    ∷ Entry (Abort 255 1)
    ∷ End
    ∷ []

-- its objects
abbrev pub some_objects : List ObjectLine
some_objects = record { kind = Undo; file = 0; name = None } ∷ record { kind = Intentions; file = 255; name = None } ∷ []

abbrev at_worker : ℕ → EventKind → Event
at_worker w kind = record { worker = w; kind = kind }

-- its events
abbrev pub some_events : List Event
some_events =
    at_worker 0 (kind.Begin 0)
    ∷ at_worker 255 (kind.Begin 1)
    ∷ at_worker 0 (kind.Op 63 0 1)
    ∷ at_worker 255 (kind.Busy 2 1 1 0)
    ∷ at_worker 255 (kind.None 1 0 3)
    ∷ at_worker 0 (kind.Rollback 0 1)
    ∷ at_worker 0 (kind.Op (operation_at 2 (Some 4294967295)) 0 0)
    ∷ at_worker 0 (kind.Commit 0)
    ∷ at_worker 255 (kind.Abort 1)
    ∷ []

-- the bytes of lines, each ended by a LF
abbrev pub ended : List (List ℕ) → List ℕ
ended text = flat_map (λ l. l ++ 10 ∷ []) text

-- these lines are read as these
abbrev pub SaysEvents : List (List ℕ) → List (Line EventLine) → Type 0
SaysEvents text lines = store_outcome history_body (ended text) ≡ Ok lines

-- a text is refused at a line
abbrev pub RefusesHistory : List (List ℕ) → ℕ → FaultKind → Type 0
RefusesHistory text line kind = store_outcome history_body (ended text) ≡ Err (fault_on line kind)

-- the history's text with another line in place of the one at a place, counted from 0
abbrev pub history_with : ℕ → List ℕ → List (List ℕ)
history_with place line = slice_set two_objects_text place line

-- ---- a text that says how many objects it may have

-- one of three hundred
abbrev pub sized_history_text : List (List ℕ)
sized_history_text =
    codes "# note"
    ∷ codes "objects 300"
    ∷ codes "object undo 299"
    ∷ codes "op 0 0 299 1"
    ∷ codes "end"
    ∷ []

-- what its lines say
abbrev pub sized_history_lines : List (Line EventLine)
sized_history_lines = Objects 300 ∷ Object Undo 299 None ∷ Entry (Op 0 0 299 1) ∷ End ∷ []

-- its text with another line in place of the one at a place, counted from 0
abbrev pub sized_history_with : ℕ → List ℕ → List (List ℕ)
sized_history_with place line = slice_set sized_history_text place line

-- a text of one object, of two
abbrev pub text_of_one : List (List ℕ)
text_of_one = codes "objects 1" ∷ codes "object undo 0" ∷ codes "end" ∷ []

abbrev pub text_of_two : List (List ℕ)
text_of_two = codes "objects 1" ∷ codes "object undo 0" ∷ codes "object undo 0" ∷ codes "end" ∷ []

-- an object of a type at the place 256
abbrev pub far_objects : List ObjectLine
far_objects = record { kind = Undo; file = 256; name = None } ∷ record { kind = Undo; file = 0; name = None } ∷ []

-- two objects, of which one has a name
abbrev pub named_objects : List ObjectLine
named_objects = record { kind = Undo; file = 0; name = None } ∷ record { kind = Intentions; file = 1; name = Some (codes "LH-455.A12") } ∷ []

-- their text
abbrev pub named_history_text : List (List ℕ)
named_history_text = codes "objects 2" ∷ codes "object undo 0" ∷ codes "object intentions 1 LH-455.A12" ∷ codes "end" ∷ []
