-- Scripts over the counter of two, worked by hand.
use Rattle.std.specs.Prelude.{ℕ, Bool, false, ◌==◌, List, [], ◌∷◌, ◌++◌, None, codes}
use Rattle.std.specs.List.{flat_map}
use Rattle.type_table.specs.declared.kind.Kind.TheVariants.{Undo}
use Rattle.object_trait.specs.Object.{Object}
use Rattle.serial_order.specs.Examples.{undo_counter}
use Rattle.serial_order.specs.declared.command.Command.{Command}
use Rattle.serial_order.specs.declared.command.Command.TheVariants.{Begin, Call, Commit, Abort}
use Rattle.store_text.specs.declared.line.ObjectLine.{ObjectLine}
use Rattle.store_limits.specs.Standard.{standard_with}
use Rattle.script_run.specs.Turns.{text_of_turns, script_turns}

-- one counter, update in place
abbrev pub one_counter : List Object
one_counter = undo_counter ∷ []

abbrev pub one_object_line : List ObjectLine
one_object_line = record { kind = Undo; file = 0; name = None } ∷ []

-- two transactions count up, one aborts and the other commits; its abort is asked a second time, and a third transaction stays open
abbrev pub keeps_others : List Command
keeps_others =
    Begin ∷ Begin ∷ Call 0 0 (codes "inc:1") ∷ Call 1 0 (codes "inc:1") ∷ Abort 0 ∷ Abort 0 ∷ Commit 1 ∷ Begin ∷ []

-- the text of that script with a limit of events, where memory is refused at some places and the counter keeps a state
abbrev pub counter_run_text : ℕ → (ℕ → Bool) → ℕ → List ℕ
counter_run_text most memory_refused state = text_of_turns (script_turns one_counter (standard_with most) memory_refused (state ∷ []) [] one_object_line keeps_others)

-- memory is refused nowhere, or at one place
abbrev pub never_refused : ℕ → Bool
never_refused place = false

abbrev pub only_at : ℕ → ℕ → Bool
only_at n place = place == n

-- the bytes of lines, each ended by a LF
abbrev pub ended : List (List ℕ) → List ℕ
ended lines = flat_map (λ l. l ++ 10 ∷ []) lines
