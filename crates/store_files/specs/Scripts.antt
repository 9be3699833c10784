-- Scripts and their texts.
use Rattle.std.specs.Prelude.{◌≡◌, ℕ, List, Ok, Err}
use Rattle.line_text.specs.declared.fault.TextFault.{TextFault}
use Rattle.serial_order.specs.declared.command.Command.{Command}
use Rattle.store_text.specs.Body.{store_outcome}
use Rattle.store_text.specs.declared.line.Line.{Line}
use Rattle.script_text.specs.Commands.{commands}
use Rattle.script_text.specs.Script.{IsScriptOf}
use Rattle.script_text.specs.declared.script.Script.{Script}

-- the script that a text describes, whose numbers and counts are in their ranges
pub record DescribesScript (text : List ℕ) (script : Script) : Type 0 where
  pub lines : List (Line Command)
  pub accepted : store_outcome commands text ≡ Ok lines
  pub described : IsScriptOf lines script

-- the text has a fault
abbrev pub IsFaultyScript : List ℕ → Type 0
IsFaultyScript text = (f : TextFault) × (store_outcome commands text ≡ Err f)
