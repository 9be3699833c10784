-- Texts of scripts, worked by hand.
use Rattle.std.specs.Prelude.{◌≡◌, ℕ, List, [], ◌∷◌, take, Some, None, codes}
use Rattle.type_table.specs.declared.kind.Kind.TheVariants.{Undo, Intentions}
use Rattle.serial_order.specs.declared.command.Command.{Command}
use Rattle.serial_order.specs.declared.command.Command.TheVariants.{Begin, Call, Commit, Abort, Rollback}
use Rattle.script_text.specs.declared.script.Script.{Script}
use Rattle.store_text.specs.declared.line.ObjectLine.{ObjectLine}
use Rattle.script_text.specs.Examples.{ended, script_text}
use Rattle.store_files.specs.Types.{Held}

-- the script says no size, and has this limit, these objects and these commands
pub record HasScript (max : ℕ) (objects : List ObjectLine) (commands : List Command) (script : Script) : Type 0 where
  pub size_is : script.size ≡ None
  pub max_is : script.max ≡ max
  pub objects_are : script.objects.items ≡ objects
  pub commands_are : script.commands ≡ commands

-- the text of the example's script without its `end`
abbrev pub endless_script : List ℕ
endless_script = ended (take 8 script_text)

-- this text is held at each path
abbrev pub everywhere : List ℕ → Held
everywhere text path = Some text

-- the example's script: two objects, of the types at the places 0 and 1
abbrev pub script_objects : List ObjectLine
script_objects = record { kind = Undo; file = 0; name = None } ∷ record { kind = Intentions; file = 1; name = None } ∷ []

abbrev pub script_commands : List Command
script_commands = Begin ∷ Call 0 1 (codes "inc:1") ∷ Rollback 0 1 ∷ Commit 0 ∷ Abort 7 ∷ []
