-- The script that the lines of a text describe.
use Rattle.std.specs.Prelude.{◌≡◌, ◌<◌, ◌≤◌, List, [], ◌∷◌, length, IfSome}
use Rattle.std.specs.List.{AllByRecursion}
use Rattle.std.specs.Option.{option_to_list}
use Rattle.type_table.specs.Limits.{most_events}
use Rattle.serial_order.specs.declared.command.Command.{Command}
use Rattle.store_text.specs.declared.line.Line.{Line}
use Rattle.store_text.specs.declared.line.ObjectLine.{ObjectLine}
use Rattle.store_text.specs.Named.{AreNamed}
use Rattle.store_text.specs.Said.{said_sizes, said_limits, said_objects, entries_of}
use Rattle.store_text.specs.Size.{may_have, IsSize}
use Rattle.script_text.specs.declared.script.Script.{Script}

-- the size and the limit are those of their lines, the objects and the commands are those of theirs in order
pub record IsScriptOf (lines : List (Line Command)) (script : Script) : Type 0 where
  pub size : said_sizes lines ≡ option_to_list script.size
  pub max : said_limits lines ≡ script.max ∷ []
  pub objects : script.objects.items ≡ said_objects lines
  pub commands : script.commands ≡ entries_of lines

-- its numbers and counts are in their ranges
pub record IsFit (script : Script) : Type 0 where
  pub size : IfSome script.size IsSize
  pub low : 2 ≤ script.max
  pub high : script.max ≤ most_events
  pub some_object : 0 < length script.objects.items
  pub objects_fit : length script.objects.items ≤ may_have script.size
  pub files_fit : AllByRecursion (λ (o : ObjectLine). o.file < may_have script.size) script.objects.items
  pub named : AreNamed script.objects.items
  pub commands_fit : length script.commands ≤ most_events
