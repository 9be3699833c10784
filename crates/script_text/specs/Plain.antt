-- Plain lines of commands.
use Rattle.std.specs.Prelude.{ℕ, List}
use Rattle.serial_order.specs.declared.command.Command.{Command}
use Rattle.store_text.specs.PlainEntry.{KeepsEntry}
use Rattle.script_text.specs.Commands.{commands}

-- a text's first line says a command plainly, which is kept after the others, however many objects the text may have
pub record KeepsCommandOf (text behind : List ℕ) (before after : List Command) : Type 0 where
  pub keeps : (objects : ℕ) → KeepsEntry commands objects text behind before after
