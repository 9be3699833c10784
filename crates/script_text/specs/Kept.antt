-- What is kept of commands, and of the names of their calls.
use Rattle.std.specs.Prelude.{◌≡◌, ℕ, ◌<◌, true, List, [], ◌∷◌, ◌++◌, length, slice_get, slice_index_or, Some}
use Rattle.type_table.specs.Name.{is_name as is_name_text}
use Rattle.serial_order.specs.declared.command.Command.{Command}
use Rattle.serial_order.specs.declared.command.Command.TheVariants.{Begin, Call, Commit, Abort, Rollback}
use Rattle.script_text.specs.declared.kept_command.KeptCommand.{KeptCommand}
use Rattle.script_text.specs.declared.kept_command.KeptCommand.TheVariants as kept

-- the command of which this is kept, beside these names
abbrev pub command_said : List (List ℕ) → KeptCommand → Command
command_said names kept.Begin = Begin
command_said names (kept.Call t x name) = Call t x (slice_index_or names name [])
command_said names (kept.Commit t) = Commit t
command_said names (kept.Abort t) = Abort t
command_said names (kept.Rollback t n) = Rollback t n

-- its name is one of this many
abbrev pub HasName : ℕ → KeptCommand → Type 0
HasName count (kept.Call t x name) = name < count
HasName count _ = Unit {0}

-- a command is kept so, for which a name may have come after the others
pub record KeepsCommand (old new : List (List ℕ)) (command : Command) (k : KeptCommand) : Type 0 where
  pub more : List (List ℕ)
  pub names : new ≡ old ++ more
  pub has_name : HasName (length new) k
  pub says : command_said new k ≡ command

-- a text begins with the name at a position and a LF, and goes on so
pub record BeginsWithName (names : List (List ℕ)) (text : List ℕ) (position : ℕ) (behind : List ℕ) : Type 0 where
  pub word : List ℕ
  pub there : slice_get names position ≡ Some word
  pub is_name : is_name_text word ≡ true
  pub front : text ≡ word ++ 10 ∷ behind

-- a call by the name with which a text begins comes after the other commands
pub record PutsCall (t x : ℕ) (text behind : List ℕ) (before after : List Command) : Type 0 where
  pub word : List ℕ
  pub is_name : is_name_text word ≡ true
  pub front : text ≡ word ++ 10 ∷ behind
  pub kept : after ≡ before ++ Call t x word ∷ []
