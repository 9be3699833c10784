-- The command lines of a script.
use Rattle.std.specs.Prelude.{ℕ, true, false, List, if◌then◌else◌, Result, Ok, Err, codes}
use Rattle.line_text.specs.Shapes.{◌>>=◌, exactly, number_at, name_at, is_key}
use Rattle.line_text.specs.declared.fault.FaultKind.{FaultKind}
use Rattle.line_text.specs.declared.fault.FaultKind.TheVariants.{UnknownWord}
use Rattle.serial_order.specs.declared.command.Command.{Command}
use Rattle.serial_order.specs.declared.command.Command.TheVariants.{Begin, Call, Commit, Abort, Rollback}
use Rattle.store_text.specs.Body.{Body}

unfoldable pub begin_command_of : List (List ℕ) → Result Command FaultKind
begin_command_of words = do
  done ← exactly words 1
  Ok Begin

unfoldable pub call_command_of : List (List ℕ) → Result Command FaultKind
call_command_of words = do
  done ← exactly words 4
  call ← name_at words 3
  t ← number_at words 1
  x ← number_at words 2
  Ok (Call t x call)

unfoldable pub commit_command_of : List (List ℕ) → Result Command FaultKind
commit_command_of words = do
  done ← exactly words 2
  t ← number_at words 1
  Ok (Commit t)

unfoldable pub abort_command_of : List (List ℕ) → Result Command FaultKind
abort_command_of words = do
  done ← exactly words 2
  t ← number_at words 1
  Ok (Abort t)

unfoldable pub rollback_command_of : List (List ℕ) → Result Command FaultKind
rollback_command_of words = do
  done ← exactly words 3
  t ← number_at words 1
  n ← number_at words 2
  Ok (Rollback t n)

-- by the keyword
unfoldable pub command_of : List (List ℕ) → Result Command FaultKind
command_of words =
    if is_key words (codes "begin") then begin_command_of words
    else (if is_key words (codes "call") then call_command_of words
    else (if is_key words (codes "commit") then commit_command_of words
    else (if is_key words (codes "abort") then abort_command_of words
    else (if is_key words (codes "rollback") then rollback_command_of words
    else Err UnknownWord))))

-- a script begins with its limit; a command may have any numbers and come at any place
abbrev pub commands : Body Command
commands = record {
  has_max = true;
  entry_of = command_of;
  is_in_range = λ objects x. true;
  wants_another = λ x. false;
}
