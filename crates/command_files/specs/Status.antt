-- How the program ends.
use Rattle.std.specs.Prelude.{ℕ, Bool, true, false}
use Rattle.command_files.specs.declared.fault.Fault.{Fault}
use Rattle.command_files.specs.declared.fault.Fault.TheVariants.{Usage, Text, NoType, NeedsEscrow, ObjectNeedsEscrow, NameTaken, OtherObjects, Order, HasEvents, BadParameter, TooLarge, CannotRead, Database, NoStore, NoMemory, Output}
use Rattle.command_files.specs.declared.status.Status.{Status}
use Rattle.command_files.specs.declared.status.Status.TheVariants.{Yes, No, BadInput, Failed}
use Rattle.command_files.specs.declared.status.Verdict.{Verdict}
use Rattle.command_files.specs.declared.status.Verdict.TheVariants as verdict

-- the number of each status
abbrev pub status_code : Status → ℕ
status_code Yes = 0
status_code No = 1
status_code BadInput = 2
status_code Failed = 3

-- the status of an answer
abbrev pub status_of_verdict : Verdict → Status
status_of_verdict verdict.Yes = Yes
status_of_verdict verdict.No = No

-- what the user gave has a fault: the words, a text, a number that is named without escrow, the objects of a history, an order of its transactions, events where there may be none, the parameters of a family, or a file that is no store's
abbrev pub is_input : Fault → Bool
is_input (Usage text) = true
is_input (Text path fault) = true
is_input (NoType path x place) = true
is_input (NeedsEscrow path) = true
is_input (ObjectNeedsEscrow path x) = true
is_input (NameTaken path x) = true
is_input (OtherObjects path first) = true
is_input (Order path fault) = true
is_input (HasEvents path) = true
is_input BadParameter = true
is_input TooLarge = true
is_input (CannotRead path) = false
is_input (Database path fault) = false
is_input (NoStore path) = true
is_input NoMemory = false
is_input Output = false

-- the status of a fault of what the user gave, and of any other
abbrev pub status_at : Bool → Status
status_at true = BadInput
status_at false = Failed

-- the status of a fault
abbrev pub status_of : Fault → Status
status_of fault = status_at (is_input fault)
