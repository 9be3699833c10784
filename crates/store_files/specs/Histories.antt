-- Histories and their texts.
use Rattle.std.specs.Prelude.{◌≡◌, ℕ, List, Ok, Err}
use Rattle.line_text.specs.declared.fault.TextFault.{TextFault}
use Rattle.store_text.specs.Body.{store_outcome}
use Rattle.store_text.specs.declared.line.Line.{Line}
use Rattle.history_text.specs.Events.{history_body}
use Rattle.history_text.specs.History.{IsHistoryOf}
use Rattle.history_text.specs.declared.event_line.EventLine.{EventLine}
use Rattle.history_text.specs.declared.history_file.HistoryFile.{HistoryFile}
use Rattle.store_files.specs.Types.{Held, AreReadAt, IsFirstFaultyOf}

-- the history that a text describes
pub record DescribesHistory (text : List ℕ) (file : HistoryFile) : Type 0 where
  pub lines : List (Line EventLine)
  pub accepted : store_outcome history_body text ≡ Ok lines
  pub described : IsHistoryOf lines file

-- the text has a fault
abbrev pub IsFaultyHistory : List ℕ → Type 0
IsFaultyHistory text = (f : TextFault) × (store_outcome history_body text ≡ Err f)

-- each path has its history
abbrev pub AreHistoriesAt : Held → List (List ℕ) → List HistoryFile → Type 0
AreHistoriesAt = AreReadAt DescribesHistory

-- the text of a history at this path is the first that has a fault
abbrev pub IsFirstFaultyHistory : Held → List (List ℕ) → Type 0
IsFirstFaultyHistory = IsFirstFaultyOf DescribesHistory IsFaultyHistory
