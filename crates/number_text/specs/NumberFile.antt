-- The number that the lines of a text describe.
use Rattle.std.specs.Prelude.{◌≡◌, ◌⊎◌, ℕ, List, slice_get, Some, Result, Ok, Err}
use Rattle.line_text.specs.Outcome.{outcome_of, IsReached}
use Rattle.line_text.specs.Text.{lines_of}
use Rattle.line_text.specs.declared.fault.TextFault.{TextFault}
use Rattle.line_text.specs.declared.fault.FaultKind.TheVariants.{NoMemory}
use Rattle.number_types.specs.Number.{Number}
use Rattle.number_text.specs.declared.number_line.NumberLine.{NumberLine}
use Rattle.number_text.specs.declared.number_line.NumberLine.TheVariants.{Called, Max, Initial}
use Rattle.number_text.specs.NumberLines.{calls_of, number_rules}

-- each part of the number is what the lines of its section say
pub record IsNumberOf (lines : List NumberLine) (v : Number) : Type 0 where
  pub name : slice_get lines 0 ≡ Some (Called v.name)
  pub max : slice_get lines 1 ≡ Some (Max v.max)
  pub initial : slice_get lines 2 ≡ Some (Initial v.initial)
  pub calls : v.calls ≡ calls_of lines

-- the number of a text that has a value, else the text's fault; or memory was refused at the line that was being read
abbrev pub Reads : Result Number TextFault → List ℕ → Type 0
Reads (Ok v) text = (lines : List NumberLine) × (outcome_of number_rules text ≡ Ok lines) × IsNumberOf lines v
Reads (Err f) text = (outcome_of number_rules text ≡ Err f) ⊎ ((f.kind ≡ NoMemory) × IsReached number_rules (lines_of text) f.line)
