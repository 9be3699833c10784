-- Numbers of up to ten digits in a line.
use Rattle.std.specs.Prelude.{ℕ, List, Result}
use Rattle.decimals.specs.Decimals.{long_number_of}
use Rattle.line_text.specs.Shapes.{word, or_kind}
use Rattle.line_text.specs.declared.fault.FaultKind.{FaultKind}
use Rattle.line_text.specs.declared.fault.FaultKind.TheVariants.{BadNumber}

-- the number at a place of a line
unfoldable pub long_number_at : List (List ℕ) → ℕ → Result ℕ FaultKind
long_number_at words place = or_kind BadNumber (long_number_of (word words place))
