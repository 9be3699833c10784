-- The objects of a text are no more than any text may have.
use Rattle.std.proofs.Common.{ℕ, ◌<◌, ◌≤◌, List, Option, Some, None, IfSome, arith}
use Rattle.std.specs.List.{AllByRecursion}
use Rattle.type_table.proofs.Elements.{each-weaker}
use Rattle.store_text.specs.Size.{may_have, most_size, IsSize}
use Rattle.store_text.specs.declared.line.ObjectLine.{ObjectLine}

pub size-within : (size : Option ℕ) → IfSome size IsSize → may_have size ≤ most_size
size-within None is = omega arith
size-within (Some n) is = is.1

-- nor is the place of a type
pub files-within : (size : Option ℕ) (lines : List ObjectLine) → IfSome size IsSize → AllByRecursion (λ (o : ObjectLine). o.file < may_have size) lines
    → AllByRecursion (λ (o : ObjectLine). o.file < most_size) lines
files-within size lines is below = each-weaker (λ (o : ObjectLine) low. omega (arith, low, size-within size is)) lines below
