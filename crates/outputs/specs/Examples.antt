-- An output that gathers, over the list of the bytes that the output under it took.
use Rattle.std.specs.Prelude.{◌≡◌, ℕ, List}
use Rattle.outputs.specs.declared.gathered.Gathered.{Gathered}
use Rattle.outputs.specs.Gathered.{under}

-- the output under it took these bytes; these were gathered, and this many of them handed on
pub record HasGathered (took gathered : List ℕ) (passed : ℕ) (g : Gathered (List ℕ)) : Type 0 where
  pub took_is : under g ≡ took
  pub gathered_is : g.bytes.items ≡ gathered
  pub passed_is : g.passed ≡ passed
