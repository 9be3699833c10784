-- Lines of states.
use Rattle.std.specs.Prelude.{Bool, true, false}
use Rattle.type_text.specs.declared.type_line.TypeLine.{TypeLine}
use Rattle.type_text.specs.declared.type_line.TypeLine.TheVariants.{Reach}

abbrev pub is_reach : TypeLine → Bool
is_reach (Reach s) = true
is_reach _ = false
