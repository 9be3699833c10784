-- The sets of families' files.
use Rattle.std.proofs.Common.{◌≡◌, ℕ, ◌<◌, true, false, List, Bool, ap, ◌∙◌, arith}
use Rattle.std.proofs.lemmas.List.{get_or-replicate}
use Rattle.type_table.specs.Laws.{StepsWithin}
use Rattle.type_table.specs.StateSet.{has}
use Rattle.declared_types.specs.declared.type_file.TypeFile.{TypeFile}
use Rattle.table_maker.specs.Made.{Family, IsFileOfFamily}
use Rattle.made_answers.specs.Laws.{FamiliesAreAccepted, FamiliesHaveClosedSets, MadeIsAccepted}

-- the set has each state
has_each : (f : Family) (file : TypeFile) → IsFileOfFamily f file → (s : ℕ) → s < file.table.states → has file.reach s ≡ true
has_each f file is s s_in = ap (λ (members : List Bool). has members s) is.reach ∙ get_or-replicate f.states s true false (omega (arith, s_in, is.table.states))

pub families_have_closed_sets : StepsWithin → FamiliesHaveClosedSets
families_have_closed_sets within = λ f file is. record {
  begins_inside = has_each f file is file.table.initial is.made.table.initial_inside;
  closed = λ s k t member step. has_each f file is t (within file.table s k t is.made.table step).2;
}

pub families_are_accepted : MadeIsAccepted → FamiliesHaveClosedSets → FamiliesAreAccepted
families_are_accepted accepted sets = λ f kind file is. (accepted kind file is.made).1 (sets f file is)
