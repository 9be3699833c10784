use Rattle.std.proofs.Common.{◌≡◌, [], ◌∷◌, refl, lit<, arith}
use Rattle.journal.specs.Examples.{prepared_order}
use Rattle.journal.specs.PreparedRow.{prepared_row}
use Rattle.journal.proofs.worked.small_files.Goals as goal

pub returns-clause-is : goal.returns-clause-is
returns-clause-is c = record {
  events = refl;
  headers = refl;
  types = refl;
  objects = refl;
  states = refl;
  prepared = refl;
  unprepared = λ older. absurd (omega (arith, older));
  outcomes = λ older. refl;
}

pub returns-clause-none : goal.returns-clause-none
returns-clause-none c = record {
  events = refl;
  headers = refl;
  types = refl;
  objects = refl;
  states = refl;
  prepared = refl;
  unprepared = λ older. refl;
  outcomes = λ older. refl;
}

pub returns-clause-older : goal.returns-clause-older
returns-clause-older c = λ file.
    let none : prepared_row 0 prepared_order ∷ [] ≡ [] = file.unprepared (lit< tt) in
    absurd (cc)

pub returns-clause-elsewhere : goal.returns-clause-elsewhere
returns-clause-elsewhere c = λ file.
    let same : prepared_row 1 prepared_order ∷ [] ≡ prepared_row 0 prepared_order ∷ [] = file.prepared in
    absurd (cc)
