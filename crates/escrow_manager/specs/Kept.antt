-- What a manager of escrow keeps.
use Rattle.std.specs.Prelude.{◌≡◌, ℕ, ◌≤◌, ◌<◌, List, [], length, false, ◌==◌, All}
use Rattle.std.specs.List.{list_any, AllByRecursion}
use Rattle.escrow_laws.specs.Marks.{mark_of}
use Rattle.escrow_laws.specs.declared.bounded.Bounded.{Bounded}
use Rattle.escrow_laws.specs.declared.mark.OpenMark.{OpenMark}
use Rattle.object_trait.specs.Object.{IsCovered}
use Rattle.object_trait.specs.Meaning.{Meaning, object, own_of}
use Rattle.object_trait.specs.Sound.{IsSound}
use Rattle.object_trait.specs.declared.log_entry.LogEntry.{LogEntry}
use Rattle.escrow_manager.specs.Numeric.{bounds_in, greatest, IsInEscrow}
use Rattle.escrow_manager.specs.Marks.{MarksAscend, mark_in}
use Rattle.escrow_manager.specs.Totals.{totals_of}
use Rattle.escrow_manager.specs.declared.totals.Totals.{Totals}

-- each transaction's mark is that of what it did; who did something has one, and nobody else, and they are in their order
pub record AreMarksOf (top : ℕ) (ops : List Bounded) (own : ℕ → List ℕ) (marks : List OpenMark) : Type 0 where
  pub exact : (t : ℕ) → mark_in top t marks ≡ mark_of top ops (own t)
  pub all : (t : ℕ) → list_any (λ (o : OpenMark). o.by == t) marks ≡ false → own t ≡ []
  pub some : AllByRecursion (λ (o : OpenMark). own o.by ≡ [] → ⊥) marks
  pub ordered : MarksAscend marks

-- the type is numeric, the meaning is sound, and the marks and their totals are those of what the open transactions did
pub record IsKeptInEscrow (m : Meaning) (marks : List OpenMark) (totals : Totals) : Type 0 where
  pub numeric : IsInEscrow m.checked
  pub covered : IsCovered (object m)
  pub base_fits : m.base < m.checked.file.table.states
  pub ops_fit : All (λ (e : LogEntry). e.op < length m.checked.file.table.ops) m.log
  pub room : length m.log ≤ 4294967295
  pub sound : IsSound m
  pub listed : AreMarksOf (greatest m.checked) (bounds_in m.checked) (own_of m.log) marks
  pub summed : totals ≡ totals_of (greatest m.checked) marks
