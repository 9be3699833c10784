-- For whom a transaction waits that is answered `Busy`: a statement of its law.
use Rattle.std.specs.Prelude.{◌≡◌, ℕ, true, List, ◌++◌, Some}
use Rattle.object_trait.specs.Object.{Object, IsCovered}
use Rattle.object_trait.specs.declared.event.Event.{Event}
use Rattle.type_table.specs.declared.kind.Kind.TheVariants.{Escrow}
use Rattle.serial_order.specs.Operations.{at_object}
use Rattle.serial_order.specs.History.{Summary, summary, is_open}
use Rattle.serial_order.specs.View.{own_at, number_at, is_alone, is_legal_for}
use Rattle.serial_order.specs.Machine.{IsBlocked}
use Rattle.serial_order.specs.Answer.{blocker}
use Rattle.serial_order.specs.declared.entry.Entry.{Entry}

-- what open transactions did at x, and the number that is committed there
abbrev pub did_at : ℕ → Summary → ℕ → List ℕ
did_at x s = own_at s.committed (at_object x s.survives)

abbrev pub base_at : Object → ℕ → Summary → ℕ
base_at o x s = number_at o s.committed (at_object x s.survives)

-- t still waits for u at x: u is open, with what it did and perhaps more; t did nothing more; and what is committed there is the same
pub record StillWaits (o : Object) (x t u : ℕ) (s later : Summary) : Type 0 where
  pub holds : is_open later u ≡ true
  pub more : List ℕ
  pub kept : did_at x later u ≡ did_at x s u ++ more
  pub waits : did_at x later t ≡ did_at x s t
  pub base : base_at o x later ≡ base_at o x s

-- in escrow, whom `Busy` names as one that keeps t from k alone does so while t still waits for it, whatever the others do
abbrev pub BusyNamesWhoKeeps : Type 0
BusyNamesWhoKeeps =
    (o : Object) (H more : List Event) (x t k : ℕ) (e : Entry) → IsCovered o → o.kind ≡ Escrow
    → is_open (summary H) t ≡ true → is_legal_for o (summary H) x t k ≡ true
    → blocker o (summary H) x t k ≡ Some e → is_alone o (summary H) x t k e ≡ true
    → StillWaits o x t e.by (summary H) (summary (H ++ more)) → IsBlocked o (summary (H ++ more)) x t k
