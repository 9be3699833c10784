-- Operations that change nothing, and a test that tells it.
use Rattle.std.specs.Prelude.{◌≡◌, ℕ, Bool, true, ◌==◌, Some}
use Rattle.type_table.specs.Table.{next, is_same_call}
use Rattle.type_table.specs.Run.{AreEqui}
use Rattle.type_table.specs.declared.kind.Kind.{Kind}
use Rattle.type_table.specs.declared.kind.Kind.TheVariants.{Undo, Intentions, Escrow}
use Rattle.escrow_laws.specs.Bounds.{amounts_of, bounds_of}
use Rattle.declared_types.specs.declared.type_file.TypeFile.{TypeFile}
use Rattle.table_checker.specs.Checked.{Checked}
use Rattle.table_checker.specs.Still.{is_still_in}
use Rattle.object_trait.specs.Object.{Object}

-- from each state of the set in which it is legal, the operation leads to an equieffective one
abbrev pub ChangesNothing : Object → ℕ → Type 0
ChangesNothing o k = (s t : ℕ) → o.set s ≡ true → next o.table s k ≡ Some t → AreEqui o.table (Some s) (Some t)

-- ---- the test

-- with a table: at each state of the file's set. In escrow: it gives as much as it takes
abbrev pub is_still_by : Kind → TypeFile → ℕ → Bool
is_still_by Undo file k = is_still_in file k
is_still_by Intentions file k = is_still_in file k
is_still_by Escrow file k = (amounts_of (bounds_of file.table)).gives k == (amounts_of (bounds_of file.table)).takes k

abbrev pub is_still : Checked → ℕ → Bool
is_still c k = is_still_by c.kind c.file k

-- each operation of a call passes it, of which one is c
abbrev pub IsStillCall : Checked → ℕ → Type 0
IsStillCall checked c = (k : ℕ) → is_same_call checked.file.table k c ≡ true → is_still checked k ≡ true
