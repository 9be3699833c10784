-- A checked type that begins at another state.
use Rattle.std.specs.Prelude.{◌≡◌, ℕ, Bool, true}
use Rattle.declared_types.specs.TypeFile.{file_at}
use Rattle.table_checker.specs.Checked.{Checked, IsChecked, IsStrong, set_by}

-- the type as it was checked, beginning at s
abbrev pub checked_at : Checked → ℕ → Checked
checked_at c s = record c { file = file_at c.file s }

-- it may begin at s, which is one of the states that were looked at
abbrev pub may_begin_at : Checked → ℕ → Bool
may_begin_at c s = set_by c.kind c.file s

abbrev pub IsInside : Checked → ℕ → Type 0
IsInside c s = may_begin_at c s ≡ true

-- where it may begin it is checked too
abbrev pub AtIsChecked : Type 0
AtIsChecked = (c : Checked) (s : ℕ) → IsChecked c → IsInside c s → IsChecked (checked_at c s)

-- and strongly where it was
abbrev pub AtIsStrong : Type 0
AtIsStrong = (c : Checked) (s : ℕ) → IsStrong c → IsStrong (checked_at c s)
