-- The states that open transactions see, in the order of the transactions' numbers.
use Rattle.std.specs.Prelude.{◌≡◌, ℕ, true, false, List}
use Rattle.object_trait.specs.Rows as rows
use Rattle.intentions_manager.specs.declared.views.View.{View}
use Rattle.intentions_manager.specs.declared.views.Place.{Place}

-- whose view it is
abbrev pub view_owner : View → ℕ
view_owner v = v.by

-- whose views they are
abbrev pub view_owners : List View → List ℕ
view_owners views = rows.row_owners view_owner views

-- each is of an earlier transaction than those after it
abbrev pub ViewsAscend : List View → Type 0
ViewsAscend views = rows.RowsAscend view_owner views

-- t's index among the views: after those of earlier transactions
abbrev pub view_index : ℕ → List View → ℕ
view_index t views = rows.row_index view_owner t views

-- t's view is at this index
abbrev pub IsViewAt : ℕ → ℕ → List View → Type 0
IsViewAt t at views = rows.IsRowAt view_owner t at views

-- t's index is this place, and its view is there where the place is taken
pub record IsPlace (t : ℕ) (views : List View) (place : Place) : Type 0 where
  pub index : place.at ≡ view_index t views
  pub there : place.is_taken ≡ true → IsViewAt t (view_index t views) views
  pub elsewhere : place.is_taken ≡ false → IsViewAt t (view_index t views) views → ⊥

-- of no entries
abbrev pub bare : ℕ → ℕ → View
bare t base = record { by = t; state = base; count = 0 }

-- what t sees: its view, or where it has none base after no entries
abbrev pub seen_by : ℕ → ℕ → List View → View
seen_by t base views = rows.shown_of view_owner (λ v. v) (bare t base) t views

-- with this view in the place of its transaction's, or before those of later ones
abbrev pub with_view : View → List View → List View
with_view w views = rows.with_row view_owner w views

-- without that of t
abbrev pub without_view : ℕ → List View → List View
without_view t views = rows.without_row view_owner t views
