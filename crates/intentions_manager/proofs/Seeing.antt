-- What each transaction sees, where a view is put in its place or taken out.
use Rattle.std.proofs.Common.{◌≡◌, ℕ, false, eqb, List, [], ◌∷◌, get_or, refl, inl, inr}
use Rattle.std.proofs.lemmas.Bool.{cases_Bool}
use Rattle.object_trait.proofs.Rows.{shown_there, shown_nowhere, shown-put, shown-put_other, shown-dropped, shown-dropped_other}
use Rattle.intentions_manager.specs.Views.{view_owner, ViewsAscend, view_index, IsViewAt, bare, seen_by, with_view, without_view}
use Rattle.intentions_manager.specs.declared.views.View.{View}

-- in its place is what the transaction sees, if that is its own
pub seen_there : (t base : ℕ) (views : List View) (d : View) → IsViewAt t (view_index t views) views → get_or views (view_index t views) d ≡ seen_by t base views
seen_there t base = shown_there view_owner (λ v. v) (bare t base) t

-- else it sees base
pub seen_nowhere : (t base : ℕ) (views : List View) → ViewsAscend views → (IsViewAt t (view_index t views) views → ⊥) → seen_by t base views ≡ bare t base
seen_nowhere t base = shown_nowhere view_owner (λ v. v) (bare t base) t

-- how many entries a transaction sees doesn't depend on base
pub count-any : (t a b : ℕ) (views : List View) → (seen_by t a views).count ≡ (seen_by t b views).count
count-any t a b [] = refl
count-any t a b (v ∷ views) =
    elim (cases_Bool (eqb v.by t)) [
      | inl is ↦ rw is refl
      | inr isnt ↦ rw isnt (count-any t a b views)
    ]

-- with a view put: its transaction
pub seen-put : (w : View) (base : ℕ) (views : List View) → seen_by w.by base (with_view w views) ≡ w
seen-put w base = shown-put view_owner (λ v. v) (bare w.by base) w

-- and another
pub seen-put_other : (w : View) (u base : ℕ) (views : List View) → eqb w.by u ≡ false → seen_by u base (with_view w views) ≡ seen_by u base views
seen-put_other w u base = shown-put_other view_owner (λ v. v) (bare u base) w u

-- with a view taken out: its transaction
pub seen-dropped : (t base : ℕ) (views : List View) → seen_by t base (without_view t views) ≡ bare t base
seen-dropped t base = shown-dropped view_owner (λ v. v) (bare t base) t

-- and another
pub seen-dropped_other : (t u base : ℕ) (views : List View) → eqb t u ≡ false → seen_by u base (without_view t views) ≡ seen_by u base views
seen-dropped_other t u base = shown-dropped_other view_owner (λ v. v) (bare u base) t u
