-- The names of the objects of a file, by the first five columns of each.
use Rattle.std.proofs.Common.{◌≡◌, ◌≢◌, ℕ, ◌+◌, List, [], ◌∷◌, map, take, false, refl, subst, sym, ◌∙◌}
use Rattle.std.specs.Prelude.{pos}
use Rattle.std.specs.List.{AllByRecursion}
use Rattle.sqlite_value.specs.declared.value.Value.TheVariants.{Text}
use Rattle.sqlite_value.specs.Order.{Row, column}
use Rattle.sqlite_trees.specs.Tree.{has_rowid}
use Rattle.journal.specs.Journal.{IsNamedOnce, IsOwnNamed, name_column}

first_column : (r : Row) → column (take 5 r) 0 ≡ column r 0
first_column [] = refl
first_column (a ∷ r) = refl

third_column : (r : Row) → column (take 5 r) name_column ≡ column r name_column
third_column [] = refl
third_column (a ∷ []) = refl
third_column (a ∷ b ∷ []) = refl
third_column (a ∷ b ∷ c ∷ r) = refl

-- what holds of the first five columns of each object holds of each
each-told : (P Q : Row → Type 0) → ((r : Row) → P (take 5 r) → Q r) → (rs : List Row) → AllByRecursion P (map (take 5) rs) → AllByRecursion Q rs
each-told P Q turn [] all = tt
each-told P Q turn (r ∷ rs) all = (turn r all.0, each-told P Q turn rs all.1)

pub named-wholly : (rs : List Row) → IsNamedOnce (map (take 5) rs) → IsNamedOnce rs
named-wholly rs named =
    each-told IsOwnNamed IsOwnNamed
    (λ r his table name remade other is. his table name remade (subst (λ v. has_rowid (pos (table + 1)) (v ∷ []) ≡ false) (sym (first_column r)) other) (third_column r ∙ is)) rs named

pub unnamed-wholly : (name : List ℕ) (rs : List Row) → AllByRecursion (λ r. column r name_column ≢ Text name) (map (take 5) rs) → AllByRecursion (λ r. column r name_column ≢ Text name) rs
unnamed-wholly name rs none = each-told (λ r. column r name_column ≢ Text name) (λ r. column r name_column ≢ Text name) (λ r his is. his (third_column r ∙ is)) rs none
