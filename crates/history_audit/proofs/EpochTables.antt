-- Tables that begin at given states, one after another.
use Rattle.std.proofs.Common.{◌≡◌, ℕ, zero, suc, List, [], ◌∷◌, length, map, take, Bor, Some, slice_get, slice_set, refl, sym, ap}
use Rattle.std.proofs.lemmas.Option.{none-some, same_Some}
use Rattle.type_table.specs.Table.{Table, table_at}
use Rattle.history_audit.specs.Epochs.{tables_at}

-- where no state is given, they are as they were
pub none-begun : (tables : List Table) → tables_at tables [] ≡ tables
none-begun [] = refl
none-begun (T ∷ tables) = refl

-- and those without one are
pub not_yet-begun : (tables : List Table) (states : List ℕ) (x : ℕ) → slice_get (tables_at tables (take x states)) x ≡ slice_get tables x
not_yet-begun [] states x = refl
not_yet-begun (T ∷ tables) [] zero = refl
not_yet-begun (T ∷ tables) [] (suc x) = refl
not_yet-begun (T ∷ tables) (s ∷ states) zero = refl
not_yet-begun (T ∷ tables) (s ∷ states) (suc x) = not_yet-begun tables states x

-- there are as many
pub begun-as_many : (tables : List Table) (states : List ℕ) → length (tables_at tables states) ≡ length tables
begun-as_many [] states = refl
begun-as_many (T ∷ tables) [] = refl
begun-as_many (T ∷ tables) (s ∷ states) = ap suc (begun-as_many tables states)

-- one more begins at its state
pub one-begun : (tables : List Table) (states : List ℕ) (x : ℕ) (T : Table) (s : ℕ) → slice_get tables x ≡ Some T → slice_get states x ≡ Some s
    → slice_set (tables_at tables (take x states)) x (table_at T s) ≡ tables_at tables (take (suc x) states)
one-begun [] states x T s at there = absurd (none-some T at)
one-begun (U ∷ tables) [] x T s at there = absurd (none-some s there)
one-begun (U ∷ tables) (r ∷ states) zero T s at there =
    rw (sym (same_Some U T at), sym (same_Some r s there)) (rw (none-begun tables) refl)
one-begun (U ∷ tables) (r ∷ states) (suc x) T s at there = ap (λ them. table_at U r ∷ them) (one-begun tables states x T s at there)

-- what is borrowed has the tables of what it points to
pub tables-shown : {A : Type 0} (f : A → Table) (xs : List (Bor A)) → map (λ t. f t.now) xs ≡ map f (map (λ t. t.now) xs)
tables-shown f [] = refl
tables-shown f (t ∷ xs) = ap (λ them. f t.now ∷ them) (tables-shown f xs)
