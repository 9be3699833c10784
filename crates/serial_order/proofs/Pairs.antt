-- Facts of each element of a list, and of each element and each later one: what is so of parts of the list.
use Rattle.std.proofs.Common.{◌≡◌, zero, suc, Bool, true, List, [], ◌∷◌, ◌++◌, map, filter, Contains, inl, inr, sym, ◌∙◌, arith}
use Rattle.std.specs.List.{AllByRecursion}
use Rattle.std.proofs.lemmas.Bool.{cases_Bool}
use Rattle.type_table.proofs.Elements.{each-weaker, each-passes}
use Rattle.object_trait.specs.Orders.{Pairs}

-- ---- each element

-- what holds of everything holds of each element
pub each-all : {E : Type 0} {P : E → Type 0} → ((x : E) → P x) → (V : List E) → AllByRecursion P V
each-all all [] = tt
each-all all (x ∷ V) = (all x, each-all all V)

-- what holds of each element of two lists, one after the other, holds of each of the first
pub each-front : {E : Type 0} (P : E → Type 0) (V W : List E) → AllByRecursion P (V ++ W) → AllByRecursion P V
each-front P [] W p = tt
each-front P (x ∷ V) W p = (p.0, each-front P V W p.1)

-- and of the second
pub each-rest : {E : Type 0} (P : E → Type 0) (V W : List E) → AllByRecursion P (V ++ W) → AllByRecursion P W
each-rest P [] W p = p
each-rest P (x ∷ V) W p = each-rest P V W p.1

-- what holds of each that a function makes holds of what it makes of each element
pub each-from_map : {A B : Type 0} (P : B → Type 0) (f : A → B) (V : List A) → AllByRecursion P (map f V) → AllByRecursion (λ a. P (f a)) V
each-from_map P f [] p = tt
each-from_map P f (a ∷ V) p = (p.0, each-from_map P f V p.1)

-- what holds of each element holds of any one
pub each-at : {E : Type 0} (P : E → Type 0) (V : List E) (a : E) → AllByRecursion P V → Contains V a → P a
each-at P [] a p (i, below, is) = absurd (omega (arith, below))
each-at P (x ∷ V) a p (zero, below, is) = rw is at p.0
each-at P (x ∷ V) a p (suc i, below, is) = each-at P V a p.1 (i, omega (arith, below), is)

-- ---- each element and each later one

-- what holds of those that pass a test, each with each later one, holds so in what a filter keeps
pub pairs-passes : {E : Type 0} (R : E → E → Type 0) (test : E → Bool) (V : List E) → Pairs (λ a b. test a ≡ true → test b ≡ true → R a b) V → Pairs R (filter test V)
pairs-passes R test [] p = tt
pairs-passes R test (x ∷ V) p =
    elim (cases_Bool (test x)) [
      | inl passes ↦ rw passes (each-passes (R x) test V (each-weaker (λ y here. here passes) V p.0), pairs-passes R test V p.1)
      | inr fails ↦ rw fails (pairs-passes R test V p.1)
    ]

-- what holds of each element and each later one, in both orders, and of each with itself, holds of any two
pub pairs-at : {E : Type 0} (R : E → E → Type 0) (V : List E) (a b : E) → ((x : E) → R x x) → Pairs (λ c d. R c d × R d c) V → Contains V a → Contains V b → R a b
pairs-at R [] a b itself p (i, below, is) b_in = absurd (omega (arith, below))
pairs-at R (x ∷ V) a b itself p (zero, below, is) (zero, b_below, b_is) = rw (sym is ∙ b_is) (itself b)
pairs-at R (x ∷ V) a b itself p (zero, below, is) (suc j, b_below, b_is) = rw is at (each-at (λ d. R x d × R d x) V b p.0 (j, omega (arith, b_below), b_is)).0
pairs-at R (x ∷ V) a b itself p (suc i, below, is) (zero, b_below, b_is) = rw b_is at (each-at (λ d. R x d × R d x) V a p.0 (i, omega (arith, below), is)).1
pairs-at R (x ∷ V) a b itself p (suc i, below, is) (suc j, b_below, b_is) = pairs-at R V a b itself p.1 (i, omega (arith, below), is) (j, omega (arith, b_below), b_is)
