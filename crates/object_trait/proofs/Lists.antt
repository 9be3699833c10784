-- Facts of each element of a list, and of each element and each later one.
use Rattle.std.proofs.Common.{◌≡◌, ℕ, zero, suc, ◌<◌, Bool, true, false, List, [], ◌∷◌, ◌++◌, map, length, get_or, Contains, inl, inr, arith}
use Rattle.std.specs.List.{filter, AllByRecursion}
use Rattle.std.proofs.lemmas.Bool.{cases_Bool}
use Rattle.type_table.proofs.Elements.{each-weaker, each-both, each-push, each-map, each-passes, each-filter}
use Rattle.object_trait.specs.Orders.{Pairs}

-- ---- each element

-- of an element of the list
each-at : (P : ℕ → Type 0) (V : List ℕ) (x : ℕ) → AllByRecursion P V → Contains V x → P x
each-at P V x p inside = at V inside.0 p inside.1 inside.2
  where
    at : (W : List ℕ) (k : ℕ) → AllByRecursion P W → k < length W → get_or W k x ≡ x → P x
    at [] k each below e = absurd (omega arith)
    at (y ∷ W) zero each below e = rw e at each.0
    at (y ∷ W) (suc k) each below e = at W k each.1 (omega arith) e

-- ---- each element of one list with each of another

-- of the elements to which a function leads
pub each_two-map : {A B : Type 0} (R : B → B → Type 0) (f : A → B) (V W : List A) → AllByRecursion (λ a. AllByRecursion (λ b. R (f a) (f b)) W) V → AllByRecursion (λ x. AllByRecursion (R x) (map f W)) (map f V)
each_two-map R f V W p = each-map (λ x. AllByRecursion (R x) (map f W)) f V (each-weaker (λ a. each-map (R (f a)) f W) V p)

-- of an element of the one and an element of the other
pub each_two-at : (R : ℕ → ℕ → Type 0) (V W : List ℕ) → AllByRecursion (λ x. AllByRecursion (R x) W) V → (x y : ℕ) → Contains V x → Contains W y → R x y
each_two-at R V W p x y x_in y_in = each-at (R x) W y (each-at (λ z. AllByRecursion (R z) W) V x p x_in) y_in

-- ---- each element and each later one

-- a fact of pairs gives another
pub pairs-weaker : {E : Type 0} {P Q : E → E → Type 0} → ((a b : E) → P a b → Q a b) → (V : List E) → Pairs P V → Pairs Q V
pairs-weaker f [] p = tt
pairs-weaker f (x ∷ V) p = (each-weaker (f x) V p.0, pairs-weaker f V p.1)

-- two facts of pairs give a third
pub pairs-both : {E : Type 0} {P Q S : E → E → Type 0} → ((a b : E) → P a b → Q a b → S a b) → (V : List E) → Pairs P V → Pairs Q V → Pairs S V
pairs-both f [] p q = tt
pairs-both f (x ∷ V) p q = (each-both (f x) V p.0 q.0, pairs-both f V p.1 q.1)

-- of a list, and of each of its elements with one that comes after them
pub pairs-push : {E : Type 0} (R : E → E → Type 0) (V : List E) (e : E) → Pairs R V → AllByRecursion (λ a. R a e) V → Pairs R (V ++ (e ∷ []))
pairs-push R [] e p last = (tt, tt)
pairs-push R (x ∷ V) e p last = (each-push (R x) V e p.0 last.0, pairs-push R V e p.1 last.1)

-- of the end of a list
pub pairs-behind : {E : Type 0} (R : E → E → Type 0) (V W : List E) → Pairs R (V ++ W) → Pairs R W
pairs-behind R [] W p = p
pairs-behind R (x ∷ V) W p = pairs-behind R V W p.1

-- of the elements to which a function leads
pub pairs-map : {A B : Type 0} {P : A → A → Type 0} (R : B → B → Type 0) (f : A → B) → ((a b : A) → P a b → R (f a) (f b)) → (V : List A) → Pairs P V → Pairs R (map f V)
pairs-map R f leads [] p = tt
pairs-map R f leads (x ∷ V) p = (each-map (R (f x)) f V (each-weaker (leads x) V p.0), pairs-map R f leads V p.1)

-- of the elements that a filter keeps
pub pairs-filter : {E : Type 0} (R : E → E → Type 0) (test : E → Bool) (V : List E) → Pairs R V → Pairs R (filter test V)
pairs-filter R test [] p = tt
pairs-filter R test (x ∷ V) p =
    elim (cases_Bool (test x)) [
      | inl passes ↦ rw passes (each-filter (R x) test V p.0, pairs-filter R test V p.1)
      | inr fails ↦ rw fails (pairs-filter R test V p.1)
    ]

-- ---- two kinds of elements

-- what is known of one of mine and one of theirs, whichever is first
pub record IsBetween {E : Type 0} (mine theirs : E → Bool) (R : E → E → Type 0) (a b : E) : Type 0 where
  pub mine_first : mine a ≡ true → theirs b ≡ true → R a b
  pub theirs_first : theirs a ≡ true → mine b ≡ true → R b a

-- where no element is both, it holds of each of mine with each of theirs
pub each_between : {E : Type 0} (R : E → E → Type 0) (mine theirs : E → Bool) → ((x : E) → mine x ≡ true → theirs x ≡ false) → (V : List E) → Pairs (IsBetween mine theirs R) V →
    AllByRecursion (λ a. AllByRecursion (R a) (filter theirs V)) (filter mine V)
each_between R mine theirs apart [] p = tt
each_between R mine theirs apart (x ∷ V) p =
    let rest = each_between R mine theirs apart V p.1 in
    elim (cases_Bool (mine x)) [
      | inl is ↦ simp (is, apart x is) (each-passes (R x) theirs V (each-weaker (λ y h. h.mine_first is) V p.0), rest)
      | inr isnt ↦ elim (cases_Bool (theirs x)) [
        | inl is ↦ simp (isnt, is) (each-both (λ a here there. (here, there)) (filter mine V) (each-passes (λ a. R a x) mine V (each-weaker (λ y h. h.theirs_first is) V p.0)) rest)
        | inr neither ↦ simp (isnt, neither) rest
      ]
    ]
