-- Exchanges of neighbours, in lists that grow at either end or are struck.
use Rattle.std.proofs.Common.{◌≡◌, ℕ, zero, suc, Bool, true, false, not, List, [], ◌∷◌, ◌++◌, filter, inl, inr}
use Rattle.std.proofs.lemmas.Bool.{cases_Bool}
use Rattle.type_table.proofs.Elements.{each-weaker, each-passes}
use Rattle.object_trait.specs.Orders.{Pairs, Sorts, same, swap, under, chain, SplitsInto, none, stay, goes}
use Rattle.object_trait.specs.Strike.{keep_first}

-- ---- longer lists

-- both lists may go on
pub sorts-append : {E : Type 0} {free : E → E → Bool} (V W X : List E) → Sorts free V W → Sorts free (V ++ X) (W ++ X)
sorts-append V _ X same = same
sorts-append _ _ X (swap {a} {b} {V} passes) = swap passes
sorts-append _ _ X (under {a} {V} {W} s) = under (sorts-append V W X s)
sorts-append _ _ X (chain {U} {V} {W} s r) = chain (sorts-append U V X s) (sorts-append V W X r)

-- and may follow another list
pub sorts-behind : {E : Type 0} {free : E → E → Bool} (U V W : List E) → Sorts free V W → Sorts free (U ++ V) (U ++ W)
sorts-behind [] V W s = s
sorts-behind (x ∷ U) V W s = under (sorts-behind U V W s)

-- ---- strikes

-- two neighbours that aren't both mine are exchanged after a strike too, where both stay
swap-keep_first : {E : Type 0} {free : E → E → Bool} (mine : E → Bool) (n : ℕ) (a b : E) (V : List E) → free a b ≡ true → (mine a ≡ true → mine b ≡ false) →
    Sorts free (keep_first mine n (a ∷ b ∷ V)) (keep_first mine n (b ∷ a ∷ V))
swap-keep_first mine zero a b V passes apart =
    elim (cases_Bool (mine a)) [
      | inl is ↦ simp (is, apart is) same
      | inr isnt ↦ elim (cases_Bool (mine b)) [
        | inl later ↦ simp (isnt, later) same
        | inr neither ↦ simp (isnt, neither) (swap passes)
      ]
    ]
swap-keep_first mine (suc n) a b V passes apart =
    elim (cases_Bool (mine a)) [
      | inl is ↦ simp (is, apart is) (swap passes)
      | inr isnt ↦ elim (cases_Bool (mine b)) [
        | inl later ↦ simp (isnt, later) (swap passes)
        | inr neither ↦ simp (isnt, neither) (swap passes)
      ]
    ]

-- an element stays at the front of both lists after a strike, or is struck from both
under-keep_first : {E : Type 0} {free : E → E → Bool} (mine : E → Bool) (n : ℕ) (a : E) (V W : List E) →
    ((m : ℕ) → Sorts free (keep_first mine m V) (keep_first mine m W)) → Sorts free (keep_first mine n (a ∷ V)) (keep_first mine n (a ∷ W))
under-keep_first mine zero a V W rest =
    elim (cases_Bool (mine a)) [
      | inl is ↦ rw is (rest zero)
      | inr isnt ↦ rw isnt (under (rest zero))
    ]
under-keep_first mine (suc n) a V W rest =
    elim (cases_Bool (mine a)) [
      | inl is ↦ rw is (under (rest n))
      | inr isnt ↦ rw isnt (under (rest (suc n)))
    ]

-- where no two of mine are exchanged, both lists may be struck
pub sorts-keep_first : {E : Type 0} {free : E → E → Bool} (mine : E → Bool) → ((a b : E) → free a b ≡ true → mine a ≡ true → mine b ≡ false) →
    (n : ℕ) (V W : List E) → Sorts free V W → Sorts free (keep_first mine n V) (keep_first mine n W)
sorts-keep_first mine apart n V _ same = same
sorts-keep_first mine apart n _ _ (swap {a} {b} {V} passes) = swap-keep_first mine n a b V passes (apart a b passes)
sorts-keep_first mine apart n _ _ (under {a} {V} {W} s) = under-keep_first mine n a V W (λ m. sorts-keep_first mine apart m V W s)
sorts-keep_first mine apart n _ _ (chain {U} {V} {W} s r) = chain (sorts-keep_first mine apart n U V s) (sorts-keep_first mine apart n V W r)
