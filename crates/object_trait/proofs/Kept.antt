-- What a strike keeps of a list: of none of mine, of a list put together, and of another's.
use Rattle.std.proofs.Common.{◌≡◌, ℕ, zero, suc, ◌-◌, Bool, true, false, not, List, [], ◌∷◌, ◌++◌, length, refl, sym, ap, ◌∙◌, inl, inr, arith}
use Rattle.std.specs.List.{filter}
use Rattle.std.proofs.lemmas.Bool.{true≢false, cases_Bool}
use Rattle.object_trait.specs.Strike.{keep_first}
use Rattle.object_trait.specs.Laws.{KeepsNone, KeepsParts, KeepsOthers}
use Rattle.object_trait.proofs.Striking.{filter-keep_first}

-- ---- none of mine

-- where none of mine is kept, those are left that aren't mine
pub without_mine : {E : Type 0} (mine : E → Bool) (V : List E) → keep_first mine zero V ≡ filter (λ e. not (mine e)) V
without_mine mine [] = refl
without_mine mine (e ∷ V) =
    elim (cases_Bool (mine e)) [
      | inl is ↦ rw is (without_mine mine V)
      | inr isnt ↦ rw isnt (ap (λ rest. e ∷ rest) (without_mine mine V))
    ]

-- the law of none of mine
pub keeps-none : {E : Type 0} → KeepsNone E
keeps-none = λ mine V. without_mine mine V

-- ---- a list put together

-- the front leaves this many of the first n
keep_first-append : {E : Type 0} (mine : E → Bool) (n : ℕ) (V W : List E) → keep_first mine n (V ++ W) ≡ keep_first mine n V ++ keep_first mine (n - length (filter mine V)) W
keep_first-append mine n [] W =
    let left : n ≡ n - 0 = omega arith in
    ap (λ m. keep_first mine m W) left
keep_first-append mine zero (e ∷ V) W =
    elim (cases_Bool (mine e)) [
      | inl is ↦ rw is (keep_first-append mine zero V W ∙ ap (λ m. keep_first mine zero V ++ keep_first mine m W) (omega arith))
      | inr isnt ↦ rw isnt (ap (λ rest. e ∷ rest) (keep_first-append mine zero V W))
    ]
keep_first-append mine (suc n) (e ∷ V) W =
    elim (cases_Bool (mine e)) [
      | inl is ↦ rw is (ap (λ rest. e ∷ rest) (keep_first-append mine n V W ∙ ap (λ m. keep_first mine n V ++ keep_first mine m W) (omega arith)))
      | inr isnt ↦ rw isnt (ap (λ rest. e ∷ rest) (keep_first-append mine (suc n) V W))
    ]

-- the law of lists put together
pub keeps-parts : {E : Type 0} → KeepsParts E
keeps-parts = λ mine n V W. keep_first-append mine n V W

-- ---- another's

-- where another's aren't mine, mine aren't another's
not_other : {E : Type 0} (mine other : E → Bool) → ((e : E) → other e ≡ true → mine e ≡ false) → (e : E) → mine e ≡ true → other e ≡ false
not_other mine other apart e is =
    elim (cases_Bool (other e)) [
      | inl theirs ↦ absurd (true≢false (sym is ∙ apart e theirs))
      | inr isnt ↦ isnt
    ]

-- the law of another's
pub keeps-others : {E : Type 0} → KeepsOthers E
keeps-others = λ mine other n V apart. filter-keep_first mine other (not_other mine other apart) n V

-- ---- a list of none of mine

-- neither the first of a list of none of mine is mine, nor one of the rest
pub none_of_mine : {E : Type 0} (mine : E → Bool) (e : E) (V : List E) → filter mine (e ∷ V) ≡ [] → (mine e ≡ false) × (filter mine V ≡ [])
none_of_mine mine e V none =
    elim (cases_Bool (mine e)) [
      | inl is ↦ absurd (let some : e ∷ filter mine V ≡ [] = rw is at none in cc)
      | inr isnt ↦ (isnt, rw isnt at none)
    ]

-- a strike keeps it whole
pub keep_first-untouched : {E : Type 0} (mine : E → Bool) (n : ℕ) (V : List E) → filter mine V ≡ [] → keep_first mine n V ≡ V
keep_first-untouched mine n [] none = refl
keep_first-untouched mine n (e ∷ V) none =
    let parts = none_of_mine mine e V none in
    rw parts.0 (ap (λ rest. e ∷ rest) (keep_first-untouched mine n V parts.1))
