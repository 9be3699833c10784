-- Operations of one transaction that are struck: all but the first of them.
use Rattle.std.specs.Prelude.{ℕ, zero, suc, List, [], ◌∷◌, Bool, cond}

-- the list without those of mine that come after the first n of mine
abbrev pub keep_first : {E : Type 0} → (E → Bool) → ℕ → List E → List E
keep_first mine n [] = []
keep_first mine n (e ∷ V) = cond (mine e) (elim n [ zero ↦ keep_first mine zero V | suc m ↦ e ∷ keep_first mine m V ]) (e ∷ keep_first mine n V)
