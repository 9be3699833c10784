-- Runs along lists of operations.
use Rattle.std.proofs.Common.{◌≡◌, ℕ, ◌+◌, ◌<◌, length, get_or, drop, ◌∙◌, List, [], ◌∷◌, ◌++◌, Option, Some, None, refl, ap}
use Rattle.std.proofs.lemmas.List.{at_drop_more}
use Rattle.type_table.specs.Table.{Table, next, table_at}
use Rattle.type_table.specs.Run.{next_of, run, Looks, AreEqui}
use Rattle.type_table.specs.Laws.{RunsAlike, LooksExtends, EquiExtends}
use Rattle.type_table.proofs.Legal.{run_from_none}

-- a step doesn't depend on the initial state
step-at : (T : Table) (s e k : ℕ) → next (table_at T s) e k ≡ next T e k
unfolding next
step-at T s e k = refl

-- nor does where a list leads
pub runs_alike : RunsAlike
runs_alike T s from [] = refl
runs_alike T s None (k ∷ ks) = runs_alike T s None ks
runs_alike T s (Some e) (k ∷ ks) = ap (λ o. run (table_at T s) o ks) (step-at T s e k) ∙ runs_alike T s (next T e k) ks

pub run-append : (T : Table) (from : Option ℕ) (v w : List ℕ) → run T from (v ++ w) ≡ run T (run T from v) w
run-append T from [] w = refl
run-append T from (k ∷ v) w = run-append T (next_of T from k) v w

pub Looks-run : (T : Table) (a b : Option ℕ) (w : List ℕ) → Looks T a b → Looks T (run T a w) (run T b w)
Looks-run T a b w h = λ ks legal. rw (run-append T b w ks) at (h (w ++ ks) (rw (run-append T a w ks) legal))

pub AreEqui-run : (T : Table) (a b : Option ℕ) (w : List ℕ) → AreEqui T a b → AreEqui T (run T a w) (run T b w)
AreEqui-run T a b w h = (Looks-run T a b w h.0, Looks-run T b a w h.1)

-- looks-like is extended
pub looks_extends : LooksExtends
looks_extends T = record {
  itself = λ a ks h. h;
  through = λ a b c h k ks legal. k ks (h ks legal);
  after = λ a b w h legal. (h w legal, Looks-run T a b w h);
}

-- and so is equieffective
pub equi_extends : EquiExtends
equi_extends T = record {
  itself = λ a. (λ ks h. h, λ ks h. h);
  through = λ a b c h k. (λ ks legal. k.0 ks (h.0 ks legal), λ ks legal. h.1 ks (k.1 ks legal));
  after = λ a b w h legal. (h.0 w legal, AreEqui-run T a b w h);
}

-- a run ends at an operation that isn't legal
pub run_stuck : (T : Table) (s : ℕ) (ks : List ℕ) (i : ℕ) → i < length ks → next T s (get_or ks i 0) ≡ None → run T (Some s) (drop i ks) ≡ None
run_stuck T s ks i below e = at_drop_more (run T (Some s)) ks i 0 below ∙ ap (λ o. run T o (drop (i + 1) ks)) e ∙ run_from_none T (drop (i + 1) ks)
