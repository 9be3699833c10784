-- Steps and runs: the entry of a step, where there is a state, and what is legal.
use Rattle.std.proofs.Common.{◌≡◌, ℕ, ◌+◌, ◌*◌, ◌<◌, Bool, List, [], ◌∷◌, ◌++◌, length, get_or, Option, Some, None, IsSome, option_and_then, unwrap_or, refl, ◌∙◌}
use Rattle.std.specs.List.{slice_get}
use Rattle.std.proofs.lemmas.Bool.{false≢true, lt-ltb}
use Rattle.std.proofs.lemmas.Option.{unwrap_or-slice_get}
use Rattle.type_table.specs.Table.{Table, next}
use Rattle.type_table.specs.Run.{run, next_of, IsLegal, AreEqui}
use Rattle.type_table.specs.Commute.{CommuteForward}
use Rattle.type_table.specs.Laws.{RunsAlong}

-- ---- steps

-- an entry that may be missing, as one that may be empty
flat : (o : Option (Option ℕ)) → option_and_then (λ entry. entry) o ≡ unwrap_or o None
flat None = refl
flat (Some entry) = refl

-- the next state of an operation is its entry
pub next-entry : (T : Table) (s k : ℕ) → k < length T.ops → next T s k ≡ get_or T.steps (s * length T.ops + k) None
unfolding next
next-entry T s k below = rw (lt-ltb k (length T.ops) below) (flat (slice_get T.steps (s * length T.ops + k)) ∙ unwrap_or-slice_get T.steps (s * length T.ops + k) None)

-- ---- what is there

-- what is there is some state
pub some_state : (o : Option ℕ) → IsSome o → (t : ℕ) × (o ≡ Some t)
some_state None h = absurd (false≢true h)
some_state (Some t) h = (t, refl)

-- what is some state is there
pub is_there : (o : Option ℕ) (t : ℕ) → o ≡ Some t → IsSome o
is_there o t e = rw e refl

-- where a list is legal, there is a state
pub legal-somewhere : (T : Table) (from : Option ℕ) (w : List ℕ) → IsLegal T from w → IsSome from
legal-somewhere T None [] legal = legal
legal-somewhere T None (k ∷ w) legal = legal-somewhere T None w legal
legal-somewhere T (Some s) w legal = refl

-- and this is it
pub from_state : (T : Table) (o : Option ℕ) (w : List ℕ) → IsLegal T o w → (t : ℕ) × (o ≡ Some t)
from_state T o w h = some_state o (legal-somewhere T o w h)

-- so nothing is legal where there is none
pub nothing_legal : (T : Table) (w : List ℕ) → IsLegal T None w → ⊥
nothing_legal T w legal = false≢true (legal-somewhere T None w legal)

-- and a run from there leads nowhere
pub run_from_none : (T : Table) (ks : List ℕ) → run T None ks ≡ None
run_from_none T [] = refl
run_from_none T (k ∷ ks) = run_from_none T ks

-- ---- what is legal

-- what is legal after a step is legal in the state to which it leads
pub legal_there : (T : Table) (o : Option ℕ) (t : ℕ) (w : List ℕ) → o ≡ Some t → IsLegal T o w → IsLegal T (Some t) w
legal_there T o t w e h = rw e at h

-- and the converse
pub legal_here : (T : Table) (o : Option ℕ) (t : ℕ) (w : List ℕ) → o ≡ Some t → IsLegal T (Some t) w → IsLegal T o w
legal_here T o t w e h = rw e h

-- ends after a step are related as the ends from the state to which it leads
pub related_here : (T : Table) (R : Option ℕ → Option ℕ → Type 0) (o : Option ℕ) (t : ℕ) (v w : List ℕ) → o ≡ Some t → R (run T (Some t) v) (run T (Some t) w) → R (run T o v) (run T o w)
related_here T R o t v w e h = rw e h

-- the front of a legal list is legal
pub legal-front : (T : Table) (from : Option ℕ) (v w : List ℕ) → IsLegal T from (v ++ w) → IsLegal T from v
legal-front T from [] w legal = legal-somewhere T from w legal
legal-front T from (k ∷ v) w legal = legal-front T (next_of T from k) v w legal

-- and what comes after it is legal in the state after it
pub legal-behind : RunsAlong → (T : Table) (from : Option ℕ) (v w : List ℕ) (s : ℕ) → run T from v ≡ Some s → IsLegal T from (v ++ w) → IsLegal T (Some s) w
legal-behind along T from v w s reached legal = rw (along T from v w, reached) at legal

-- the converse
pub legal-after : RunsAlong → (T : Table) (from : Option ℕ) (v w : List ℕ) (s : ℕ) → run T from v ≡ Some s → IsLegal T (Some s) w → IsLegal T from (v ++ w)
legal-after along T from v w s reached legal = rw (along T from v w, reached) legal

-- ---- the other way round

-- equieffective
pub equi-turned : (T : Table) (a b : Option ℕ) → AreEqui T a b → AreEqui T b a
equi-turned T a b h = (h.1, h.0)

-- commuting forward
pub forward-turned : (T : Table) (set : ℕ → Bool) (p q : ℕ) → CommuteForward T set p q → CommuteForward T set q p
forward-turned T set p q h = λ s member q_legal p_legal. let both = h s member p_legal q_legal in (both.1, both.0, ((both.2).1, (both.2).0))
