-- From single operations that commute to lists of them.
use Rattle.std.proofs.Common.{◌≡◌, ℕ, suc, Bool, true, List, [], ◌∷◌, ◌++◌, Contains, Option, Some, IsSome, refl, sym, ap, ◌∙◌, arith}
use Rattle.std.proofs.lemmas.List.{append-nil, append_assoc}
use Rattle.type_table.specs.Table.{Table, next}
use Rattle.type_table.specs.Run.{run, IsLegal, Looks, AreEqui}
use Rattle.type_table.specs.StateSet.{IsClosed}
use Rattle.type_table.specs.Commute.{CommuteForward}
use Rattle.type_table.specs.Laws.{IsExtended, RunsAlong, LooksExtends, EquiExtends}
use Rattle.type_table.specs.Lists.{ListsForward, ListsBackward, ListsBackwardBothWays}
use Rattle.type_table.proofs.Legal.{is_there, from_state, legal_there, legal_here, related_here, equi-turned}

-- ---- elements and runs

-- the first element of a list is one of its elements
contains_head : (x : ℕ) (xs : List ℕ) → Contains (x ∷ xs) x
contains_head x xs = (0, omega arith, refl)

-- an element of a list is one of the longer list
contains_tail : (x y : ℕ) (xs : List ℕ) → Contains xs y → Contains (x ∷ xs) y
contains_tail x y xs h = (suc h.0, omega (arith, h.1), h.2)

-- a run along a list, one more operation and another list
run-through : RunsAlong → (T : Table) (from : Option ℕ) (u v : List ℕ) (p : ℕ) → run T from (u ++ (p ∷ v)) ≡ run T (run T from (u ++ (p ∷ []))) v
run-through along T from u v p = ap (run T from) (sym (append_assoc u (p ∷ []) v)) ∙ along T from (u ++ (p ∷ [])) v

-- ---- backward

module _ (T : Table) (set : ℕ → Bool) (R : Option ℕ → Option ℕ → Type 0) (along : RunsAlong) (ext : IsExtended T R) (closed : IsClosed T set) where
  -- wherever q and then p is legal, p and then q is, and the two ends are in the relation
  abbrev pub Exchanges : ℕ → ℕ → Type 0
  Exchanges p q =
      (s : ℕ) → set s ≡ true → IsLegal T (Some s) (q ∷ p ∷ [])
      → IsLegal T (Some s) (p ∷ q ∷ []) × R (run T (Some s) (q ∷ p ∷ [])) (run T (Some s) (p ∷ q ∷ []))

  -- one operation moves before a list
  one_backward : (p : ℕ) (u : List ℕ) (s : ℕ) → set s ≡ true → ((q : ℕ) → Contains u q → Exchanges p q) → IsLegal T (Some s) (u ++ (p ∷ [])) →
      IsLegal T (Some s) (p ∷ u) × R (run T (Some s) (u ++ (p ∷ []))) (run T (Some s) (p ∷ u))
  one_backward p [] s member free h = (h, ext.itself (run T (Some s) (p ∷ [])))
  one_backward p (q ∷ u) s member free h =
      let held = from_state T (next T s q) (u ++ (p ∷ [])) h in
      let t = held.0 in
      let rest = one_backward p u t (closed s q t member held.1) (λ r inside. free r (contains_tail q r u inside)) (legal_there T (next T s q) t (u ++ (p ∷ [])) held.1 h) in
      let requested = from_state T (next T t p) u rest.0 in
      let exchanged = free q (contains_head q u) s member (legal_here T (next T s q) t (p ∷ []) held.1 (is_there (next T t p) requested.0 requested.1)) in
      let later = ext.after (run T (Some s) (q ∷ p ∷ [])) (run T (Some s) (p ∷ q ∷ [])) u exchanged.1 (legal_here T (next T s q) t (p ∷ u) held.1 rest.0) in
      (later.0, ext.through (run T (Some s) (q ∷ (u ++ (p ∷ [])))) (run T (Some s) (q ∷ p ∷ u)) (run T (Some s) (p ∷ q ∷ u)) (related_here T R (next T s q) t (u ++ (p ∷ [])) (p ∷ u) held.1 rest.1) later.1)

  -- a list moves before a list
  lists_backward : (u v : List ℕ) (s : ℕ) → set s ≡ true → ((p q : ℕ) → Contains v p → Contains u q → Exchanges p q) → IsLegal T (Some s) (u ++ v) →
      IsLegal T (Some s) (v ++ u) × R (run T (Some s) (u ++ v)) (run T (Some s) (v ++ u))
  lists_backward u [] s member free h = rw (append-nil u) (rw (append-nil u) at h, ext.itself (run T (Some s) u))
  lists_backward u (p ∷ v) s member free h =
      let runs = run-through along T (Some s) u v p in
      let legal = rw runs at h in
      let middle = from_state T (run T (Some s) (u ++ (p ∷ []))) v legal in
      let moved = one_backward p u s member (λ q inside. free p q (contains_head p v) inside) (is_there _ middle.0 middle.1) in
      let later = ext.after (run T (Some s) (u ++ (p ∷ []))) (run T (Some s) (p ∷ u)) v moved.1 legal in
      let step = from_state T (next T s p) u moved.0 in
      let t = step.0 in
      let rest = lists_backward u v t (closed s p t member step.1) (λ a b a_in b_in. free a b (contains_tail p a v a_in) b_in)
      (legal_there T (next T s p) t (u ++ v) step.1 (rw (along T (next T s p) u v) (later.0))) in (
        legal_here T (next T s p) t (v ++ u) step.1 rest.0,
        ext.through (run T (Some s) (u ++ (p ∷ v))) (run T (next T s p) (u ++ v)) (run T (next T s p) (v ++ u))
            (rw (runs, along T (next T s p) u v) (later.1)) (related_here T R (next T s p) t (u ++ v) (v ++ u) step.1 rest.1),
      )

-- lists backward, by looks-like
pub backward : RunsAlong → LooksExtends → ListsBackward
backward along extends = λ T set s u v closed member free. lists_backward T set (Looks T) along (extends T) closed u v s member free

-- lists backward in the two-way form, by equieffective
pub backward_both_ways : RunsAlong → EquiExtends → ListsBackwardBothWays
backward_both_ways along extends = λ T set s u v closed member free. lists_backward T set (AreEqui T) along (extends T) closed u v s member free

-- ---- forward

module _ (T : Table) (set : ℕ → Bool) (along : RunsAlong) (ext : IsExtended T (AreEqui T)) (closed : IsClosed T set) where
  -- equieffective composes
  equi_through : (a b d : Option ℕ) → AreEqui T a b → AreEqui T b d → AreEqui T a d
  equi_through = ext.through

  -- one operation against a list
  one_forward : (p : ℕ) (v : List ℕ) (s : ℕ) → set s ≡ true → ((q : ℕ) → Contains v q → CommuteForward T set p q) → IsSome (next T s p) → IsLegal T (Some s) v →
      IsLegal T (Some s) (p ∷ v) × IsLegal T (Some s) (v ++ (p ∷ [])) × AreEqui T (run T (Some s) (p ∷ v)) (run T (Some s) (v ++ (p ∷ [])))
  one_forward p [] s member free p_legal h = (p_legal, p_legal, ext.itself (run T (Some s) (p ∷ [])))
  one_forward p (q ∷ v) s member free p_legal h =
      let held = from_state T (next T s q) v h in
      let t = held.0 in
      let pair = free q (contains_head q v) s member p_legal (is_there (next T s q) t held.1) in
      let rest = one_forward p v t (closed s q t member held.1) (λ r inside. free r (contains_tail q r v inside)) (legal_there T (next T s q) t (p ∷ []) held.1 pair.1) (legal_there T (next T s q) t v held.1 h) in
      let later = ext.after (run T (Some s) (q ∷ p ∷ [])) (run T (Some s) (p ∷ q ∷ [])) v (equi-turned T _ _ pair.2) (legal_here T (next T s q) t (p ∷ v) held.1 rest.0) in (
        later.0,
        legal_here T (next T s q) t (v ++ (p ∷ [])) held.1 rest.1,
        equi_through (run T (Some s) (p ∷ q ∷ v)) (run T (Some s) (q ∷ p ∷ v)) (run T (Some s) (q ∷ (v ++ (p ∷ [])))) (equi-turned T _ _ later.1) (related_here T (AreEqui T) (next T s q) t (p ∷ v) (v ++ (p ∷ [])) held.1 rest.2),
      )

  -- a list against a list
  lists_forward : (u v : List ℕ) (s : ℕ) → set s ≡ true → ((p q : ℕ) → Contains u p → Contains v q → CommuteForward T set p q) → IsLegal T (Some s) u → IsLegal T (Some s) v →
      IsLegal T (Some s) (u ++ v) × IsLegal T (Some s) (v ++ u) × AreEqui T (run T (Some s) (u ++ v)) (run T (Some s) (v ++ u))
  lists_forward [] v s member free u_legal v_legal = rw (append-nil v) (v_legal, v_legal, ext.itself (run T (Some s) v))
  lists_forward (p ∷ u) v s member free u_legal v_legal =
      let step = from_state T (next T s p) u u_legal in
      let t = step.0 in
      let moved = one_forward p v s member (λ q inside. free p q (contains_head p u) inside) (is_there (next T s p) t step.1) v_legal in
      let rest = lists_forward u v t (closed s p t member step.1) (λ a b a_in b_in. free a b (contains_tail p a u a_in) b_in) (legal_there T (next T s p) t u step.1 u_legal) (legal_there T (next T s p) t v step.1 moved.0) in
      let legal = rw (along T (next T s p) v u) at (legal_here T (next T s p) t (v ++ u) step.1 rest.1) in
      let later = ext.after (run T (Some s) (p ∷ v)) (run T (Some s) (v ++ (p ∷ []))) u moved.2 legal in
      let runs = run-through along T (Some s) v u p in (
        legal_here T (next T s p) t (u ++ v) step.1 rest.0,
        rw runs (later.0),
        equi_through (run T (next T s p) (u ++ v)) (run T (next T s p) (v ++ u)) (run T (Some s) (v ++ (p ∷ u)))
            (related_here T (AreEqui T) (next T s p) t (u ++ v) (v ++ u) step.1 rest.2) (rw (runs, along T (next T s p) v u) (later.1)),
      )

-- lists forward
pub forward : RunsAlong → EquiExtends → ListsForward
forward along extends = λ T set s u v closed member free. lists_forward T set along (extends T) closed u v s member free
