-- One worker more is at its end or in the list.
use Rattle.std.proofs.Common.{◌≡◌, ℕ, ◌+◌, ◌<◌, List, [], ◌∷◌, ◌++◌, ◌⊎◌, sym, subst, inl, inr, arith}
use Rattle.std.specs.List.{Contains}
use Rattle.std.proofs.lemmas.Bool.{cases_lt}
use Rattle.std.proofs.lemmas.List.Elements.{Contains-append_left, Contains-push}
use Rattle.workers.specs.SharedState.{SharedState, HasEnded}
use Rattle.workers.proofs.shared.Shared.put_going.Goals as goal
use Rattle.workers.proofs.shared.Shared.put_going.Goals.{then-not-is_at_end, else-not-is_at_end}

-- so far
abbrev SoFar : SharedState → ℕ → List ℕ → Type 0
SoFar s n going = (v : ℕ) → v < n → HasEnded s v ⊎ Contains going v

with-this : (s : SharedState) (n : ℕ) (going : List ℕ) → SoFar s n going → SoFar s (n + 1) (going ++ n ∷ [])
with-this s n going before v low =
    elim (cases_lt v n) [
      | inl below ↦ elim (before v below) [ inl ended ↦ inl ended | inr found ↦ inr (Contains-append_left going (n ∷ []) v found) ]
      | inr late ↦ let same : v ≡ n = omega arith in inr (subst (Contains (going ++ n ∷ [])) (sym same) (Contains-push going n))
    ]

without-this : (s : SharedState) (n : ℕ) (going : List ℕ) → SoFar s n going → HasEnded s n → SoFar s (n + 1) going
without-this s n going before ended v low =
    elim (cases_lt v n) [
      | inl below ↦ before v below
      | inr late ↦ let same : v ≡ n = omega arith in inl (subst (HasEnded s) (sym same) ended)
    ]

pub loop-w-preserved : goal.loop-w-preserved
loop-w-preserved g c =
    let kept = c.loop-w.invariant in
    elim c.if-not-is_at_end.branch [
      | then-not-is_at_end x ↦ record {
        so_far = rw (x.going-is, x.push_reserved.ensures.items) (with-this c.args.self.now c.loop-w.w c.loop-w.going.items kept.so_far);
        count = rw x.going-is (omega arith);
        room = rw x.going-is (omega arith);
        until = kept.until;
        few = kept.few;
      }
      | else-not-is_at_end x ↦ record {
        so_far = rw x.going-is (without-this c.args.self.now c.loop-w.w c.loop-w.going.items kept.so_far (c.is_at_end.ensures.ended x.if-not-is_at_end.false));
        count = rw x.going-is (omega arith);
        room = rw x.going-is kept.room;
        until = kept.until;
        few = kept.few;
      }
    ]

pub returns-clause-going : goal.returns-clause-going
returns-clause-going g c =
    let kept = c.loop-w.invariant in
    λ v.
    elim (cases_lt v c.loop-w.w) [
      | inl below ↦ kept.so_far v below
      | inr late ↦ let until = kept.until in let past = c.loop-w-test.false in inl (λ p early there. absurd (omega (arith, late, early, until, past)))
    ]
