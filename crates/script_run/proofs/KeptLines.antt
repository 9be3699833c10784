-- The lines of kept states, one after another.
use Rattle.std.proofs.Common.{◌≡◌, ℕ, suc, ◌+◌, ◌<◌, false, nat_lt, List, [], ◌∷◌, ◌++◌, length, get_or, inl, inr, Option, None, Result, Ok, Err, refl, sym, ap, ◌∙◌, subst, length-append, arith}
use Rattle.std.proofs.lemmas.Bool.{cases_lt, true≢false, lt-ltb}
use Rattle.std.proofs.lemmas.List.{length-map}
use Rattle.std.proofs.lemmas.Option.{none-some, same_Some, slice_get_within, slice_get-get_or}
use Rattle.type_table.proofs.Elements.{found-front}
use Rattle.object_trait.specs.declared.event.Event.{Event}
use Rattle.outputs.specs.Out.{Puts}
use Rattle.outputs.specs.declared.out.OutFault.{OutFault}
use Rattle.store_laws.specs.Stored.{Stored, objects}
use Rattle.store.specs.KeptState.{IsKeptState}
use Rattle.script_run.specs.Turns.{line_of, kept_turn, kept_turns}
use Rattle.script_run.specs.Runs.{Writes, AreKept, WritesState, WritesKept}
use Rattle.script_run.proofs.Turns.{there_second, no_turns, join, one_turn}

-- one object more
kept_turns-more : (H : List Event) (x y : ℕ) (states : List ℕ) (state : ℕ) → x + length states ≡ y
    → kept_turns H x (states ++ state ∷ []) ≡ kept_turns H x states ++ kept_turn H y state ∷ []
kept_turns-more H x y [] state e = let same : x ≡ y = omega (arith, e) in ap (λ n. kept_turn H n state ∷ []) same
kept_turns-more H x y (s ∷ states) state e = ap (λ l. kept_turn H x s ∷ l) (kept_turns-more H (suc x) y states state (omega (arith, e)))

-- of none there is nothing to say
pub none_kept : (s : Stored) → AreKept s []
none_kept s x state at = absurd (none-some state at)

-- one object more, of which this is the kept state
kept-more : (s : Stored) (kept : List ℕ) (n state : ℕ) → length kept ≡ n → AreKept s kept → IsKeptState s n state → AreKept s (kept ++ state ∷ [])
kept-more s kept n state many are its x found at =
    elim (cases_lt x (length kept)) [
      | inl low ↦
          let old = get_or kept x 0 in
          let there = slice_get-get_or kept x 0 low in
          let same : old ≡ found = same_Some old found (sym (found-front kept (state ∷ []) x old there) ∙ at) in
          subst (IsKeptState s x) same (are x old there)
      | inr high ↦
          let last : x ≡ length kept + 0 =
          omega (arith, slice_get_within (kept ++ state ∷ []) x found at, length-append kept (state ∷ []), high)
          in
          let same : state ≡ found = same_Some state found (sym (there_second kept (state ∷ []) x 0 last) ∙ at) in
          let place : n ≡ x = omega (arith, many, last) in
          subst (λ i. IsKeptState s i found) place (subst (IsKeptState s n) same its)
    ]

-- the lines of the objects below n are written
pub record AreWritten (s : Stored) (n : ℕ) (before after : Option (List ℕ)) (fault : Option OutFault) : Type 0 where
  pub kept : List ℕ
  pub many : length kept ≡ n
  pub are_kept : AreKept s kept
  pub writes : Writes s (kept_turns s.history 0 kept) before after fault s (Ok tt)

-- with that of n
next_line : (s : Stored) (n state : ℕ) {a b c : Option (List ℕ)} {f g : Option OutFault} {result : Result (Unit {0}) OutFault} → (so_far : AreWritten s n a b f)
    → Puts b c g (line_of (kept_turn s.history n state)) result → Writes s (kept_turns s.history 0 (so_far.kept ++ state ∷ [])) a c g s result
next_line s n state {a = a} {c = c} {g = g} {result = result} so_far line =
    subst (λ l. Writes s l a c g s result) (sym (kept_turns-more s.history 0 n so_far.kept state (omega (arith, so_far.many))))
    (join s s s _ _ so_far.writes (one_turn s s (kept_turn s.history n state) refl line))

-- n's is written
pub written-more : (s : Stored) (n : ℕ) {a b c : Option (List ℕ)} {f g : Option OutFault} → AreWritten s n a b f → WritesState s n b c g (Ok tt)
    → AreWritten s (n + 1) a c g
written-more s n so_far one =
    record {
      kept = so_far.kept ++ one.state ∷ [];
      many = length-append so_far.kept (one.state ∷ []) ∙ ap (λ k. k + 1) so_far.many;
      are_kept = kept-more s so_far.kept n one.state so_far.many so_far.are_kept one.is_kept;
      writes = next_line s n one.state so_far one.line;
    }

-- the output stopped at n's
pub written-stopped : (s : Stored) (n : ℕ) {a b c : Option (List ℕ)} {f g : Option OutFault} {e : OutFault} → AreWritten s n a b f → WritesState s n b c g (Err e)
    → WritesKept s a c g (Err e)
written-stopped s n so_far one =
    record {
      kept = so_far.kept ++ one.state ∷ [];
      are_kept = kept-more s so_far.kept n one.state so_far.many so_far.are_kept one.is_kept;
      all = tt;
      writes = next_line s n one.state so_far one.line;
    }

-- all are written
pub written-all : (s : Stored) (n : ℕ) {a b : Option (List ℕ)} {f : Option OutFault} → n ≡ length s.types → AreWritten s n a b f → WritesKept s a b f (Ok tt)
written-all s n e so_far = record { kept = so_far.kept; are_kept = so_far.are_kept; all = so_far.many ∙ e; writes = so_far.writes }

-- an object that is there has a kept state
pub state-there : (s : Stored) (x : ℕ) → x < length s.types → false ≡ nat_lt x (length (objects s)) → ⊥
state-there s x inside past =
    let low : x < length (objects s) = simp length-map inside in
    true≢false (sym (past ∙ lt-ltb x (length (objects s)) low))

-- before the first
pub none_written : (s : Stored) (a : Option (List ℕ)) {f : Option OutFault} → f ≡ None → AreWritten s 0 a a f
none_written s a no_fault = record { kept = []; many = refl; are_kept = none_kept s; writes = no_turns s a no_fault }
