-- Open entries of a log of which one transaction's were marked, or which has one more.
use Rattle.std.proofs.Common.{◌≡◌, ◌+◌, ℕ, Bool, true, false, not, ◌&&◌, ◌||◌, eqb, cond, List, [], ◌∷◌, ◌++◌, map, length, refl, ap, ◌∙◌, inl, inr}
use Rattle.std.proofs.Math.Bool.{or-false}
use Rattle.std.proofs.lemmas.Bool.{cases_Bool, and_left, eqb-true}
use Rattle.std.proofs.lemmas.List.{length_push}
use Rattle.object_trait.specs.Meaning.{is_open_of, open_of}
use Rattle.object_trait.specs.Steps.{marked}
use Rattle.object_trait.specs.declared.log_entry.LogEntry.{LogEntry}
use Rattle.object_trait.proofs.Runs.{open-push}

-- ---- marks

-- an entry of t isn't open after t's marks
marked-closed : (done by_t : Bool) → (by_t && not (done || by_t)) ≡ false
marked-closed true true = refl
marked-closed true false = refl
marked-closed false true = refl
marked-closed false false = refl

-- t has no open entries after its marks
pub marked-mine : (t : ℕ) (log : List LogEntry) → open_of t (map (marked t) log) ≡ []
marked-mine t [] = refl
marked-mine t (e ∷ log) = rw (marked-closed e.done (eqb e.by t)) (marked-mine t log)

-- an entry of another is as it was
marked-apart : (t : ℕ) (e : LogEntry) → eqb e.by t ≡ false → marked t e ≡ e
marked-apart t e other = ap (λ done. record e { done = done }) (rw other (or-false e.done))

-- and each other one the same
pub marked-others : (t u : ℕ) (log : List LogEntry) → eqb u t ≡ false → open_of u (map (marked t) log) ≡ open_of u log
marked-others t u [] differ = refl
marked-others t u (e ∷ log) differ =
    elim (cases_Bool (eqb e.by u)) [
      | inl is ↦
          let apart : eqb e.by t ≡ false = rw (eqb-true e.by u is) differ in
          ap (λ x. open_of u (x ∷ map (marked t) log)) (marked-apart t e apart) ∙ ap (λ rest. cond (is_open_of u e) (e ∷ rest) rest) (marked-others t u log differ)
      | inr isnt ↦
          let now : is_open_of u (marked t e) ≡ false = and_left (eqb e.by u) (not (e.done || eqb e.by t)) isnt in
          let was : is_open_of u e ≡ false = and_left (eqb e.by u) (not e.done) isnt in
          rw (now, was) (marked-others t u log differ)
    ]

-- ---- one more entry

-- of its transaction there is one more open entry
pub more-mine : (log : List LogEntry) (e : LogEntry) → e.done ≡ false → length (open_of e.by (log ++ e ∷ [])) ≡ length (open_of e.by log) + 1
more-mine log e held = ap length (open-push log e held) ∙ length_push (open_of e.by log) e
