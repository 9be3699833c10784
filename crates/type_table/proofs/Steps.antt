-- Steps of a table, and what is known of them.
use Rattle.std.proofs.Common.{◌≡◌, ℕ, ◌+◌, ◌*◌, ◌<◌, Bool, true, false, cond, List, length, get_or, Option, Some, None, option_and_then, refl, sym, ap, ◌∙◌, inl, inr, arith}
use Rattle.std.specs.List.{slice_get, list_all}
use Rattle.std.proofs.lemmas.Bool.{false≢true, ltb-true, lt-ltb, cases_Bool, cases_lt}
use Rattle.std.proofs.lemmas.Nat.{mul-add-lt}
use Rattle.std.proofs.lemmas.Option.{slice_get_within, slice_get_read, slice_get-get_or, get_or_from_slice_get}
use Rattle.std.proofs.lemmas.List.Folds.{list_all_at}
use Rattle.std.proofs.Math.Nat.{mul-le-mul_left}
use Rattle.type_table.specs.Counts.{is_inside}
use Rattle.type_table.specs.Table.{Table, IsTable, AreSteps, next}

-- each element passes a test that all pass
pub passes-at : {X : Type 0} (p : X → Bool) (xs : List X) (i : ℕ) (x : X) → list_all p xs ≡ true → slice_get xs i ≡ Some x → p x ≡ true
passes-at p xs i x all at =
    elim (cases_Bool (p x)) [
      | inl holds ↦ holds
      | inr fails ↦ absurd (false≢true (sym (list_all_at p xs i x (slice_get_within xs i x at) (ap p (get_or_from_slice_get xs i x x at) ∙ fails)) ∙ all))
    ]

flat : (o : Option (Option ℕ)) (t : ℕ) → option_and_then (λ entry. entry) o ≡ Some t → o ≡ Some (Some t)
flat None t h = cc
flat (Some None) t h = cc
flat (Some (Some u)) t h = ap Some h

chosen : (b : Bool) (x : Option ℕ) (t : ℕ) → cond b x None ≡ Some t → (b ≡ true) × (x ≡ Some t)
chosen true x t h = (refl, h)
chosen false x t h = cc

-- a step is an entry of an operation
pub next-entry : (T : Table) (s k t : ℕ) → next T s k ≡ Some t → (k < length T.ops) × (slice_get T.steps (s * length T.ops + k) ≡ Some (Some t))
unfolding next
next-entry T s k t h =
    let parts = chosen _ _ t h in
    (ltb-true k (length T.ops) parts.0, flat (slice_get T.steps (s * length T.ops + k)) t parts.1)

-- the entry of an operation is its step
pub entry-next : (T : Table) (s k : ℕ) (entry : Option ℕ) → k < length T.ops → slice_get T.steps (s * length T.ops + k) ≡ Some entry → entry ≡ next T s k
unfolding next
entry-next T s k entry below at =
    rw (lt-ltb k (length T.ops) below, at) refl

pub place_fits : (T : Table) (s k : ℕ) → IsTable T → s < T.states → k < length T.ops → s * length T.ops + k < length T.steps
place_fits T s k h s_in k_in = omega (arith, h.whole, mul-add-lt s (length T.ops) k T.states s_in k_in)

below_by_place : (states ops s k : ℕ) → s * ops + k < states * ops → s < states
below_by_place states ops s k h =
    elim (cases_lt s states) [
      | inl below ↦ below
      | inr above ↦ absurd (omega (arith, h, mul-le-mul_left ops above))
    ]

-- a step is of an operation of the table, from a state to a state
pub next-within : (T : Table) (s k t : ℕ) → IsTable T → next T s k ≡ Some t → (s < T.states) × (k < length T.ops) × (t < T.states)
next-within T s k t h step =
    let entry = next-entry T s k t step in
    let place = slice_get_within T.steps (s * length T.ops + k) (Some t) entry.1 in (
      below_by_place T.states (length T.ops) s k (omega (arith, place, h.whole)),
      entry.0,
      ltb-true t T.states (passes-at (is_inside T.states) T.steps (s * length T.ops + k) (Some t) h.steps_inside entry.1),
    )

-- the entries of a table say its steps
pub steps-say : (T : Table) → IsTable T → AreSteps T T.steps
steps-say T h = λ s k s_in k_in.
    let at = slice_get-get_or T.steps (s * length T.ops + k) None (place_fits T s k h s_in k_in) in
    at ∙ ap Some (entry-next T s k (get_or T.steps (s * length T.ops + k) None) k_in at)

-- what is read at the place of a state and an operation is its step
pub read-next : (T shown : Table) (s k ops : ℕ) (entry : Option ℕ) → shown ≡ T → ops ≡ length shown.ops → IsTable shown → s < T.states → k < length T.ops →
    entry ≡ get_or shown.steps (s * ops + k) entry → entry ≡ next T s k
read-next T shown s k ops entry e n h s_in k_in read =
    let state : s < shown.states = omega (arith, s_in, ap (λ (t : Table). t.states) e) in
    let operation : k < length shown.ops = omega (arith, k_in, ap (λ (t : Table). length t.ops) e) in
    let at = slice_get_read shown.steps (length shown.steps) (s * length shown.ops + k) entry refl (place_fits shown s k h state operation) (read ∙ ap (λ m. get_or shown.steps (s * m + k) entry) n) in
    entry-next shown s k entry operation at ∙ ap (λ t. next t s k) e
