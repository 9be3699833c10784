-- Whose the open transactions are, and how many are open, after a turn.
use Rattle.std.proofs.Common.{◌≡◌, ◌⊎◌, ℕ, ◌+◌, ◌==◌, true, cond, not, ◌&&◌, List, filter, length, set, Option, Some, is_some, slice_get, sym, ap, ◌∙◌, inl, inr, arith}
use Rattle.std.proofs.lemmas.Bool.{cases_Bool, cases_eq, or_cases, and_parts, not-true, eqb-true, eq-eqb, false≢true}
use Rattle.std.proofs.lemmas.Option.{none-some, same_Some}
use Rattle.object_trait.specs.declared.event.EventKind.{EventKind}
use Rattle.object_trait.specs.declared.event.EventKind.TheVariants as kind
use Rattle.object_trait.specs.declared.event.EventKind.TheVariants.{Begin, Op, Busy, Commit, Abort, Rollback}
use Rattle.serial_order.specs.History.{Summary, is_open}
use Rattle.serial_order.specs.After.{is_open_after, CountsTo}
use Rattle.worker_turns.specs.Progress.{Progress, open_in_phase}
use Rattle.workers.specs.SharedState.{is_going, HasOwner}
use Rattle.workers.proofs.Lists.{found-set, found-others, count-set}
use Rattle.workers.proofs.Turned.{Leads}

-- ---- by an event

-- what is open and isn't the worker's
kept-open : (s : Summary) (u t : ℕ) (before now : Option ℕ) → before ≡ Some u → now ≡ Some u → is_open s t ≡ true → (now ≡ Some t) ⊎ ((is_open s t ≡ true) × (before ≡ Some t → ⊥))
kept-open s u t before now was is going =
    elim (cases_Bool (t == u)) [
      | inl same ↦ inl (is ∙ ap Some (sym (eqb-true t u same)))
      | inr other ↦ inr (going, λ e. false≢true (sym other ∙ eq-eqb t u (sym (same_Some u t (sym was ∙ e)))))
    ]

-- what isn't ended
left-open : (s : Summary) (u t : ℕ) (before now : Option ℕ) → before ≡ Some u → (not (t == u) && is_open s t) ≡ true → (now ≡ Some t) ⊎ ((is_open s t ≡ true) × (before ≡ Some t → ⊥))
left-open s u t before now was going =
    let parts = and_parts (not (t == u)) (is_open s t) going in
    inr (parts.1, λ e. false≢true (sym (not-true (t == u) parts.0) ∙ eq-eqb t u (sym (same_Some u t (sym was ∙ e)))))

-- what is open after the worker's event is its own, or was open and wasn't
pub open-whose : (s : Summary) (happened : EventKind) (before now : Option ℕ) → Leads happened before now → (t : ℕ) → is_open_after s happened t ≡ true
    → (now ≡ Some t) ⊎ ((is_open s t ≡ true) × (before ≡ Some t → ⊥))
open-whose s (Begin u) before now (was, is) t going =
    elim (or_cases (t == u) (is_open s t) going) [
      | inl same ↦ inl (is ∙ ap Some (sym (eqb-true t u same)))
      | inr old ↦ inr (old, λ e. none-some t (sym was ∙ e))
    ]
open-whose s (Op k u x) before now (was, is) t going = kept-open s u t before now was is going
open-whose s (Busy c u x v) before now (was, is) t going = kept-open s u t before now was is going
open-whose s (kind.None u x c) before now (was, is) t going = kept-open s u t before now was is going
open-whose s (Commit u) before now (was, is) t going = left-open s u t before now was going
open-whose s (Abort u) before now (was, is) t going = left-open s u t before now was going
open-whose s (Rollback u n) before now leads t going = absurd leads

-- as many transactions are opened and ended as the worker opens and ends
pub going-counts : (happened : EventKind) (before now : Option ℕ) → Leads happened before now → (m n : ℕ) → CountsTo happened m n
    → n + cond (is_some before) 1 0 ≡ m + cond (is_some now) 1 0
going-counts (Begin t) before now (was, is) m n counts = rw (was, is) (omega (arith, counts))
going-counts (Op k t x) before now (was, is) m n counts = rw (was, is) (omega (arith, counts))
going-counts (Busy c t x u) before now (was, is) m n counts = rw (was, is) (omega (arith, counts))
going-counts (kind.None t x c) before now (was, is) m n counts = rw (was, is) (omega (arith, counts))
going-counts (Commit t) before now (was, is) m n counts = rw (was, is) (omega (arith, counts))
going-counts (Abort t) before now (was, is) m n counts = rw (was, is) (omega (arith, counts))
going-counts (Rollback t k) before now leads m n counts = absurd leads

-- ---- with one worker's progress another

module _ (ps : List Progress) (w : ℕ) (p q : Progress) (there : slice_get ps w ≡ Some p) where
  -- its transaction is its own
  pub owner-own : (t : ℕ) → open_in_phase q.phase ≡ Some t → HasOwner t (set ps w q)
  owner-own t now = record { w = w; p = q; there = found-set ps w p q there; owns = now }

  -- one that wasn't its own is another's still
  pub owner-other : (t : ℕ) → HasOwner t ps → (open_in_phase p.phase ≡ Some t → ⊥) → HasOwner t (set ps w q)
  owner-other t owner apart =
      elim (cases_eq owner.w w) [
        | inl same ↦
            let its : owner.p ≡ p = same_Some owner.p p (sym owner.there ∙ ap (slice_get ps) same ∙ there) in
            absurd (apart (ap (λ (r : Progress). open_in_phase r.phase) (sym its) ∙ owner.owns))
        | inr other ↦ record { w = owner.w; p = owner.p; there = found-others ps w q owner.w other ∙ owner.there; owns = owner.owns }
      ]

  -- where the worker has open what it had, each has its owner still
  pub owner-same : open_in_phase q.phase ≡ open_in_phase p.phase → (t : ℕ) → HasOwner t ps → HasOwner t (set ps w q)
  owner-same leads t owner =
      elim (cases_eq owner.w w) [
        | inl same ↦
            let its : owner.p ≡ p = same_Some owner.p p (sym owner.there ∙ ap (slice_get ps) same ∙ there) in
            owner-own t (leads ∙ ap (λ (r : Progress). open_in_phase r.phase) (sym its) ∙ owner.owns)
        | inr other ↦ record { w = owner.w; p = owner.p; there = found-others ps w q owner.w other ∙ owner.there; owns = owner.owns }
      ]

  -- how many are going
  pub going-after : (m n start : ℕ) → m ≡ start + length (filter is_going ps) → n + cond (is_going p) 1 0 ≡ m + cond (is_going q) 1 0
      → n ≡ start + length (filter is_going (set ps w q))
  going-after m n start before counts =
      let most = count-set is_going ps w p q there in
      omega (arith, before, counts, most)
