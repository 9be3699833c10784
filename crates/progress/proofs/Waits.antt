-- When a call isn't `Busy`.
use Rattle.std.proofs.Common.{◌≡◌, ℕ, zero, suc, Bool, true, false, not, ◌&&◌, ◌==◌, List, [], ◌∷◌, ◌++◌, length, Option, Some, None, is_some, refl, sym, ap, ◌∙◌, subst, inl, inr}
use Rattle.std.specs.Prelude.{slice_get}
use Rattle.std.specs.List.{AllByRecursion}
use Rattle.std.proofs.lemmas.Bool.{cases_Bool, eqb-true, eq-eqb, true≢false, and_parts, not-true}
use Rattle.type_table.specs.Least.{first_below}
use Rattle.type_table.proofs.Elements.{each-weaker}
use Rattle.object_trait.specs.Object.{Object}
use Rattle.object_trait.specs.declared.event.Event.{Event}
use Rattle.serial_order.specs.Operations.{at_object}
use Rattle.serial_order.specs.History.{Summary, summary, is_open}
use Rattle.serial_order.specs.View.{conflicts_with, stops_at, is_alone}
use Rattle.serial_order.specs.Machine.{MayBeBusy}
use Rattle.progress.proofs.Blockers.{nobody-blocks}
use Rattle.serial_order.specs.Answer.{blocker, is_reply, is_free_reply, refused, event_of_first, event_of_call}
use Rattle.serial_order.specs.declared.entry.Entry.{Entry}
use Rattle.serial_order.proofs.Pairs.{each-at, each-all}
use Rattle.progress.specs.Waiting.{IsInTheWay, IsAloneAt, OthersHaveEnded, done_or_none}
use Rattle.progress.specs.Laws.{BusyTellsWho, AloneThereIsNotBusy, AloneThereIsAnswered, AloneIsAloneThere, AloneIsNotBusy, WaitingEnds}

-- ---- who is in the way

-- an operation that conflicts is of another open transaction
conflicts_apart : (o : Object) (s : Summary) (x t k : ℕ) (e : Entry) → conflicts_with o s x t k e ≡ true → (is_open s e.by ≡ true) × ((e.by == t) ≡ false)
conflicts_apart o s x t k e conflicts =
    let stops : Bool = stops_at o.kind o s.committed (at_object x s.survives) t k e in
    let parts = and_parts (is_open s e.by) (not (e.by == t) && stops) conflicts in
    (parts.0, not-true (e.by == t) (and_parts (not (e.by == t)) stops parts.1).0)

busy_tells : (found : Option Object) (s : Summary) (x t c u : ℕ) → MayBeBusy found s x t c u → IsInTheWay s x t u
busy_tells None s x t c u busy = absurd busy
busy_tells (Some o) s x t c u (least, at, busy) =
    let apart = conflicts_apart o s x t busy.k busy.held busy.conflicts in
    record {
      open_now = subst (λ v. is_open s v ≡ true) busy.holder apart.0;
      other = subst (λ v. (v == t) ≡ false) busy.holder apart.1;
      held = busy.held;
      survives = busy.survives;
      by = busy.holder;
    }

pub busy_tells_who : BusyTellsWho
busy_tells_who = λ objects s c t x u may. busy_tells (slice_get objects x) s x t c u may.1

pub alone_there_is_not_busy : AloneThereIsNotBusy
alone_there_is_not_busy = λ objects s c t x u alone may.
    let way = busy_tells (slice_get objects x) s x t c u may.1 in
    let here : way.held.by ≡ t = each-at (λ e. is_open s e.by ≡ true → e.by ≡ t) (at_object x s.survives) way.held alone way.survives (subst (λ v. is_open s v ≡ true) (sym way.by) way.open_now) in
    true≢false (sym (eq-eqb u t (sym way.by ∙ here)) ∙ way.other)

-- ---- the answer

-- tests that agree find the same
first_below-same : (test other : ℕ → Bool) → ((k : ℕ) → test k ≡ other k) → (n : ℕ) → first_below n test ≡ first_below n other
first_below-same test other same zero = refl
first_below-same test other same (suc n) = rw (first_below-same test other same n, same n) refl

module _ (o : Object) (s : Summary) (x t : ℕ) (alone : IsAloneAt s x t) where
  free : (k : ℕ) (e : Entry) → (is_open s e.by ≡ true → e.by ≡ t) → conflicts_with o s x t k e ≡ false
  free k e here =
      elim (cases_Bool (conflicts_with o s x t k e)) [
        | inl conflicts ↦
            let apart = conflicts_apart o s x t k e conflicts in
            absurd (true≢false (sym (eq-eqb e.by t (here apart.0)) ∙ apart.1))
        | inr isnt ↦ isnt
      ]

  unblocked : (k : ℕ) → blocker o s x t k ≡ None
  unblocked k = nobody-blocks (is_alone o s x t k) (conflicts_with o s x t k) (at_object x s.survives) (each-weaker (λ e here. free k e here) (at_object x s.survives) alone)

  and-true : (b : Bool) → (b && true) ≡ b
  and-true true = refl
  and-true false = refl

  same_replies : (c k : ℕ) → is_free_reply o s x t c k ≡ is_reply o s x t c k
  same_replies c k = ap (λ found. is_reply o s x t c k && not (is_some found)) (unblocked k) ∙ and-true (is_reply o s x t c k)

  by_found : (c : ℕ) (found : Option ℕ) → first_below (length o.table.ops) (is_reply o s x t c) ≡ found → event_of_first o s x t c found ≡ done_or_none t x c found
  by_found c (Some k) is = refl
  by_found c None is = ap (refused o s x t c) is

  pub answered : (c : ℕ) → event_of_call o s x t c ≡ done_or_none t x c (first_below (length o.table.ops) (is_reply o s x t c))
  answered c =
      ap (event_of_first o s x t c) (first_below-same (is_free_reply o s x t c) (is_reply o s x t c) (same_replies c) (length o.table.ops))
      ∙ by_found c (first_below (length o.table.ops) (is_reply o s x t c)) refl

pub alone_there_is_answered : AloneThereIsAnswered
alone_there_is_answered = λ o s x t c alone. answered o s x t alone c

-- ---- who is alone

pub alone_is_alone_there : AloneIsAloneThere
alone_is_alone_there = λ s t x alone. each-all (λ e open_now. alone e.by open_now) (at_object x s.survives)

pub alone_is_not_busy : AloneThereIsNotBusy → AloneIsAloneThere → AloneIsNotBusy
alone_is_not_busy not_busy there = λ objects s c t x u alone may. not_busy objects s c t x u (there s t x alone) may

-- who holds something is t, or was open and has ended, or came later
alone_by : (H K : List Event) (x t : ℕ) → OthersHaveEnded H K x t → (e : Entry) → (is_open (summary H) e.by ≡ false → is_open (summary (H ++ K)) e.by ≡ false)
    → is_open (summary (H ++ K)) e.by ≡ true → e.by ≡ t
alone_by H K x t ended e later open_now =
    elim (cases_Bool (e.by == t)) [
      | inl is ↦ eqb-true e.by t is
      | inr other ↦ elim (cases_Bool (is_open (summary H) e.by)) [
        | inl was ↦ absurd (true≢false (sym open_now ∙ ended.earlier e.by was other))
        | inr wasnt ↦ absurd (true≢false (sym open_now ∙ later wasnt))
      ]
    ]

pub waiting_ends : WaitingEnds
waiting_ends = λ H K x t ended. each-weaker (λ e later open_now. alone_by H K x t ended e later open_now) (at_object x (summary (H ++ K)).survives) ended.later
