-- What goes over into the next epoch: it is open there, with what survived of it.
use Rattle.std.proofs.Common.{◌≡◌, ◌∙◌, ℕ, suc, ◌+◌, true, List, [], ◌∷◌, ◌++◌, map, length, refl, sym, ap, inl, inr, append_assoc, append-nil, lt-ltb, arith}
use Rattle.std.specs.Prelude.{◌==◌}
use Rattle.std.proofs.lemmas.Bool.{cases_Bool, eq-eqb, eqb-true, false≢true}
use Rattle.std.proofs.lemmas.List.{map-append}
use Rattle.object_trait.specs.declared.event.Event.{Event}
use Rattle.object_trait.specs.declared.event.EventKind.TheVariants.{Begin}
use Rattle.serial_order.specs.After.{summary_next}
use Rattle.serial_order.specs.History.{Summary, begins, is_open, summary}
use Rattle.serial_order.specs.Operations.{at_object, is_among, of, ops}
use Rattle.serial_order.specs.Serial.{surviving_at}
use Rattle.serial_order.specs.declared.entry.Entry.{Entry}
use Rattle.serial_order.proofs.After.{seen_after_one}
use Rattle.committed_states.specs.Committed.{of_these}
use Rattle.carried_runs.specs.Carried.{IsCarriedOrder, begins_from, carried_by, carried_summary, done_again, number_in, renumbered}
use Rattle.carried_runs.proofs.InRun.{of-chosen}
use Rattle.carried_runs.proofs.Renumbering.{at-renumbered, number-below, ops-renumbered}
use Rattle.serving.proofs.OneName.{number-one}
use Rattle.held_votes.specs.VotesHeld.{operations_at}

-- ---- what the first events say

abbrev begun : ℕ → Summary
begun n = record { begun = n; committed = []; aborted = []; survives = [] }

says-begins : (worker : ℕ → ℕ) (before : List Event) (n : ℕ) (P : List ℕ) → summary before ≡ begun n → summary (before ++ begins_from worker n P) ≡ begun (length P + n)
says-begins worker before n [] is = ap summary (append-nil before) ∙ is ∙ ap begun (omega arith)
says-begins worker before n (t ∷ P) is =
    let e : Event = record { worker = worker t; kind = Begin n } in
    ap summary (sym (append_assoc before (e ∷ []) (begins_from worker (suc n) P)))
    ∙ says-begins worker (before ++ e ∷ []) (suc n) P (seen_after_one before e ∙ ap (λ (s : Summary). summary_next s (Begin n)) is)
    ∙ ap begun (omega arith)

says-again : (worker : ℕ → ℕ) (P : List ℕ) (before : List Event) (W U : List Entry) → summary before ≡ carried_summary P W → summary (before ++ map (done_again worker P) U) ≡ carried_summary P (W ++ U)
says-again worker P before W [] is = ap summary (append-nil before) ∙ is ∙ ap (carried_summary P) (sym (append-nil W))
says-again worker P before W (e ∷ U) is =
    let event = done_again worker P e in
    ap summary (sym (append_assoc before (event ∷ []) (map (done_again worker P) U)))
    ∙ says-again worker P (before ++ event ∷ []) (W ++ e ∷ []) U
    (seen_after_one before event ∙ ap (λ (s : Summary). summary_next s event.kind) is
    ∙ ap (λ V. record { begun = length P; committed = []; aborted = []; survives = V }) (sym (map-append (renumbered P) W (e ∷ []))))
    ∙ ap (carried_summary P) (append_assoc W (e ∷ []) U)

-- these began, and what was done again survives
pub carried-says : (worker : ℕ → ℕ) (P : List ℕ) (U : List Entry) → summary (carried_by worker P U) ≡ carried_summary P U
carried-says worker P U = says-again worker P (begins_from worker 0 P) [] U (says-begins worker [] 0 P refl ∙ ap begun (omega arith))

pub carried-begins : (worker : ℕ → ℕ) (P : List ℕ) (U : List Entry) → begins (carried_by worker P U) ≡ length P
carried-begins worker P U = ap (λ (s : Summary). s.begun) (carried-says worker P U)

-- each is open
pub carried-open : (worker : ℕ → ℕ) (P : List ℕ) (U : List Entry) (t : ℕ) → is_among P t ≡ true → is_open (summary (carried_by worker P U)) (number_in P t) ≡ true
carried-open worker P U t inside =
    ap (λ (s : Summary). is_open s (number_in P t)) (carried-says worker P U) ∙ rw (lt-ltb (number_in P t) (length P) (number-below P t inside)) refl

-- ---- operations

-- a number is that of one alone
number-test : (P : List ℕ) (t u : ℕ) → is_among P t ≡ true → (number_in P u == number_in P t) ≡ (u == t)
number-test P t u inside = elim (cases_Bool (u == t)) [
  | inl same ↦ eq-eqb (number_in P u) (number_in P t) (ap (number_in P) (eqb-true u t same)) ∙ sym same
  | inr other ↦ elim (cases_Bool (number_in P u == number_in P t)) [
    | inl one ↦ absurd (false≢true (sym other ∙ eq-eqb u t (number-one P t u inside (eqb-true (number_in P u) (number_in P t) one))))
    | inr apart ↦ apart ∙ sym other
  ]
]

-- those of its new number are its own
own-renumbered : (P : List ℕ) (t : ℕ) (W : List Entry) → is_among P t ≡ true → of (number_in P t) (map (renumbered P) W) ≡ map (renumbered P) (of t W)
own-renumbered P t [] inside = refl
own-renumbered P t (e ∷ W) inside =
    let test = number-test P t e.by inside in
    elim (cases_Bool (e.by == t)) [
      | inl mine ↦ rw (test, mine) (ap (λ rest. renumbered P e ∷ rest) (own-renumbered P t W inside))
      | inr other ↦ rw (test, other) (own-renumbered P t W inside)
    ]

-- and what it did is what survived of it
pub carried-works : (worker : ℕ → ℕ) (P : List ℕ) (U : List Entry) (H : List Event) (t x : ℕ) → IsCarriedOrder P H U → is_among P t ≡ true
    → operations_at (carried_by worker P U) (number_in P t) x ≡ operations_at H t x
carried-works worker P U H t x order inside =
    ap (λ (s : Summary). ops (of (number_in P t) (at_object x s.survives))) (carried-says worker P U)
    ∙ ap (λ V. ops (of (number_in P t) V)) (at-renumbered x P U ∙ ap (map (renumbered P)) (order x))
    ∙ ap ops (own-renumbered P t (of_these P (surviving_at x H)) inside)
    ∙ ops-renumbered P (of t (of_these P (surviving_at x H)))
    ∙ ap ops (of-chosen P t (surviving_at x H) inside)
