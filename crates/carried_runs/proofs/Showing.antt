-- What the first events of the next epoch say, and how many they are.
use Rattle.std.proofs.Common.{◌≡◌, ℕ, zero, suc, ◌+◌, ◌-◌, ◌<◌, ◌≤◌, Bool, true, not, ◌&&◌, ◌==◌, List, [], ◌∷◌, ◌++◌, map, filter, length, refl, sym, ap, ◌∙◌, inl, inr, append_assoc, append-nil, length-append, arith}
use Rattle.std.specs.List.{AllByRecursion, range_with_len}
use Rattle.std.proofs.lemmas.Bool.{cases_Bool, eqb-true, false≢true}
use Rattle.std.proofs.lemmas.List.{map-append, length-map}
use Rattle.std.proofs.lemmas.List.FromFn.{length-range_with_len}
use Rattle.std.proofs.lemmas.Bool.Decides.{nat_tests}
use Rattle.type_table.specs.declared.kind.Kind.{Kind}
use Rattle.type_table.specs.declared.kind.Kind.TheVariants.{Undo, Intentions, Escrow}
use Rattle.type_table.proofs.Elements.{each-weaker, each-both, each-passes, filter-length, filter-turned}
use Rattle.object_trait.specs.Object.{Object}
use Rattle.object_trait.proofs.Striking.{keep_first-length}
use Rattle.object_trait.specs.declared.event.Event.{Event}
use Rattle.object_trait.specs.declared.event.EventKind.{EventKind}
use Rattle.object_trait.specs.declared.event.EventKind.TheVariants as kind
use Rattle.object_trait.specs.declared.event.EventKind.TheVariants.{Begin, Op, Busy, Commit, Abort, Rollback}
use Rattle.serial_order.specs.Operations.{is_among, is_by, at_object, ops, of}
use Rattle.serial_order.specs.History.{Summary, summary, is_open, surviving}
use Rattle.serial_order.specs.View.{view}
use Rattle.serial_order.specs.Replay.{open_count}
use Rattle.serial_order.specs.After.{summary_next}
use Rattle.serial_order.specs.Serial.{surviving_at}
use Rattle.serial_order.specs.declared.entry.Entry.{Entry}
use Rattle.serial_order.proofs.After.{seen_after_one}
use Rattle.serial_order.proofs.Pairs.{each-all}
use Rattle.serial_order.proofs.Runs.{in_run, of_open}
use Rattle.serial_order.specs.Machine.{IsRun}
use Rattle.committed_states.specs.Committed.{of_these}
use Rattle.carried_runs.specs.Carried.{number_in, renumbered, begins_from, done_again, carried_by, carried_run, carried_summary, AreOpenOnce}
use Rattle.carried_runs.specs.Views.{carried_view}
use Rattle.carried_runs.specs.Laws.{CarriedShows, CarriedFits}
use Rattle.carried_runs.proofs.Renumbering.{AreApart, owner-number, at-renumbered, ops-renumbered, ops_of-renumbered}
use Rattle.carried_runs.proofs.Ordering.{equally-long}
use Rattle.carried_runs.proofs.InRun.{are-less, of-chosen}

-- ---- what is said

abbrev begun : ℕ → Summary
begun n = record { begun = n; committed = []; aborted = []; survives = [] }

shows-begins : (worker : ℕ → ℕ) (before : List Event) (n : ℕ) (P : List ℕ) → summary before ≡ begun n → summary (before ++ begins_from worker n P) ≡ begun (length P + n)
shows-begins worker before n [] is = ap summary (append-nil before) ∙ is ∙ ap begun (omega arith)
shows-begins worker before n (t ∷ P) is =
    let e : Event = record { worker = worker t; kind = Begin n } in
    ap summary (sym (append_assoc before (e ∷ []) (begins_from worker (suc n) P)))
    ∙ shows-begins worker (before ++ e ∷ []) (suc n) P (seen_after_one before e ∙ ap (λ (s : Summary). summary_next s (Begin n)) is)
    ∙ ap begun (omega arith)

shows-again : (worker : ℕ → ℕ) (P : List ℕ) (before : List Event) (W U : List Entry) → summary before ≡ carried_summary P W → summary (before ++ map (done_again worker P) U) ≡ carried_summary P (W ++ U)
shows-again worker P before W [] is = ap summary (append-nil before) ∙ is ∙ ap (carried_summary P) (sym (append-nil W))
shows-again worker P before W (e ∷ U) is =
    let event = done_again worker P e in
    ap summary (sym (append_assoc before (event ∷ []) (map (done_again worker P) U)))
    ∙ shows-again worker P (before ++ event ∷ []) (W ++ e ∷ []) U
    (seen_after_one before event ∙ ap (λ (s : Summary). summary_next s event.kind) is
    ∙ ap (λ V. record { begun = length P; committed = []; aborted = []; survives = V }) (sym (map-append (renumbered P) W (e ∷ []))))
    ∙ ap (carried_summary P) (append_assoc W (e ∷ []) U)

-- in each order
shows-carried : (worker : ℕ → ℕ) (P : List ℕ) (U : List Entry) → summary (carried_by worker P U) ≡ carried_summary P U
shows-carried worker P U = shows-again worker P (begins_from worker 0 P) [] U (shows-begins worker [] 0 P refl ∙ ap begun (omega arith))

pub carried-summary : (H : List Event) (worker : ℕ → ℕ) (P : List ℕ) → summary (carried_run worker P H) ≡ carried_summary P (of_these P (surviving H))
carried-summary H worker P = shows-carried worker P (of_these P (surviving H))

-- ---- what is seen

-- what is there at an object
at-chosen : (P : List ℕ) (x : ℕ) (H : List Event) → at_object x (map (renumbered P) (of_these P (surviving H))) ≡ map (renumbered P) (of_these P (surviving_at x H))
at-chosen P x H = at-renumbered x P (of_these P (surviving H)) ∙ ap (map (renumbered P)) (filter-turned (λ (e : Entry). e.at == x) (λ e. is_among P e.by) (surviving H))

own-seen : (P : List ℕ) (H : List Event) (x t : ℕ) → AreOpenOnce P H → is_among P t ≡ true → ops (of (number_in P t) (at_object x (map (renumbered P) (of_these P (surviving H))))) ≡ ops (of t (surviving_at x H))
own-seen P H x t once inside =
    let less = are-less P H once in
    let mine = each-passes (λ (f : Entry). is_among P f.by ≡ true) (λ f. is_among P f.by) (surviving_at x H) (each-all (λ f passes. passes) (surviving_at x H)) in
    ap (λ V. ops (of (number_in P t) V)) (at-chosen P x H)
    ∙ ops_of-renumbered P (summary H).begun (number_in P t) (of_these P (surviving_at x H)) once.apart less mine
    ∙ ap (λ u. ops (of u (of_these P (surviving_at x H)))) (owner-number P (summary H).begun t once.apart less inside)
    ∙ ap ops (of-chosen P t (surviving_at x H) inside)

seen-by : (kind : Kind) (P : List ℕ) (H : List Event) (x t : ℕ) → AreOpenOnce P H → is_among P t ≡ true →
    ops (view kind (carried_summary P (of_these P (surviving H))) x (number_in P t)) ≡ ops (carried_view kind P (surviving_at x H) t)
seen-by Undo P H x t once inside = ap ops (at-chosen P x H) ∙ ops-renumbered P (of_these P (surviving_at x H))
seen-by Intentions P H x t once inside = own-seen P H x t once inside
seen-by Escrow P H x t once inside = own-seen P H x t once inside

pub carried_shows : CarriedShows
carried_shows = λ H worker P once. (
  carried-summary H worker P,
  λ kind x t inside. ap (λ (s : Summary). ops (view kind s x (number_in P t))) (carried-summary H worker P) ∙ seen-by kind P H x t once inside,
)

-- ---- how many they are

-- without one that passes, fewer pass
fewer : (test : ℕ → Bool) (u : ℕ) (L : List ℕ) → test u ≡ true → is_among L u ≡ true → length (filter (λ t. test t && not (t == u)) L) < length (filter test L)
fewer test u [] passes inside = absurd (false≢true inside)
fewer test u (t ∷ L) passes inside =
    elim (cases_Bool (t == u)) [
      | inl is ↦
          let now : test t ≡ true = ap test (eqb-true t u is) ∙ passes in
          let rest = no-more L in
          rw (is, now) (omega (arith, rest))
      | inr other ↦
          let rest = fewer test u L passes (rw other at inside) in
          elim (cases_Bool (test t)) [
            | inl now ↦ simp (other, now) (omega (arith, rest))
            | inr fails ↦ simp (other, fails) rest
          ]
    ]
  where
    no-more : (L : List ℕ) → length (filter (λ t. test t && not (t == u)) L) ≤ length (filter test L)
    no-more [] = omega arith
    no-more (t ∷ L) =
        let rest = no-more L in
        elim (cases_Bool (test t)) [
          | inl now ↦ elim (cases_Bool (t == u)) [
            | inl is ↦ simp (now, is) (omega (arith, rest))
            | inr other ↦ simp (now, other) (omega (arith, rest))
          ]
          | inr fails ↦ simp fails rest
        ]

-- some that pass, none twice, are no more than all that pass
no-more_than : (P L : List ℕ) (test : ℕ → Bool) → AreApart P → AllByRecursion (λ t. (test t ≡ true) × (is_among L t ≡ true)) P → length P ≤ length (filter test L)
no-more_than [] L test apart all = omega arith
no-more_than (u ∷ P) L test apart all =
    let rest = no-more_than P L (λ t. test t && not (t == u)) apart.1
    (each-both (λ t differ h. (rw (h.0, differ) refl, h.1)) P apart.0 all.1) in
    let one = fewer test u L all.0.0 all.0.1 in
    omega (arith, rest, one)

-- a number from a on is one of those
in-range : (a n t : ℕ) → a ≤ t → t < a + n → is_among (range_with_len a n) t ≡ true
in-range a zero t from low = absurd (omega (arith, from, low))
in-range a (suc n) t from low =
    elim (cases_Bool (a == t)) [
      | inl is ↦ rw is refl
      | inr other ↦
          let past : a + 1 ≤ t = grind (arith, nat_tests, from, other) in
          rw other (in-range (a + 1) n t past (omega (arith, low)))
    ]

-- the open ones are no fewer
as_many_open : (P : List ℕ) (H : List Event) → AreOpenOnce P H → length P ≤ open_count (summary H)
as_many_open P H once =
    no-more_than P (range_with_len 0 (summary H).begun) (is_open (summary H)) once.apart
    (each-weaker (λ t is. (is, in-range 0 (summary H).begun t (omega arith) (let low = (of_open (summary H) t is).began in omega (arith, low)))) P once.are_open)

-- and no more are open in the next epoch than are carried
pub carried-open : (worker : ℕ → ℕ) (P : List ℕ) (U : List Entry) → open_count (summary (carried_by worker P U)) ≤ length P
carried-open worker P U =
    let few = filter-length (is_open (carried_summary P U)) (range_with_len 0 (length P)) in
    let range : length (range_with_len 0 (length P)) ≡ length P = length-range_with_len 0 (length P) in
    let same : open_count (summary (carried_by worker P U)) ≡ open_count (carried_summary P U) = ap open_count (shows-carried worker P U) in
    omega (arith, few, range, same)

-- transactions that began and operations that survive are no more than events
abbrev weight : Summary → ℕ
weight s = s.begun + length s.survives

weight-next : (s : Summary) (happened : EventKind) → weight (summary_next s happened) ≤ weight s + 1
weight-next s (Begin t) = omega arith
weight-next s (Op k t x) = omega (arith, length-append s.survives ((record { by = t; at = x; op = k }) ∷ []))
weight-next s (Busy c t x u) = omega arith
weight-next s (kind.None t x c) = omega arith
weight-next s (Commit t) = omega arith
weight-next s (Abort t) = let left = keep_first-length (is_by t) 0 s.survives in omega (arith, left)
weight-next s (Rollback t n) = let left = keep_first-length (is_by t) (length (of t s.survives) - n) s.survives in omega (arith, left)

weight-in_run : (objects : List Object) (H : List Event) → IsRun objects H → weight (summary H) ≤ length H
weight-in_run objects H going =
    in_run objects (λ G. weight (summary G) ≤ length G) (omega arith)
    (λ G e run may low.
    let step = weight-next (summary G) e.kind in
    let now : weight (summary (G ++ e ∷ [])) ≡ weight (summary_next (summary G) e.kind) = ap weight (seen_after_one G e) in
    omega (arith, low, step, now, length-append G (e ∷ []))) H going

length-begins : (worker : ℕ → ℕ) (n : ℕ) (P : List ℕ) → length (begins_from worker n P) ≡ length P
length-begins worker n [] = refl
length-begins worker n (t ∷ P) = ap suc (length-begins worker (suc n) P)

pub carried_fits : CarriedFits
carried_fits = λ objects H worker P U going once order.
    let many = as_many_open P H once in
    let few = filter-length (is_open (summary H)) (range_with_len 0 (summary H).begun) in
    let some = filter-length (λ (e : Entry). is_among P e.by) (surviving H) in
    let all = weight-in_run objects H going in
    let same = equally-long U (of_these P (surviving H)) (λ x. order x ∙ sym (filter-turned (λ (f : Entry). f.at == x) (λ f. is_among P f.by) (surviving H))) in
    let count : length (carried_by worker P U) ≡ length P + length U =
    length-append (begins_from worker 0 P) (map (done_again worker P) U) ∙ rw (length-begins worker 0 P, length-map U (done_again worker P)) refl in
    let range : length (range_with_len 0 (summary H).begun) ≡ (summary H).begun = length-range_with_len 0 (summary H).begun in
    (omega (arith, many, few, some, all, same, count, range), many)
