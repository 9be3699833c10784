-- The end of a store: the aborts of its open transactions, and what they leave.
use Rattle.store_limits.specs.declared.limits.Limits.{Limits}
use Rattle.std.proofs.Common.{◌≡◌, ℕ, zero, suc, ◌+◌, ◌<◌, ◌≤◌, ◌==◌, Bool, true, false, not, ◌&&◌, List, [], ◌∷◌, ◌++◌, map, filter, cond, if◌then◌else◌, length, Option, Some, None, is_some, slice_get, slice_index_or, refl, sym, ap, subst, ◌∙◌, inl, inr, append-nil, append_assoc, add-one, arith}
use Rattle.std.specs.List.{range_with_len}
use Rattle.std.proofs.lemmas.Bool.{cases_Bool, cases_eq, cases_lt, eq-eqb, ne_eqb, le-ltb, and_left, and_right, not_from_true, false≢true}
use Rattle.std.proofs.lemmas.List.{map-append, get_or_past}
use Rattle.std.proofs.lemmas.List.Elements.{filter-append}
use Rattle.std.proofs.lemmas.Option.{none-some, get_or_from_slice_get, slice_get-get_or}
use Rattle.type_table.proofs.Elements.{range-more}
use Rattle.object_trait.specs.Object.{Object}
use Rattle.object_trait.specs.Meaning.{Meaning}
use Rattle.object_trait.specs.declared.event.Event.{Event}
use Rattle.object_trait.specs.declared.event.EventKind.TheVariants.{Abort}
use Rattle.serial_order.specs.History.{summary, is_open}
use Rattle.serial_order.specs.Operations.{is_among}
use Rattle.serial_order.specs.Machine.{IsRun}
use Rattle.serial_order.specs.Laws.{RunGoesOn}
use Rattle.serial_order.specs.After.{SummaryAfter, TransactionsInRun, OpensAfter, beginners, BeginnersAfter, IdleIsClosed}
use Rattle.serial_order.specs.declared.command.Command.TheVariants as command
use Rattle.serial_order.specs.declared.refusal.Refusal.TheVariants.{NotOpen}
use Rattle.open_transactions.specs.Transactions as table
use Rattle.open_transactions.specs.Transactions.{Row, row, worker_of}
use Rattle.store_laws.specs.Stored.{Stored, objects, stored_after}
use Rattle.store_laws.specs.Kept.{Keeping, keeping, objects_of, IsKept}
use Rattle.store.specs.Ends.{closing_abort, closing_but, is_other, IsHandedOut}
use Rattle.store.proofs.Stored.{shown}
use Rattle.store_laws.specs.Before.{RowsSayWhoIsOpen}
use Rattle.serial_order.proofs.Idle.{none-idle}
use Rattle.store.proofs.Opens.{some-of, open-alike}

-- ---- what callers see

-- what is kept agrees with the history that they see
pub kept-shown : (k : Keeping) (H : List Event) (limits : Limits) (forgotten : ℕ) (s : Stored) → shown k H limits forgotten ≡ s → IsKept k H → IsKept k s.history
kept-shown k H limits forgotten s same kept = subst (λ K. IsKept k K) (ap (λ (z : Stored). z.history) same) kept

-- which is a run at the objects that they see
pub run-shown : (k : Keeping) (H : List Event) (limits : Limits) (forgotten : ℕ) (s : Stored) → shown k H limits forgotten ≡ s → IsKept k H → IsRun (objects s) s.history
run-shown k H limits forgotten s same kept = subst (λ (z : Stored). IsRun (objects z) z.history) same kept.run

-- ---- one abort

-- a store with the abort of t
abbrev pub aborted_once : Stored → ℕ → Stored
aborted_once s t = record s { history = s.history ++ closing_abort s.history t ∷ [] }

-- the abort of an open transaction appends its event
abort-appends : (s : Stored) (w t : ℕ) → is_open (summary s.history) t ≡ true
    → stored_after s w (command.Abort t) ≡ record s { history = s.history ++ (record { worker = w; kind = Abort t }) ∷ [] }
abort-appends s w t going =
    ap (λ b. record s { history = if is_some (if not b then Some NotOpen else None) then s.history else s.history ++ (record { worker = w; kind = Abort t }) ∷ [] }) going

-- the worker in the row of an open transaction is the one by whose event it began
row-worker : (ms : List Meaning) (rows : List (Option Row)) (H : List Event) (t : ℕ) → IsKept (keeping ms rows) H
    → table.has_row rows t ≡ true → closing_abort H t ≡ record { worker = worker_of (row rows t); kind = Abort t }
row-worker ms rows H t kept going =
    let found = some-of (row rows t) going in
    elim (cases_lt t (length rows)) [
      | inl low ↦
          let there : slice_get rows t ≡ Some (Some found.0) = slice_get-get_or rows t None low ∙ ap Some found.1 in
          let began = (kept.transactions t (Some found.0) there).worker found.0 refl in
          ap (λ w. record { worker = w; kind = Abort t }) (get_or_from_slice_get (beginners H) t (found.0).worker 0 began ∙ sym (ap worker_of found.1))
      | inr past ↦ absurd (none-some found.0 (sym (get_or_past rows t None past) ∙ found.1))
    ]

-- an abort by that worker is the abort of t at the end of a store
pub aborts-once : (ms : List Meaning) (rows : List (Option Row)) (s new : Stored) (w t : ℕ) → IsKept (keeping ms rows) s.history
    → table.has_row rows t ≡ true → is_open (summary s.history) t ≡ true → w ≡ worker_of (row rows t) → new ≡ stored_after s w (command.Abort t) → new ≡ aborted_once s t
aborts-once ms rows s new w t kept going opened by_its_own is =
    is ∙ abort-appends s w t opened
    ∙ ap (λ (e : Event). record s { history = s.history ++ e ∷ [] })
    (ap (λ v. record { worker = v; kind = Abort t }) by_its_own ∙ sym (row-worker ms rows s.history t kept going))

-- ---- one abort after another

-- the aborts of the open transactions below n, but of those
abbrev pub closing_below : List ℕ → List Event → ℕ → List Event
closing_below those H n = map (closing_abort H) (filter (is_other those (summary H)) (range_with_len 0 n))

-- a store with the aborts of the open ones below n, but of those
abbrev pub closed_below : List ℕ → Stored → ℕ → Stored
closed_below those s n = record s { history = s.history ++ closing_below those s.history n }

-- the next transaction is aborted too, where it is open and none of those
closing-more : (those : List ℕ) (H : List Event) (n : ℕ)
    → closing_below those H (n + 1) ≡ closing_below those H n ++ map (closing_abort H) (filter (is_other those (summary H)) (n ∷ []))
closing-more those H n =
    ap (λ ns. map (closing_abort H) (filter (is_other those (summary H)) ns)) (range-more n)
    ∙ ap (map (closing_abort H)) (filter-append (is_other those (summary H)) (range_with_len 0 n) (n ∷ []))
    ∙ map-append (closing_abort H) (filter (is_other those (summary H)) (range_with_len 0 n)) (filter (is_other those (summary H)) (n ∷ []))

-- where it is, there is one abort more
pub closing-opened : (those : List ℕ) (H : List Event) (n : ℕ) → is_other those (summary H) n ≡ true
    → H ++ closing_below those H (n + 1) ≡ (H ++ closing_below those H n) ++ closing_abort H n ∷ []
closing-opened those H n going =
    ap (λ es. H ++ es) (closing-more those H n ∙ ap (λ b. closing_below those H n ++ map (closing_abort H) (cond b (n ∷ []) [])) going)
    ∙ sym (append_assoc H (closing_below those H n) (closing_abort H n ∷ []))

-- else there is none
pub closing-ended : (those : List ℕ) (H : List Event) (n : ℕ) → is_other those (summary H) n ≡ false → H ++ closing_below those H (n + 1) ≡ H ++ closing_below those H n
closing-ended those H n ended =
    ap (λ es. H ++ es)
    (closing-more those H n ∙ ap (λ b. closing_below those H n ++ map (closing_abort H) (cond b (n ∷ []) [])) ended ∙ append-nil (closing_below those H n))

-- where none below n is open, there is nothing to abort there
closing-none : (those : List ℕ) (H : List Event) (n : ℕ) → ((t : ℕ) → t < n → is_open (summary H) t ≡ false) → H ++ closing_below those H n ≡ H
closing-none those H zero none = append-nil H
closing-none those H (suc n) none =
    subst (λ k. H ++ closing_below those H k ≡ H) (add-one n)
    (closing-ended those H n (and_right _ _ (none n (omega arith))) ∙ closing-none those H n (λ t low. none t (omega (arith, low))))

-- so a store is as it was where the rows of those below n say that they ended
pub closed-none : RowsSayWhoIsOpen → (those : List ℕ) (ms : List Meaning) (rows : List (Option Row)) (s : Stored) (n : ℕ)
    → IsKept (keeping ms rows) s.history → ((t : ℕ) → t < n → table.has_row rows t ≡ false) → s ≡ closed_below those s n
closed-none says those ms rows s n kept none =
    ap (λ K. record s { history = K }) (sym (closing-none those s.history n (λ t low. open-alike says ms rows s.history t kept ∙ none t low)))

-- ---- what is known meanwhile

-- one that is to be aborted is open, and none of those
pub other-is : (among going : Bool) → (not among && going) ≡ true → (among ≡ false) × (going ≡ true)
other-is false going is = (refl, is)
other-is true going is = absurd (false≢true is)

-- one that isn't is open where it was, and is one of those then
left-is : (among going : Bool) → (not among && going) ≡ false → going ≡ (among && going)
left-is false going is = is
left-is true going is = refl

-- K goes on from H: it is a run in which of those below n the open ones are those that were and are not to be aborted, the others are open where
-- they were, and each was begun by the same worker
pub record IsClosedBelow (those : List ℕ) (objects : List Object) (H K : List Event) (n : ℕ) : Type 0 where
  pub run : IsRun objects K
  pub began : beginners K ≡ beginners H
  pub closed : (t : ℕ) → t < n → is_open (summary K) t ≡ (is_among those t && is_open (summary H) t)
  pub others : (t : ℕ) → n ≤ t → is_open (summary K) t ≡ is_open (summary H) t

module _ (goes_on : RunGoesOn) (now : SummaryAfter) (in_run : TransactionsInRun) (opens : OpensAfter) (began : BeginnersAfter)
    (those : List ℕ) (objects : List Object) (H : List Event) (run : IsRun objects H) where
  -- where the next is to be aborted, with its abort
  closed-opened : (K : List Event) (n : ℕ) → IsClosedBelow those objects H K n → is_other those (summary H) n ≡ true
      → IsClosedBelow those objects H (K ++ closing_abort H n ∷ []) (n + 1)
  closed-opened K n below is_one =
      let its = other-is (is_among those n) (is_open (summary H) n) is_one in
      let may : is_open (summary K) n ≡ true = below.others n (omega arith) ∙ its.1 in
      let who : (t : ℕ) → is_open (summary (K ++ closing_abort H n ∷ [])) t ≡ (not (t == n) && is_open (summary K) t) =
      λ t. ap (λ s. is_open s t) (now K (closing_abort H n)) ∙ (opens objects (summary K) (Abort n) (in_run objects K below.run) may).0 t
      in
      record {
        run = goes_on objects K (closing_abort H n) below.run may;
        began = (began K).1 (closing_abort H n) ∙ append-nil (beginners K) ∙ below.began;
        closed = λ t low.
            who t
            ∙ elim (cases_eq t n) [
              | inl same ↦ and_left _ _ (not_from_true _ (eq-eqb t n same)) ∙ sym (and_left _ _ (ap (is_among those) same ∙ its.0))
              | inr other ↦ ap (λ b. not b && is_open (summary K) t) (ne_eqb t n other) ∙ below.closed t (omega (arith, low, other))
            ];
        others = λ t past.
            who t ∙ ap (λ b. not b && is_open (summary K) t) (ne_eqb t n (λ same. omega (arith, past, same))) ∙ below.others t (omega (arith, past));
      }

  -- where it isn't, as it is
  closed-ended : (K : List Event) (n : ℕ) → IsClosedBelow those objects H K n → is_other those (summary H) n ≡ false → IsClosedBelow those objects H K (n + 1)
  closed-ended K n below ended =
      record {
        run = below.run;
        began = below.began;
        closed = λ t low.
            elim (cases_eq t n) [
              | inl same ↦
                  ap (is_open (summary K)) same ∙ below.others n (omega arith) ∙ left-is (is_among those n) (is_open (summary H) n) ended
                  ∙ ap (λ u. is_among those u && is_open (summary H) u) (sym same)
              | inr other ↦ below.closed t (omega (arith, low, other))
            ];
        others = λ t past. below.others t (omega (arith, past));
      }

  -- so it is known at each number
  pub closed-each : (n : ℕ) → IsClosedBelow those objects H (H ++ closing_below those H n) n
  closed-each zero =
      subst (λ K. IsClosedBelow those objects H K 0) (sym (append-nil H))
      (record { run = run; began = refl; closed = λ t low. absurd (omega (arith, low)); others = λ t past. refl })
  closed-each (suc n) =
      let below = closed-each n in
      subst (λ k. IsClosedBelow those objects H (H ++ closing_below those H k) k) (add-one n)
      (elim (cases_Bool (is_other those (summary H) n)) [
        | inl going ↦
            subst (λ K. IsClosedBelow those objects H K (n + 1)) (sym (closing-opened those H n going)) (closed-opened (H ++ closing_below those H n) n below going)
        | inr ended ↦
            subst (λ K. IsClosedBelow those objects H K (n + 1)) (sym (closing-ended those H n ended)) (closed-ended (H ++ closing_below those H n) n below ended)
      ])

-- ---- a turn

-- a turn leaves the store with the aborts of one more number
turn : (those : List ℕ) (objects : List Object) (s new : Stored) (n : ℕ) → IsClosedBelow those objects s.history (s.history ++ closing_below those s.history n) n
    → (is_other those (summary (closed_below those s n).history) n ≡ true → new ≡ aborted_once (closed_below those s n) n)
    → (is_other those (summary (closed_below those s n).history) n ≡ false → new ≡ closed_below those s n) → new ≡ closed_below those s (n + 1)
turn those objects s new n below aborts stays =
    let same : is_other those (summary (closed_below those s n).history) n ≡ is_other those (summary s.history) n =
    ap (λ b. not (is_among those n) && b) (below.others n (omega arith)) in
    elim (cases_Bool (is_other those (summary s.history) n)) [
      | inl going ↦
          aborts (same ∙ going)
          ∙ ap (λ ws. record s { history = (s.history ++ closing_below those s.history n) ++ (record { worker = slice_index_or ws n 0; kind = Abort n }) ∷ [] }) below.began
          ∙ ap (λ K. record s { history = K }) (sym (closing-opened those s.history n going))
      | inr ended ↦ stays (same ∙ ended) ∙ ap (λ K. record s { history = K }) (sym (closing-ended those s.history n ended))
    ]

-- and so of the store as the turn finds it
pub next-turn : (those : List ℕ) (objects : List Object) (s old new : Stored) (n : ℕ)
    → IsClosedBelow those objects s.history (s.history ++ closing_below those s.history n) n → old ≡ closed_below those s n
    → (is_other those (summary old.history) n ≡ true → new ≡ aborted_once old n) → (is_other those (summary old.history) n ≡ false → new ≡ old)
    → new ≡ closed_below those s (n + 1)
next-turn those objects s old new n below is aborts stays =
    subst (λ z. (is_other those (summary z.history) n ≡ true → new ≡ aborted_once z n) → (is_other those (summary z.history) n ≡ false → new ≡ z)
    → new ≡ closed_below those s (n + 1)) (sym is)
    (turn those objects s new n below) aborts stays

-- ---- the end

-- what is known when each transaction was met: the history goes on by the aborts of all that were open, but of those, and those are open yet
pub record IsClosed (those : List ℕ) (s : Stored) (K : List Event) : Type 0 where
  pub whole : K ≡ s.history ++ closing_but those s.history
  pub run : IsRun (objects s) K
  pub left : (t : ℕ) → is_open (summary K) t ≡ (is_among those t && is_open (summary s.history) t)

-- those are open where each was met
left-open : (those : List ℕ) (objects : List Object) (H K : List Event) → IsClosedBelow those objects H K (summary H).begun
    → (t : ℕ) → is_open (summary K) t ≡ (is_among those t && is_open (summary H) t)
left-open those objects H K below t =
    elim (cases_lt t (summary H).begun) [
      | inl low ↦ below.closed t low
      | inr past ↦
          let none : is_open (summary H) t ≡ false = and_left _ _ (le-ltb t (summary H).begun past) in
          below.others t past ∙ none ∙ sym (and_right _ _ none)
    ]

-- that is known after as many turns as there are rows
pub closed-all : RunGoesOn → SummaryAfter → TransactionsInRun → OpensAfter → BeginnersAfter → (those : List ℕ) (s : Stored) (k : Keeping) (K : List Event) (n : ℕ)
    → IsKept k s.history → IsRun (objects s) s.history → n ≡ length k.rows → K ≡ s.history ++ closing_below those s.history n → IsClosed those s K
closed-all goes_on now in_run opens began those s k K n kept run many is =
    let whole : K ≡ s.history ++ closing_but those s.history = is ∙ ap (λ i. s.history ++ closing_below those s.history i) (many ∙ kept.begun) in
    let below = closed-each goes_on now in_run opens began those (objects s) s.history run (summary s.history).begun in
    subst (λ J. IsClosed those s J) (sym whole)
    (record { whole = refl; run = below.run; left = left-open those (objects s) s.history (s.history ++ closing_but those s.history) below })

-- and of a store as it is, where the rows of all say that they ended
pub closed-already : RunGoesOn → SummaryAfter → TransactionsInRun → OpensAfter → BeginnersAfter → RowsSayWhoIsOpen → (ms : List Meaning)
    (rows : List (Option Row)) (K : List Event) (limits : Limits) (forgotten n : ℕ) (s : Stored) → shown (keeping ms rows) K limits forgotten ≡ s → IsKept (keeping ms rows) K
    → n ≡ length rows → ((t : ℕ) → t < n → table.has_row rows t ≡ false) → IsClosed [] s s.history
closed-already goes_on now in_run opens began says ms rows K limits forgotten n s same its many ended =
    let k = keeping ms rows in
    let kept = kept-shown k K limits forgotten s same its in
    closed-all goes_on now in_run opens began [] s k s.history n kept (run-shown k K limits forgotten s same its) many
    (ap (λ (z : Stored). z.history) (closed-none says [] ms rows s n kept ended))

-- where none is open, each object is handed out with no open entry
pub handed-out : IdleIsClosed → (ms : List Meaning) (rows : List (Option Row)) (K : List Event) → IsKept (keeping ms rows) K
    → ((t : ℕ) → is_open (summary K) t ≡ false) → (x : ℕ) (m : Meaning) → slice_get ms x ≡ Some m → IsHandedOut m x K
handed-out closed ms rows K kept none x m there =
    let its = kept.objects x m there in
    record { object = its; closed = closed (objects_of ms) m x K kept.run its.represents (none-idle K x none) }
