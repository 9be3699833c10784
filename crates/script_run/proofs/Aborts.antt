-- The aborts of open transactions, one after another.
use Rattle.std.proofs.Common.{◌≡◌, if◌then◌else◌, ℕ, zero, suc, ◌+◌, ◌<◌, ◌≤◌, ◌==◌, true, false, not, ◌&&◌, cond, List, [], ◌∷◌, ◌++◌, map, filter, take, drop, inl, inr, Option, Some, None, is_some, Result, Ok, Err, refl, sym, ap, ◌∙◌, subst, append_assoc, append-nil, add-one, arith}
use Rattle.std.specs.List.{range_with_len}
use Rattle.std.proofs.lemmas.Bool.{cases_Bool, cases_eq, cases_lt, le-ltb, ne_eqb, and_left, not_from_true, eq-eqb}
use Rattle.std.proofs.lemmas.List.{map-id, take-append-drop}
use Rattle.std.proofs.lemmas.List.Elements.{filter-append}
use Rattle.std.proofs.lemmas.List.FromFn.{take-map-range_with_len}
use Rattle.std.proofs.lemmas.Option.{none-some}
use Rattle.type_table.proofs.Elements.{range-more}
use Rattle.object_trait.specs.Object.{Object}
use Rattle.object_trait.specs.declared.event.Event.{Event}
use Rattle.object_trait.specs.declared.event.EventKind.TheVariants.{Abort}
use Rattle.outputs.specs.declared.out.OutFault.{OutFault}
use Rattle.serial_order.specs.After.{SummaryAfter, TransactionsInRun, OpensAfter}
use Rattle.serial_order.specs.History.{summary, is_open}
use Rattle.serial_order.specs.Laws.{RunGoesOn}
use Rattle.serial_order.specs.Machine.{IsRun}
use Rattle.serial_order.specs.declared.command.Command.TheVariants as command
use Rattle.serial_order.specs.declared.refusal.Refusal.TheVariants.{NotOpen}
use Rattle.store_laws.specs.Stored.{Stored, refusal_of, stored_after}
use Rattle.script_run.specs.Turns.{history_after, by_script, event_turn, open_in, abort_turns, closing_turns}
use Rattle.script_run.specs.Runs.{Writes}
use Rattle.script_run.specs.Laws.{EachAborted}
use Rattle.script_run.proofs.Turns.{history_after-append, history_at, join, stop, history_now}

-- ---- the turns of aborts

-- of two lists of transactions
pub abort_turns-append : (H : List Event) (ts us : List ℕ) → abort_turns H (ts ++ us) ≡ abort_turns H ts ++ abort_turns (history_after H (abort_turns H ts)) us
abort_turns-append H [] us = refl
abort_turns-append H (t ∷ ts) us = ap (λ turns. event_turn H (Abort t) ∷ turns) (abort_turns-append (H ++ by_script (Abort t) ∷ []) ts us)

-- they append an abort of each
pub aborts-appended : (H : List Event) (ts : List ℕ) → history_after H (abort_turns H ts) ≡ H ++ map (λ t. by_script (Abort t)) ts
aborts-appended H [] = sym (append-nil H)
aborts-appended H (t ∷ ts) =
    aborts-appended (H ++ by_script (Abort t) ∷ []) ts ∙ append_assoc H (by_script (Abort t) ∷ []) (map (λ u. by_script (Abort u)) ts)

-- the first turns are those of the first transactions
first-aborts : (H : List Event) (ts : List ℕ) (n : ℕ) → take n (abort_turns H ts) ≡ abort_turns H (take n ts)
first-aborts H [] zero = refl
first-aborts H [] (suc n) = refl
first-aborts H (t ∷ ts) zero = refl
first-aborts H (t ∷ ts) (suc n) = ap (λ turns. event_turn H (Abort t) ∷ turns) (first-aborts (H ++ by_script (Abort t) ∷ []) ts n)

-- so at each turn there is its own abort, after those before it
pub closing-aborts : EachAborted
closing-aborts = λ H i turn at.
    history_at H (closing_turns H) i turn at ∙ ap (history_after H) (first-aborts H (open_in H) (suc i)) ∙ aborts-appended H (take (suc i) (open_in H))

-- ---- the open transactions below a number

abbrev pub open_below : List Event → ℕ → List ℕ
open_below H n = filter (is_open (summary H)) (range_with_len 0 n)

open-more : (H : List Event) (n : ℕ) → open_below H (n + 1) ≡ open_below H n ++ filter (is_open (summary H)) (n ∷ [])
open-more H n = ap (filter (is_open (summary H))) (range-more n) ∙ filter-append (is_open (summary H)) (range_with_len 0 n) (n ∷ [])

-- the first numbers below another
range-first : (n most : ℕ) → n ≤ most → range_with_len 0 most ≡ range_with_len 0 n ++ drop n (range_with_len 0 most)
range-first n most low =
    let front : take n (range_with_len 0 most) ≡ range_with_len 0 n =
    ap (take n) (sym (map-id (range_with_len 0 most))) ∙ take-map-range_with_len (λ x. x) 0 most n low ∙ map-id (range_with_len 0 n)
    in
    sym (take-append-drop n (range_with_len 0 most)) ∙ ap (λ l. l ++ drop n (range_with_len 0 most)) front

open-first : (H : List Event) (n most : ℕ) → n ≤ most → open_below H most ≡ open_below H n ++ filter (is_open (summary H)) (drop n (range_with_len 0 most))
open-first H n most low = ap (filter (is_open (summary H))) (range-first n most low) ∙ filter-append (is_open (summary H)) (range_with_len 0 n) (drop n (range_with_len 0 most))

-- ---- who stays open

-- the open transactions from n on are those of another history
abbrev pub OpenAlikeFrom : ℕ → List Event → List Event → Type 0
OpenAlikeFrom n K H = (u : ℕ) → n ≤ u → is_open (summary K) u ≡ is_open (summary H) u

-- the history after t's turn: with an abort where it is open, else as it is
abbrev pub met : List Event → ℕ → List Event
met K t = history_after K (abort_turns K (filter (is_open (summary K)) (t ∷ [])))

met-open : (K : List Event) (t : ℕ) → is_open (summary K) t ≡ true → met K t ≡ K ++ by_script (Abort t) ∷ []
met-open K t going = ap (λ b. history_after K (abort_turns K (cond b (t ∷ []) []))) going

met-ended : (K : List Event) (t : ℕ) → is_open (summary K) t ≡ false → met K t ≡ K
met-ended K t ended = ap (λ b. history_after K (abort_turns K (cond b (t ∷ []) []))) ended

module _ (now : SummaryAfter) (in_run : TransactionsInRun) (opens : OpensAfter) where
  -- who is open after an abort
  open-after : (objects : List Object) (K : List Event) (t u : ℕ) → IsRun objects K → is_open (summary K) t ≡ true
      → is_open (summary (K ++ by_script (Abort t) ∷ [])) u ≡ (not (u == t) && is_open (summary K) u)
  open-after objects K t u run going =
      ap (λ s. is_open s u) (now K (by_script (Abort t))) ∙ (opens objects (summary K) (Abort t) (in_run objects K run) going).0 u

  -- after t's turn t isn't open
  pub met-closed : (objects : List Object) (K : List Event) (t : ℕ) → IsRun objects K → is_open (summary (met K t)) t ≡ false
  met-closed objects K t run =
      elim (cases_Bool (is_open (summary K) t)) [
        | inl going ↦
            ap (λ J. is_open (summary J) t) (met-open K t going) ∙ open-after objects K t t run going
            ∙ and_left _ _ (not_from_true _ (eq-eqb t t refl))
        | inr ended ↦ ap (λ J. is_open (summary J) t) (met-ended K t ended) ∙ ended
      ]

  -- others stay as they are
  pub met-others : (objects : List Object) (K : List Event) (t u : ℕ) → IsRun objects K → (u ≡ t → ⊥) → is_open (summary (met K t)) u ≡ is_open (summary K) u
  met-others objects K t u run other =
      elim (cases_Bool (is_open (summary K) t)) [
        | inl going ↦
            ap (λ J. is_open (summary J) u) (met-open K t going) ∙ open-after objects K t u run going
            ∙ ap (λ b. not b && is_open (summary K) u) (ne_eqb u t other)
        | inr ended ↦ ap (λ J. is_open (summary J) u) (met-ended K t ended)
      ]

-- ---- one turn more

-- what is known when those below n were met
pub record AreMet (s : Stored) (n : ℕ) (before after : Option (List ℕ)) (fault : Option OutFault) (new : Stored) : Type 0 where
  pub writes : Writes s (abort_turns s.history (open_below s.history n)) before after fault new (Ok tt)
  pub others : OpenAlikeFrom n new.history s.history

-- before the first
pub none-met : (s : Stored) (a : Option (List ℕ)) {f : Option OutFault} → Writes s [] a a f s (Ok tt) → AreMet s 0 a a f s
none-met s a p = record { writes = p; others = λ u high. refl }

-- the turns with that of n
with_next : (s old new : Stored) (n : ℕ) {a b c : Option (List ℕ)} {f g : Option OutFault} {result : Result (Unit {0}) OutFault} → AreMet s n a b f old
    → Writes old (abort_turns old.history (filter (is_open (summary old.history)) (n ∷ []))) b c g new result
    → Writes s (abort_turns s.history (open_below s.history (n + 1))) a c g new result
with_next s old new n {a = a} {b = b} {c = c} {g = g} {result = result} so_far one =
    let H = s.history in
    let front = abort_turns H (open_below H n) in
    let here = filter (is_open (summary H)) (n ∷ []) in
    let its : filter (is_open (summary old.history)) (n ∷ []) ≡ here = ap (λ b. cond b (n ∷ []) []) (so_far.others n (omega arith)) in
    let K : old.history ≡ history_after H front = ap (λ (z : Stored). z.history) (history_now s old front so_far.writes) in
    let turns : abort_turns old.history (filter (is_open (summary old.history)) (n ∷ [])) ≡ abort_turns (history_after H front) here =
    ap (abort_turns old.history) its ∙ ap (λ J. abort_turns J here) K
    in
    let all : front ++ abort_turns old.history (filter (is_open (summary old.history)) (n ∷ [])) ≡ abort_turns H (open_below H (n + 1)) =
    ap (λ l. front ++ l) turns ∙ sym (abort_turns-append H (open_below H n) here) ∙ ap (abort_turns H) (sym (open-more H n))
    in
    subst (λ l. Writes s l a c g new result) all (join s old new front _ so_far.writes one)

module _ (now : SummaryAfter) (in_run : TransactionsInRun) (opens : OpensAfter) (objects : List Object) where
  -- n was met
  pub met-more : (s old new : Stored) (n : ℕ) {a b c : Option (List ℕ)} {f g : Option OutFault} → IsRun objects old.history → AreMet s n a b f old
      → Writes old (abort_turns old.history (filter (is_open (summary old.history)) (n ∷ []))) b c g new (Ok tt) → AreMet s (n + 1) a c g new
  met-more s old new n run so_far one =
      let left : new.history ≡ met old.history n = ap (λ (z : Stored). z.history) (history_now old new _ one) in
      record {
        writes = with_next s old new n so_far one;
        others = λ u high.
            ap (λ J. is_open (summary J) u) left ∙ met-others now in_run opens objects old.history n u run (λ same. omega (arith, high, same))
            ∙ so_far.others u (omega (arith, high));
      }

-- the output stopped at n
pub met-stopped : (s old new : Stored) (n : ℕ) {a b c : Option (List ℕ)} {f g : Option OutFault} {e : OutFault} → n < (summary s.history).begun → AreMet s n a b f old
    → Writes old (abort_turns old.history (filter (is_open (summary old.history)) (n ∷ []))) b c g new (Err e) → Writes s (closing_turns s.history) a c g new (Err e)
met-stopped s old new n {a = a} {c = c} {g = g} {e = e} low so_far one =
    let H = s.history in
    let most = (summary H).begun in
    let rest = filter (is_open (summary H)) (drop (n + 1) (range_with_len 0 most)) in
    let all : abort_turns H (open_below H (n + 1)) ++ abort_turns (history_after H (abort_turns H (open_below H (n + 1)))) rest ≡ closing_turns H =
    sym (abort_turns-append H (open_below H (n + 1)) rest) ∙ ap (abort_turns H) (sym (open-first H (n + 1) most (omega (arith, low))))
    in
    subst (λ l. Writes s l a c g new (Err e)) all (stop s new _ _ (with_next s old new n so_far one))

-- all were met
pub met-all : (s new : Stored) (n : ℕ) {a b : Option (List ℕ)} {f : Option OutFault} → n ≡ (summary s.history).begun → AreMet s n a b f new
    → Writes s (closing_turns s.history) a b f new (Ok tt)
met-all s new n {a = a} {b = b} {f = f} e so_far = subst (λ k. Writes s (abort_turns s.history (open_below s.history k)) a b f new (Ok tt)) e so_far.writes

-- ---- one abort

-- where t was open, its abort is the event
pub aborted : (s new : Stored) (t : ℕ) {a b : Option (List ℕ)} {f : Option OutFault} {result : Result (Unit {0}) OutFault} → is_open (summary s.history) t ≡ true
    → Writes s (abort_turns s.history (t ∷ [])) a b f new result → Writes s (abort_turns s.history (filter (is_open (summary s.history)) (t ∷ []))) a b f new result
aborted s new t {a = a} {b = b} {f = f} {result = result} going p =
    subst (λ k. Writes s (abort_turns s.history (cond k (t ∷ []) [])) a b f new result) (sym going) p

-- where it wasn't, there is none
pub not_aborted : (s new : Stored) (t : ℕ) {a b : Option (List ℕ)} {f : Option OutFault} {result : Result (Unit {0}) OutFault} → is_open (summary s.history) t ≡ false
    → Writes s [] a b f new result → Writes s (abort_turns s.history (filter (is_open (summary s.history)) (t ∷ []))) a b f new result
not_aborted s new t {a = a} {b = b} {f = f} {result = result} ended p =
    subst (λ k. Writes s (abort_turns s.history (cond k (t ∷ []) [])) a b f new result) (sym ended) p

-- an abort isn't refused where the transaction is open alone
pub was_open : (s : Stored) (t : ℕ) → None ≡ refusal_of s (command.Abort t) → is_open (summary s.history) t ≡ true
was_open s t fine =
    elim (cases_Bool (is_open (summary s.history) t)) [
      | inl going ↦ going
      | inr ended ↦ absurd (none-some NotOpen (fine ∙ ap (λ b. if not b then Some NotOpen else None) ended))
    ]

-- it appends its event
pub abort-appends : (s : Stored) (t : ℕ) → is_open (summary s.history) t ≡ true
    → stored_after s 0 (command.Abort t) ≡ record s { history = s.history ++ by_script (Abort t) ∷ [] }
abort-appends s t going =
    ap (λ b. record s { history = if is_some (if not b then Some NotOpen else None) then s.history else s.history ++ by_script (Abort t) ∷ [] }) going

-- ---- none stays open

module _ (goes_on : RunGoesOn) (now : SummaryAfter) (in_run : TransactionsInRun) (opens : OpensAfter) (objects : List Object) (H : List Event) where
  -- the history when those below n were met
  abbrev met_below : ℕ → List Event
  met_below n = history_after H (abort_turns H (open_below H n))

  -- what is known of it
  record IsMetBelow (n : ℕ) : Type 0 where
    pub run : IsRun objects (met_below n)
    pub closed : (t : ℕ) → t < n → is_open (summary (met_below n)) t ≡ false
    pub others : OpenAlikeFrom n (met_below n) H

  met_below-more : (n : ℕ) → OpenAlikeFrom n (met_below n) H → met_below (n + 1) ≡ met (met_below n) n
  met_below-more n others =
      let front = abort_turns H (open_below H n) in
      let here = filter (is_open (summary H)) (n ∷ []) in
      let its : here ≡ filter (is_open (summary (met_below n))) (n ∷ []) = ap (λ b. cond b (n ∷ []) []) (sym (others n (omega arith))) in
      ap (λ ts. history_after H (abort_turns H ts)) (open-more H n) ∙ ap (history_after H) (abort_turns-append H (open_below H n) here)
      ∙ history_after-append H front (abort_turns (met_below n) here) ∙ ap (λ ts. history_after (met_below n) (abort_turns (met_below n) ts)) its

  -- an abort of an open transaction may follow
  met-run : (K : List Event) (t : ℕ) → IsRun objects K → IsRun objects (met K t)
  met-run K t run =
      elim (cases_Bool (is_open (summary K) t)) [
        | inl going ↦ subst (IsRun objects) (sym (met-open K t going)) (goes_on objects K (by_script (Abort t)) run going)
        | inr ended ↦ subst (IsRun objects) (sym (met-ended K t ended)) run
      ]

  met_below-each : IsRun objects H → (n : ℕ) → IsMetBelow n
  met_below-each run zero = record { run = run; closed = λ t low. absurd (omega (arith, low)); others = λ u high. refl }
  met_below-each run (suc n) =
      let below = met_below-each run n in
      let K = met_below n in
      let next = met_below-more n below.others in
      subst (λ k. IsMetBelow k) (add-one n)
      (record {
        run = subst (IsRun objects) (sym next) (met-run K n below.run);
        closed = λ t low.
            ap (λ J. is_open (summary J) t) next
            ∙ elim (cases_eq t n) [
              | inl same ↦ ap (is_open (summary (met K n))) same ∙ met-closed now in_run opens objects K n below.run
              | inr other ↦ met-others now in_run opens objects K n t below.run other ∙ below.closed t (omega (arith, low, other))
            ];
        others = λ u high.
            ap (λ J. is_open (summary J) u) next ∙ met-others now in_run opens objects K n u below.run (λ same. omega (arith, high, same))
            ∙ below.others u (omega (arith, high));
      })

  -- after the closing turns no transaction is open
  pub none-open : (t : ℕ) → IsRun objects H → is_open (summary (history_after H (closing_turns H))) t ≡ false
  none-open t run =
      let all = met_below-each run (summary H).begun in
      elim (cases_lt t (summary H).begun) [
        | inl low ↦ all.closed t low
        | inr past ↦ all.others t past ∙ and_left _ _ (le-ltb t (summary H).begun past)
      ]
