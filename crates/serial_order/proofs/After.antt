-- What a history says after one more event.
use Rattle.std.proofs.Common.{◌≡◌, ℕ, suc, ◌<◌, Bool, true, false, not, ◌&&◌, ◌||◌, ◌==◌, nat_lt, List, [], ◌∷◌, ◌++◌, map, refl, sym, ap, ◌∙◌, inl, inr, append-nil, arith}
use Rattle.std.proofs.lemmas.Bool.{cases_Bool, eqb-true}
use Rattle.std.proofs.lemmas.Bool.Decides.{nat_tests}
use Rattle.type_table.specs.Table.{Table}
use Rattle.type_table.proofs.Elements.{eqb-sym}
use Rattle.object_trait.specs.Object.{Object}
use Rattle.object_trait.specs.declared.event.EventKind.{EventKind}
use Rattle.object_trait.specs.declared.event.EventKind.TheVariants as kind
use Rattle.object_trait.specs.declared.event.EventKind.TheVariants.{Begin, Op, Busy, Commit, Abort, Rollback}
use Rattle.serial_order.specs.Operations.{is_among}
use Rattle.serial_order.specs.History.{Summary, is_open, ContinuesHistory}
use Rattle.serial_order.specs.Machine.{May}
use Rattle.serial_order.specs.After.{summary_next, SummaryAfter, AreInRun, TransactionsInRun, is_open_after, HistoryOpensAfter}
use Rattle.serial_order.proofs.Events.{summary_after, summary-snoc}
use Rattle.serial_order.proofs.Lists.{is_among-snoc}
use Rattle.serial_order.proofs.ContinuesHistory.{continues_history}
use Rattle.serial_order.proofs.Runs.{after_event, transactions_in_run}

-- the kind of an event says what is seen after it
of_kind : (s : Summary) (happened : EventKind) → summary_after s happened ≡ summary_next s happened
of_kind s (Begin t) = rw (append-nil s.committed, append-nil s.aborted) refl
of_kind s (Op k t x) = rw (append-nil s.committed, append-nil s.aborted) refl
of_kind s (Busy c t x u) = rw (append-nil s.committed, append-nil s.aborted) refl
of_kind s (kind.None t x c) = rw (append-nil s.committed, append-nil s.aborted) refl
of_kind s (Commit t) = rw (append-nil s.aborted) refl
of_kind s (Abort t) = rw (append-nil s.committed) refl
of_kind s (Rollback t n) = rw (append-nil s.committed, append-nil s.aborted) refl

pub seen_after_one : SummaryAfter
seen_after_one = λ H e. summary-snoc H e ∙ of_kind _ e.kind

pub are_in_run : TransactionsInRun
are_in_run = transactions_in_run

-- ---- who is open

-- the next number is none of some that are all less
pub fresh_among : (ts : List ℕ) (n : ℕ) → ((t : ℕ) → is_among ts t ≡ true → t < n) → is_among ts n ≡ false
fresh_among ts n less =
    elim (cases_Bool (is_among ts n)) [
      | inl inside ↦ let below = less n inside in absurd (omega (arith, below))
      | inr outside ↦ outside
    ]

-- a begin
open-begin : (s : Summary) (u : ℕ) → AreInRun s → is_open (record s { begun = suc s.begun }) u ≡ (u == s.begun || is_open s u)
open-begin s u known =
    elim (cases_Bool (u == s.begun)) [
      | inl is ↦
          rw (is, eqb-true u s.begun is, fresh_among s.committed s.begun known.committed_began, fresh_among s.aborted s.begun known.aborted_began)
          (grind (arith, nat_tests))
      | inr other ↦ rw other (ap (λ b. b && (not (is_among s.committed u) && not (is_among s.aborted u))) (below other))
    ]
  where
    below : (u == s.begun) ≡ false → nat_lt u (suc s.begun) ≡ nat_lt u s.begun
    below other = grind (arith, nat_tests, other)

-- what is left of three tests where one is joined by a fourth
pick-first : (a b c d : Bool) → (a && (not (b || d) && not c)) ≡ (not d && (a && (not b && not c)))
pick-first true true c true = refl
pick-first true true c false = refl
pick-first true false true true = refl
pick-first true false true false = refl
pick-first true false false true = refl
pick-first true false false false = refl
pick-first false b c true = refl
pick-first false b c false = refl

pick-second : (a b c d : Bool) → (a && (not b && not (c || d))) ≡ (not d && (a && (not b && not c)))
pick-second true true c true = refl
pick-second true true c false = refl
pick-second true false true true = refl
pick-second true false true false = refl
pick-second true false false true = refl
pick-second true false false false = refl
pick-second false b c true = refl
pick-second false b c false = refl

-- a commit
open-commit : (s : Summary) (t u : ℕ) → is_open (record s { committed = s.committed ++ t ∷ [] }) u ≡ (not (u == t) && is_open s u)
open-commit s t u =
    rw (is_among-snoc s.committed t u, eqb-sym t u) (pick-first (nat_lt u s.begun) (is_among s.committed u) (is_among s.aborted u) (u == t))

-- an abort
open-abort : (s : Summary) (t u : ℕ) → is_open (summary_next s (Abort t)) u ≡ (not (u == t) && is_open s u)
open-abort s t u =
    rw (is_among-snoc s.aborted t u, eqb-sym t u) (pick-second (nat_lt u s.begun) (is_among s.committed u) (is_among s.aborted u) (u == t))

-- any event that continues the history
open-continues : (tables : List Table) (s : Summary) (happened : EventKind) → AreInRun s → ContinuesHistory tables s happened → (u : ℕ) → is_open (summary_next s happened) u ≡ is_open_after s happened u
open-continues tables s (Begin t) known may u = rw may (open-begin s u known)
open-continues tables s (Op k t x) known may u = refl
open-continues tables s (Busy c t x v) known may u = refl
open-continues tables s (kind.None t x c) known may u = refl
open-continues tables s (Commit t) known may u = open-commit s t u
open-continues tables s (Abort t) known may u = open-abort s t u
open-continues tables s (Rollback t n) known may u = refl

-- any event that the machine allows
pub open-after : (objects : List Object) (s : Summary) (happened : EventKind) → AreInRun s → May objects s happened → (u : ℕ) → is_open (summary_next s happened) u ≡ is_open_after s happened u
open-after objects s happened known may = open-continues (map (λ (o : Object). o.table) objects) s happened known (continues_history objects s happened may)

pub history_opens_after : HistoryOpensAfter
history_opens_after = λ tables s happened known may. (rw (sym (of_kind s happened)) (after_event tables s happened may known), open-continues tables s happened known may)
