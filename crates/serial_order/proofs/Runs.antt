-- Runs of the machine: what is so of the empty history and stays so by each event that may follow is so of each run.
use Rattle.std.proofs.Common.{◌≡◌, ℕ, true, false, not, ◌<◌, List, [], ◌∷◌, ◌++◌, nat_lt, refl, ◌∙◌, append-nil, append_assoc, map, arith, lt-ltb}
use Rattle.std.proofs.lemmas.Bool.{false≢true, and_parts, not-true, ltb-true}
use Rattle.type_table.specs.Table.{Table}
use Rattle.type_table.proofs.Elements.{each-weaker, each-append, each-passes, eqb-sym}
use Rattle.object_trait.specs.Object.{Object}
use Rattle.object_trait.specs.declared.event.Event.{Event}
use Rattle.object_trait.specs.declared.event.EventKind.{EventKind}
use Rattle.object_trait.specs.declared.event.EventKind.TheVariants as kind
use Rattle.object_trait.specs.declared.event.EventKind.TheVariants.{Begin, Op, Busy, Commit, Abort, Rollback}
use Rattle.object_trait.proofs.Striking.{each-keep_first}
use Rattle.serial_order.specs.Operations.{is_among, is_by}
use Rattle.serial_order.specs.History.{summary, Summary, is_open, ContinuesHistory}
use Rattle.serial_order.specs.Machine.{MayFollow, RunsOn, IsRun}
use Rattle.serial_order.specs.After.{AreInRun}
use Rattle.serial_order.proofs.Strikes.{keep_first-none}
use Rattle.serial_order.proofs.Events.{summary_after, summary-snoc}
use Rattle.serial_order.proofs.ContinuesHistory.{continues_history}
use Rattle.serial_order.proofs.Lists.{is_among-apart, is_among-none_more, is_among-one_more}

-- ---- from event to event

-- what goes on from a history goes on by an event that may follow
pub runs_on-snoc : (objects : List Object) (before H : List Event) (e : Event) → RunsOn objects before H → MayFollow objects (before ++ H) e → RunsOn objects before (H ++ e ∷ [])
runs_on-snoc objects before [] e run may = (rw (append-nil before) at may, tt)
runs_on-snoc objects before (f ∷ H) e run may = (run.0, runs_on-snoc objects (before ++ f ∷ []) H e run.1 (rw (append_assoc before (f ∷ []) H) may))

-- what stays so by each event that may follow is so after each run that goes on from a run
runs_on : (objects : List Object) (P : List Event → Type 0) → ((H : List Event) (e : Event) → IsRun objects H → MayFollow objects H e → P H → P (H ++ e ∷ []))
    → (before H : List Event) → IsRun objects before → P before → RunsOn objects before H → P (before ++ H)
runs_on objects P step before [] run known on = rw (append-nil before) known
runs_on objects P step before (e ∷ H) run known on =
    rw (append_assoc before (e ∷ []) H) at (runs_on objects P step (before ++ e ∷ []) H (runs_on-snoc objects [] before e run on.0) (step before e run on.0 known) on.1)

-- what is so of the empty history, and stays so by an event that may follow a run, is so of each run
pub in_run : (objects : List Object) (P : List Event → Type 0) → P []
    → ((H : List Event) (e : Event) → IsRun objects H → MayFollow objects H e → P H → P (H ++ e ∷ []))
    → (H : List Event) → IsRun objects H → P H
in_run objects P start step H run = runs_on objects P step [] H tt start run

-- ---- open transactions

-- what is known of an open transaction
pub record IsOpenIn (s : Summary) (t : ℕ) : Type 0 where
  pub began : t < s.begun
  pub uncommitted : is_among s.committed t ≡ false
  pub kept : is_among s.aborted t ≡ false

-- an open transaction began, and neither committed nor aborted
pub of_open : (s : Summary) (t : ℕ) → is_open s t ≡ true → IsOpenIn s t
of_open s t open_now =
    let parts = and_parts (nat_lt t s.begun) _ open_now in
    let ended = and_parts (not (is_among s.committed t)) (not (is_among s.aborted t)) parts.1 in
    record {
      began = ltb-true t s.begun parts.0;
      uncommitted = not-true _ ended.0;
      kept = not-true _ ended.1;
    }

-- an operation that survives, and whose transaction didn't commit, is of an open one
pub pending_is_open : (s : Summary) (t : ℕ) → t < s.begun → is_among s.aborted t ≡ false → is_among s.committed t ≡ false → is_open s t ≡ true
pending_is_open s t began kept pending = rw (lt-ltb t s.begun began, pending, kept) refl

-- an open transaction hasn't committed
pub open_is_uncommitted : (s : Summary) (t : ℕ) → is_open s t ≡ true → is_among s.committed t ≡ false
open_is_uncommitted s t open_now = (of_open s t open_now).uncommitted

-- ---- transactions in a run

-- a begin keeps it
after_begin : (s : Summary) (t : ℕ) → AreInRun s → AreInRun (summary_after s (Begin t))
after_begin s t h = rw (append-nil s.committed, append-nil s.aborted) record {
  committed_began = λ u is. let below = h.committed_began u is in omega arith;
  aborted_began = λ u is. let below = h.aborted_began u is in omega arith;
  apart = h.apart;
  survive = each-weaker (λ e known. let below = known.0 in (omega arith, known.1)) s.survives h.survive;
}

-- an operation of an open transaction
after_op : (s : Summary) (t x k : ℕ) → is_open s t ≡ true → AreInRun s → AreInRun (summary_after s (Op k t x))
after_op s t x k open_now h = rw (append-nil s.committed, append-nil s.aborted) record {
  committed_began = h.committed_began;
  aborted_began = h.aborted_began;
  apart = h.apart;
  survive = each-append _ s.survives _ h.survive (((of_open s t open_now).began, (of_open s t open_now).kept), tt);
}

-- an event that changes nothing
after_nothing : (s : Summary) → AreInRun s → AreInRun (record s { committed = s.committed ++ []; aborted = s.aborted ++ [] })
after_nothing s h = rw (append-nil s.committed, append-nil s.aborted) h

-- the commit of an open transaction
after_commit : (s : Summary) (t : ℕ) → is_open s t ≡ true → AreInRun s → AreInRun (summary_after s (Commit t))
after_commit s t open_now h = rw (append-nil s.aborted) record {
  committed_began = λ u. is_among-one_more s.committed t u (λ v. v < s.begun) (of_open s t open_now).began (h.committed_began u);
  aborted_began = h.aborted_began;
  apart = λ u. is_among-one_more s.committed t u (λ v. is_among s.aborted v ≡ false) (of_open s t open_now).kept (h.apart u);
  survive = h.survive;
}

-- the abort of an open transaction
after_abort : (s : Summary) (t : ℕ) → is_open s t ≡ true → AreInRun s → AreInRun (summary_after s (Abort t))
after_abort s t open_now h = rw (append-nil s.committed) record {
  committed_began = h.committed_began;
  aborted_began = λ u. is_among-one_more s.aborted t u (λ v. v < s.begun) (of_open s t open_now).began (h.aborted_began u);
  apart = λ u is. is_among-none_more s.aborted t u (h.apart u is) (eqb-sym t u ∙ is_among-apart s.committed t u (of_open s t open_now).uncommitted is);
  survive = rw (keep_first-none (is_by t) s.survives)
      (each-passes _ (λ e. not (is_by t e)) s.survives
      (each-weaker (λ e known others. (known.0, is_among-none_more s.aborted t e.by known.1 (eqb-sym t e.by ∙ not-true _ others))) s.survives h.survive));
}

-- the rollback of an open transaction
after_rollback : (s : Summary) (t n : ℕ) → AreInRun s → AreInRun (summary_after s (Rollback t n))
after_rollback s t n h = rw (append-nil s.committed, append-nil s.aborted) record {
  committed_began = h.committed_began;
  aborted_began = h.aborted_began;
  apart = h.apart;
  survive = each-keep_first _ (is_by t) _ s.survives h.survive;
}

-- each event that continues the history keeps it
pub after_event : (tables : List Table) (s : Summary) (happened : EventKind) → ContinuesHistory tables s happened → AreInRun s → AreInRun (summary_after s happened)
after_event tables s (Begin t) may h = after_begin s t h
after_event tables s (Op k t x) may h = after_op s t x k may.0 h
after_event tables s (Busy c t x u) may h = after_nothing s h
after_event tables s (kind.None t x c) may h = after_nothing s h
after_event tables s (Commit t) may h = after_commit s t may h
after_event tables s (Abort t) may h = after_abort s t may h
after_event tables s (Rollback t n) may h = after_rollback s t n h

-- it is so of the empty history
at_start : AreInRun (summary [])
at_start = record {
  committed_began = λ t is. absurd (false≢true is);
  aborted_began = λ t is. absurd (false≢true is);
  apart = λ t is. refl;
  survive = tt;
}

-- and so of each run
pub transactions_in_run : (objects : List Object) (H : List Event) → IsRun objects H → AreInRun (summary H)
transactions_in_run objects = in_run objects (λ H. AreInRun (summary H)) at_start (λ H e run may known. rw (summary-snoc H e) (after_event (map (λ (o : Object). o.table) objects) (summary H) e.kind (continues_history objects (summary H) e.kind may) known))
