-- What an event leaves as it was: the operations of committed transactions, and so their places in the serial order.
use Rattle.std.proofs.Common.{◌≡◌, ℕ, suc, ◌<◌, ◌≤◌, Bool, true, false, not, ◌&&◌, ◌==◌, nat_lt, List, [], ◌∷◌, ◌++◌, length, take, Option, Some, None, slice_get, refl, sym, ap, subst, ◌∙◌, inl, inr, append-nil, append_assoc, arith}
use Rattle.std.specs.List.{AllByRecursion}
use Rattle.std.proofs.lemmas.Bool.{cases_Bool, eqb-true, false≢true}
use Rattle.std.proofs.lemmas.List.{take-append-le}
use Rattle.std.proofs.lemmas.Option.{slice_get_within}
use Rattle.type_table.specs.Table.{Table}
use Rattle.type_table.specs.Run.{run}
use Rattle.type_table.proofs.Elements.{each-append, slice_get-front, filter-turned}
use Rattle.object_trait.specs.declared.event.Event.{Event}
use Rattle.object_trait.specs.declared.event.EventKind.{EventKind}
use Rattle.object_trait.specs.declared.event.EventKind.TheVariants as kind
use Rattle.object_trait.specs.declared.event.EventKind.TheVariants.{Begin, Op, Busy, Commit, Abort, Rollback}
use Rattle.object_trait.proofs.Striking.{each-keep_first}
use Rattle.serial_order.specs.Operations.{is_among, ops, at_object, is_by, of, serial}
use Rattle.serial_order.specs.History.{Summary, summary, is_open, commits, committed_by, surviving, IsOperation, ContinuesHistory, AllContinue}
use Rattle.serial_order.specs.Serial.{surviving_at, serial_at}
use Rattle.serial_order.specs.After.{summary_next, SummaryAfter}
use Rattle.serial_order.specs.Held.{OwnAfter}
use Rattle.serial_order.specs.declared.entry.Entry.{Entry}
use Rattle.history_judge.specs.Audit.{IsIllegalAt, IsFirstIllegal, serial_up_to}
use Rattle.history_judge.specs.SerialRun.{IsSerialRunOf, RunsTo}
use Rattle.history_judge.specs.declared.serial_run.Illegal.{Illegal}
use Rattle.history_judge.specs.declared.serial_run.SerialRun.{SerialRun}
use Rattle.history_judge.proofs.Lists.{among-at, among-take, serial-same}

-- ---- one more event

-- a history goes on by an event that continues it
pub goes-more : (tables : List Table) (before H : List Event) (e : Event) → AllContinue tables before H → ContinuesHistory tables (summary (before ++ H)) e.kind → AllContinue tables before (H ++ e ∷ [])
goes-more tables before [] e goes may = (rw (append-nil before) at may, tt)
goes-more tables before (f ∷ H) e goes may =
    (goes.0, goes-more tables (before ++ f ∷ []) H e goes.1 (rw (append_assoc before (f ∷ []) H) may))

-- each operation that survives is one of an object that is there
pub there-after : (tables : List Table) (s : Summary) (happened : EventKind) → ContinuesHistory tables s happened
    → AllByRecursion (λ (e : Entry). IsOperation (slice_get tables e.at) e.op) s.survives → AllByRecursion (λ (e : Entry). IsOperation (slice_get tables e.at) e.op) (summary_next s happened).survives
there-after tables s (Begin t) may known = known
there-after tables s (Op k t x) may known = each-append (λ (e : Entry). IsOperation (slice_get tables e.at) e.op) s.survives ((record { by = t; at = x; op = k }) ∷ []) known (may.1, tt)
there-after tables s (Busy c t x u) may known = known
there-after tables s (kind.None t x c) may known = known
there-after tables s (Commit t) may known = known
there-after tables s (Abort t) may known = each-keep_first (λ (e : Entry). IsOperation (slice_get tables e.at) e.op) (is_by t) 0 s.survives known
there-after tables s (Rollback t n) may known = each-keep_first (λ (e : Entry). IsOperation (slice_get tables e.at) e.op) (is_by t) _ s.survives known

-- ---- committed transactions

-- what passes three such tests fails the second one
second-fails : (a b c : Bool) → (a && (not b && not c)) ≡ true → b ≡ false
second-fails true false c is = refl
second-fails true true c is = absurd (false≢true is)
second-fails false b c is = absurd (false≢true is)

-- an open transaction is no committed one
other-than-open : (s : Summary) (t u : ℕ) → is_open s t ≡ true → is_among s.committed u ≡ true → (t == u) ≡ false
other-than-open s t u opened committed =
    elim (cases_Bool (t == u)) [
      | inl is ↦
          let P : ℕ → Type 0 = λ v. is_among s.committed v ≡ false in
          absurd (false≢true (sym (subst P (eqb-true t u is) (second-fails (nat_lt t s.begun) (is_among s.committed t) (is_among s.aborted t) opened)) ∙ committed))
      | inr other ↦ other
    ]

-- the operations of a committed transaction are the same after any event
pub same-own : OwnAfter → (tables : List Table) (s : Summary) (happened : EventKind) (u : ℕ) → ContinuesHistory tables s happened → is_among s.committed u ≡ true → of u (summary_next s happened).survives ≡ of u s.survives
same-own own tables s (Begin t) u may committed = refl
same-own own tables s (Op k t x) u may committed = rw (other-than-open s t u may.0 committed) at (own s (Op k t x) u)
same-own own tables s (Busy c t x v) u may committed = refl
same-own own tables s (kind.None t x c) u may committed = refl
same-own own tables s (Commit t) u may committed = refl
same-own own tables s (Abort t) u may committed = rw (other-than-open s t u may committed) at (own s (Abort t) u)
same-own own tables s (Rollback t n) u may committed = rw (other-than-open s t u may.0 committed) at (own s (Rollback t n) u)

-- a commit is the last in commit order
committed-after : (s : Summary) (happened : EventKind) → (summary_next s happened).committed ≡ s.committed ++ committed_by happened
committed-after s (Begin t) = sym (append-nil s.committed)
committed-after s (Op k t x) = sym (append-nil s.committed)
committed-after s (Busy c t x u) = sym (append-nil s.committed)
committed-after s (kind.None t x c) = sym (append-nil s.committed)
committed-after s (Commit t) = refl
committed-after s (Abort t) = sym (append-nil s.committed)
committed-after s (Rollback t n) = sym (append-nil s.committed)

-- the longer history has the commits of the other one and these, and each of the other's committed transactions has the operations that it had
pub record KeepsCommitted (H K : List Event) (more : List ℕ) : Type 0 where
  pub commits_are : commits K ≡ commits H ++ more
  pub same : (x u : ℕ) → is_among (commits H) u ≡ true → of u (surviving_at x K) ≡ of u (surviving_at x H)

pub keeps-committed : SummaryAfter → OwnAfter → (tables : List Table) (H : List Event) (e : Event) → ContinuesHistory tables (summary H) e.kind → KeepsCommitted H (H ++ e ∷ []) (committed_by e.kind)
keeps-committed summary_after own tables H e may = record {
  commits_are = ap (λ (s : Summary). s.committed) (summary_after H e) ∙ committed-after (summary H) e.kind;
  same = λ x u committed.
      filter-turned (is_by u) (λ f. f.at == x) (surviving (H ++ e ∷ []))
      ∙ ap (at_object x) (ap (λ (s : Summary). of u s.survives) (summary_after H e) ∙ same-own own tables (summary H) e.kind u may committed)
      ∙ sym (filter-turned (is_by u) (λ f. f.at == x) (surviving H));
}

-- ---- places in an order

module _ (H : List Event) (ts more : List ℕ) where
  -- the first of them
  place-front : (i : ℕ) → i < length ts → slice_get (ts ++ more) i ≡ slice_get ts i
  place-front i inside = slice_get-front ts more i inside

  up_to-front : (i u x j : ℕ) → i ≤ length ts → serial_up_to H (ts ++ more) i u x j ≡ serial_up_to H ts i u x j
  up_to-front i u x j inside = ap (λ C. ops (serial C (surviving_at x H) ++ take (suc j) (of u (surviving_at x H)))) (take-append-le i ts more inside)

  -- an operation of them that isn't legal stays so with more behind them
  illegal-more : (tables : List Table) (i x j : ℕ) → IsIllegalAt tables H ts i x j → IsIllegalAt tables H (ts ++ more) i x j
  illegal-more tables i x j wrong =
      let inside = slice_get_within ts i wrong.t wrong.transaction in
      record {
        t = wrong.t;
        table = wrong.table;
        transaction = place-front i inside ∙ wrong.transaction;
        object = wrong.object;
        there = wrong.there;
        illegal = ap (run wrong.table (Some wrong.table.initial)) (up_to-front i wrong.t x j (omega (arith, inside))) ∙ wrong.illegal;
      }

  -- and was so without
  pub illegal-front : (tables : List Table) (i x j : ℕ) → i < length ts → IsIllegalAt tables H (ts ++ more) i x j → IsIllegalAt tables H ts i x j
  illegal-front tables i x j inside wrong = record {
    t = wrong.t;
    table = wrong.table;
    transaction = sym (place-front i inside) ∙ wrong.transaction;
    object = wrong.object;
    there = wrong.there;
    illegal = ap (run wrong.table (Some wrong.table.initial)) (sym (up_to-front i wrong.t x j (omega (arith, inside)))) ∙ wrong.illegal;
  }

  -- the first one stays the first
  pub first-more : (tables : List Table) (i x j : ℕ) → IsFirstIllegal tables H ts i x j → IsFirstIllegal tables H (ts ++ more) i x j
  first-more tables i x j known =
      let inside = slice_get_within ts i known.illegal.t known.illegal.transaction in
      record {
        illegal = illegal-more tables i x j known.illegal;
        first = λ k y l before wrong.
            let front : k < length ts = elim before [
              | inl less ↦ omega (arith, inside, less)
              | inr same ↦ let e = same.0 in omega (arith, inside, e)
            ] in
            known.first k y l before (illegal-front tables k y l front wrong);
      }

-- ---- the order of those that had committed, after one more event

module _ (H K : List Event) (more : List ℕ) (kept : KeepsCommitted H K more) where
  serial-kept : (x : ℕ) → serial (commits H) (surviving_at x K) ≡ serial_at x H
  serial-kept x = serial-same (commits H) (surviving_at x K) (surviving_at x H) (kept.same x)

  up_to-kept : (i u x j : ℕ) → slice_get (commits H) i ≡ Some u → serial_up_to K (commits H) i u x j ≡ serial_up_to H (commits H) i u x j
  up_to-kept i u x j at =
      ap (λ V. ops (V ++ take (suc j) (of u (surviving_at x K)))) (serial-same (take i (commits H)) (surviving_at x K) (surviving_at x H) (λ t is. kept.same x t (among-take (commits H) i t is)))
      ∙ ap (λ V. ops (serial (take i (commits H)) (surviving_at x H) ++ take (suc j) V)) (kept.same x u (among-at (commits H) i u at))

  illegal-kept : (tables : List Table) (i x j : ℕ) → IsIllegalAt tables H (commits H) i x j → IsIllegalAt tables K (commits H) i x j
  illegal-kept tables i x j wrong = record {
    t = wrong.t;
    table = wrong.table;
    transaction = wrong.transaction;
    object = wrong.object;
    there = rw (kept.same x wrong.t (among-at (commits H) i wrong.t wrong.transaction)) wrong.there;
    illegal = ap (run wrong.table (Some wrong.table.initial)) (up_to-kept i wrong.t x j wrong.transaction) ∙ wrong.illegal;
  }

  illegal-back : (tables : List Table) (i x j : ℕ) → IsIllegalAt tables K (commits H) i x j → IsIllegalAt tables H (commits H) i x j
  illegal-back tables i x j wrong = record {
    t = wrong.t;
    table = wrong.table;
    transaction = wrong.transaction;
    object = wrong.object;
    there = rw (kept.same x wrong.t (among-at (commits H) i wrong.t wrong.transaction)) at wrong.there;
    illegal = ap (run wrong.table (Some wrong.table.initial)) (sym (up_to-kept i wrong.t x j wrong.transaction)) ∙ wrong.illegal;
  }

  runs-kept : (tables : List Table) (states : List ℕ) (illegal : Option Illegal) → RunsTo tables H (commits H) states illegal → RunsTo tables K (commits H) states illegal
  runs-kept tables states None known = record {
    as_many = known.as_many;
    states = λ x T s table at. ap (λ V. run T (Some T.initial) (ops V)) (serial-kept x) ∙ known.states x T s table at;
  }
  runs-kept tables states (Some p) known = record {
    illegal = illegal-kept tables p.commit_index p.object p.op_index known.illegal;
    first = λ k y l before wrong. known.first k y l before (illegal-back tables k y l wrong);
  }

  -- they are run as they were
  pub run-kept : (tables : List Table) (r : SerialRun) → IsSerialRunOf tables H (commits H) r → IsSerialRunOf tables K (commits H) r
  run-kept tables r known = record { ready = known.ready; order = known.order; leads = runs-kept tables r.states.items r.illegal known.leads }
