-- One more event of a run: what is known after it, and what it leaves to the transactions that it isn't of.
use Rattle.std.proofs.Common.{◌≡◌, ℕ, ◌≤◌, ◌==◌, nat_lt, true, false, List, [], ◌∷◌, ◌++◌, length, refl, sym, ap, ◌∙◌, subst, inl, inr}
use Rattle.std.specs.List.{Contains}
use Rattle.std.proofs.lemmas.Bool.{cases_Bool, eqb-true, le-ltb, false≢true}
use Rattle.std.proofs.Math.Bool.{or-true, and-false}
use Rattle.type_table.proofs.Elements.{differ_turned}
use Rattle.object_trait.specs.Object.{Object}
use Rattle.object_trait.specs.declared.event.Event.{Event}
use Rattle.object_trait.specs.declared.event.EventKind.{EventKind}
use Rattle.object_trait.specs.declared.event.EventKind.TheVariants as kind
use Rattle.object_trait.specs.declared.event.EventKind.TheVariants.{Begin, Op, Busy, Commit, Abort, Rollback}
use Rattle.serial_order.specs.Operations.{of}
use Rattle.serial_order.specs.History.{Summary, summary, begins, commits, surviving, is_open}
use Rattle.serial_order.specs.Machine.{May, IsRun}
use Rattle.serial_order.specs.Replay.{open_count}
use Rattle.serial_order.specs.After.{AreInRun, is_open_after, CountsTo, beginner, beginners, SummaryAfter, TransactionsInRun, OpensAfter, BeginnersAfter}
use Rattle.serial_order.specs.Held.{own_after, OwnAfter}
use Rattle.workers.specs.Events.{done_for}
use Rattle.workers.proofs.Events.{may_follow}
use Rattle.workers.proofs.Lists.{among}

-- ---- one more event

-- what is known of a run and its last event
pub record Follows (H : List Event) (e : Event) : Type 0 where
  pub in_run : AreInRun (summary H)
  pub objects : List Object
  pub may : May objects (summary H) e.kind
  pub opened : (u : ℕ) → is_open (summary (H ++ e ∷ [])) u ≡ is_open_after (summary H) e.kind u
  pub counts : CountsTo e.kind (open_count (summary H)) (open_count (summary (H ++ e ∷ [])))
  pub own : (t : ℕ) → of t (surviving (H ++ e ∷ [])) ≡ own_after t (summary H) e.kind
  pub as_many : length (beginners H) ≡ begins H
  pub began_by : beginners (H ++ e ∷ []) ≡ beginners H ++ beginner e.worker e.kind

pub follows : SummaryAfter → TransactionsInRun → OpensAfter → OwnAfter → BeginnersAfter → (objects : List Object) (H : List Event) (e : Event)
    → IsRun objects H → IsRun objects (H ++ e ∷ []) → Follows H e
follows now in_run opens own who objects H e run on =
    let known = in_run objects H run in
    let may = may_follow objects H e on in
    let after_it = opens objects (summary H) e.kind known may in
    record {
      in_run = known;
      objects = objects;
      may = may;
      opened = λ u. ap (λ s. is_open s u) (now H e) ∙ after_it.0 u;
      counts = subst (λ s. CountsTo e.kind (open_count (summary H)) (open_count s)) (sym (now H e)) after_it.1;
      own = λ t. ap (λ (s : Summary). of t s.survives) (now H e) ∙ own (summary H) e.kind t;
      as_many = (who H).0;
      began_by = (who H).1 e;
    }

-- ---- transactions that it isn't of

-- the event neither executes or strikes operations of t nor ends it
abbrev pub IsApart : ℕ → EventKind → Type 0
IsApart t (Op k u x) = (u == t) ≡ false
IsApart t (Commit u) = (u == t) ≡ false
IsApart t (Abort u) = (u == t) ≡ false
IsApart t (Rollback u n) = (u == t) ≡ false
IsApart t _ = Unit {0}

-- t's operations still survive
own-apart : (s : Summary) (t : ℕ) (happened : EventKind) → IsApart t happened → own_after t s happened ≡ of t s.survives
own-apart s t (Begin u) apart = refl
own-apart s t (Op k u x) apart = rw apart refl
own-apart s t (Busy c u x v) apart = refl
own-apart s t (kind.None u x c) apart = refl
own-apart s t (Commit u) apart = refl
own-apart s t (Abort u) apart = rw apart refl
own-apart s t (Rollback u n) apart = rw apart refl

-- t executed nothing by it
pub done_for-apart : (t : ℕ) (happened : EventKind) → IsApart t happened → done_for t happened ≡ []
done_for-apart t (Begin u) apart = refl
done_for-apart t (Op k u x) apart = rw apart refl
done_for-apart t (Busy c u x v) apart = refl
done_for-apart t (kind.None u x c) apart = refl
done_for-apart t (Commit u) apart = refl
done_for-apart t (Abort u) apart = refl
done_for-apart t (Rollback u n) apart = refl

-- where t is open, it stays so
open-apart : (s : Summary) (t : ℕ) (happened : EventKind) → IsApart t happened → is_open s t ≡ true → is_open_after s happened t ≡ true
open-apart s t (Begin u) apart now = rw now (or-true (t == u))
open-apart s t (Op k u x) apart now = now
open-apart s t (Busy c u x v) apart now = now
open-apart s t (kind.None u x c) apart now = now
open-apart s t (Commit u) apart now = rw (differ_turned t u apart, now) refl
open-apart s t (Abort u) apart now = rw (differ_turned t u apart, now) refl
open-apart s t (Rollback u n) apart now = now

-- a transaction that isn't open is none of those that are
other-open : (s : Summary) (t u : ℕ) → is_open s u ≡ true → is_open s t ≡ false → (u == t) ≡ false
other-open s t u now ended =
    elim (cases_Bool (u == t)) [
      | inl is ↦ absurd (false≢true (sym ended ∙ ap (is_open s) (sym (eqb-true u t is)) ∙ now))
      | inr other ↦ other
    ]

-- so no event that may come next is of it
closed-apart : (objects : List Object) (s : Summary) (t : ℕ) (happened : EventKind) → May objects s happened → is_open s t ≡ false → IsApart t happened
closed-apart objects s t (Begin u) may ended = tt
closed-apart objects s t (Op k u x) may ended = other-open s t u may.0 ended
closed-apart objects s t (Busy c u x v) may ended = tt
closed-apart objects s t (kind.None u x c) may ended = tt
closed-apart objects s t (Commit u) may ended = other-open s t u may ended
closed-apart objects s t (Abort u) may ended = other-open s t u may ended
closed-apart objects s t (Rollback u n) may ended = other-open s t u may.0 ended

-- ---- which transactions aren't open

-- one that committed
committed-closed : (s : Summary) (t : ℕ) → Contains s.committed t → is_open s t ≡ false
committed-closed s t inside = rw (among s.committed t inside) (and-false (nat_lt t s.begun))

-- one that hasn't begun
ahead-closed : (s : Summary) (t : ℕ) → s.begun ≤ t → is_open s t ≡ false
ahead-closed s t ahead = rw (le-ltb t s.begun ahead) refl

module _ (H : List Event) (e : Event) (last : Follows H e) where
  -- the event isn't of a transaction that committed
  pub committed-apart : (t : ℕ) → Contains (commits H) t → IsApart t e.kind
  committed-apart t inside = closed-apart last.objects (summary H) t e.kind last.may (committed-closed (summary H) t inside)

  -- nor does it execute operations of one that hadn't begun
  pub ahead-apart : (t : ℕ) → begins H ≤ t → IsApart t e.kind
  ahead-apart t ahead = closed-apart last.objects (summary H) t e.kind last.may (ahead-closed (summary H) t ahead)

  -- the operations of other transactions still survive
  pub own-stays : (t : ℕ) → IsApart t e.kind → of t (surviving (H ++ e ∷ [])) ≡ of t (surviving H)
  own-stays t apart = last.own t ∙ own-apart (summary H) t e.kind apart

  -- and they stay open
  pub open-stays : (t : ℕ) → IsApart t e.kind → is_open (summary H) t ≡ true → is_open (summary (H ++ e ∷ [])) t ≡ true
  open-stays t apart now = last.opened t ∙ open-apart (summary H) t e.kind apart now
