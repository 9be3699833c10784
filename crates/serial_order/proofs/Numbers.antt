-- The numbers of a run's events are those of its objects, of their operations and of its transactions.
use Rattle.std.proofs.Common.{◌≡◌, ℕ, ◌+◌, ◌<◌, ◌≤◌, Bool, true, false, List, [], ◌∷◌, ◌++◌, length, Option, Some, None, slice_get, ◌==◌, refl, sym, subst, length-append, arith}
use Rattle.std.specs.List.{AllByRecursion}
use Rattle.std.proofs.lemmas.Option.{slice_get_within}
use Rattle.type_table.proofs.Elements.{each-weaker, each-append, each-filter, filter-length}
use Rattle.object_trait.specs.Object.{Object}
use Rattle.object_trait.specs.declared.event.Event.{Event}
use Rattle.object_trait.specs.declared.event.EventKind.{EventKind}
use Rattle.object_trait.specs.declared.event.EventKind.TheVariants as kind
use Rattle.object_trait.specs.declared.event.EventKind.TheVariants.{Begin, Op, Busy, Commit, Abort, Rollback}
use Rattle.serial_order.specs.Operations.{is_by}
use Rattle.serial_order.specs.History.{Summary, summary, is_begin, surviving}
use Rattle.serial_order.specs.Machine.{May, MayDo, MayBeBusy, MayHaveNone, IsRun, MayFollow}
use Rattle.type_table.specs.Operation.{place_of}
use Rattle.serial_order.specs.After.{AreInRun, AreBelow, ArePlaces, NumbersInRun}
use Rattle.serial_order.specs.declared.entry.Entry.{Entry}
use Rattle.serial_order.proofs.Events.{begun_after, begins-snoc, surviving-snoc}
use Rattle.serial_order.proofs.Pairs.{each-at}
use Rattle.serial_order.proofs.Runs.{in_run, of_open, transactions_in_run}
use Rattle.serial_order.proofs.Living.{after-length}

-- bounds may be raised
below-more : (objects ops n : ℕ) (happened : EventKind) → AreBelow objects ops n happened → AreBelow objects ops (n + 1) happened
below-more objects ops n (Begin t) h = omega (arith, h)
below-more objects ops n (Op k t x) h = (omega (arith, h.0), h.1, h.2)
below-more objects ops n (Busy c t x u) h = (omega (arith, h.0), h.1, h.2, omega (arith, h.3))
below-more objects ops n (kind.None t x c) h = (omega (arith, h.0), h.1, h.2)
below-more objects ops n (Commit t) h = omega (arith, h)
below-more objects ops n (Abort t) h = omega (arith, h)
below-more objects ops n (Rollback t m) h = (omega (arith, h.0), h.1, omega (arith, h.2))

module _ (objects : List Object) (ops : ℕ) (few : (x : ℕ) (o : Object) → slice_get objects x ≡ Some o → ArePlaces ops o.table) where
  abbrev Below : ℕ → EventKind → Type 0
  Below n happened = AreBelow (length objects) ops n happened

  -- what is asked of an object's operation is asked of one that is there
  op-below : (s : Summary) (x t k : ℕ) (o : Option Object) → slice_get objects x ≡ o → MayDo o s x t k → (x < length objects) × (place_of k < ops)
  op-below s x t k None at may = absurd may
  op-below s x t k (Some o) at may = (slice_get_within objects x o at, few x o at k may.0)

  none-below : (s : Summary) (x t c : ℕ) (o : Option Object) → slice_get objects x ≡ o → MayHaveNone o s x t c → (x < length objects) × (c < ops)
  none-below s x t c None at may = absurd may
  none-below s x t c (Some o) at may = (slice_get_within objects x o at, subst (λ place. place < ops) may.1 (few x o at may.0 may.2.0))

  -- the holder has an operation that survives, so it began
  busy-below : (s : Summary) (x t c u : ℕ) (o : Option Object) → AreInRun s → slice_get objects x ≡ o → MayBeBusy o s x t c u
      → (x < length objects) × (c < ops) × (u < s.begun)
  busy-below s x t c u None known at may = absurd may
  busy-below s x t c u (Some o) known at may =
      let lives = each-filter _ (λ (e : Entry). e.at == x) s.survives known.survive in
      let began = each-at _ _ may.2.held lives may.2.survives in
      (slice_get_within objects x o at, subst (λ place. place < ops) may.1 (few x o at may.0 may.2.least.0), subst (λ v. v < s.begun) may.2.holder began.0)

  -- an event that may come next, where no more transactions began and no more operations survive than there are events
  next-below : (s : Summary) (n : ℕ) (happened : EventKind) → AreInRun s → s.begun ≤ n → length s.survives ≤ n → May objects s happened → Below (n + 1) happened
  next-below s n (Begin t) known begun lives may = omega (arith, begun, may)
  next-below s n (Op k t x) known begun lives may =
      let there = op-below s x t k (slice_get objects x) refl may.1 in
      (omega (arith, (of_open s t may.0).began, begun), there.0, there.1)
  next-below s n (Busy c t x u) known begun lives may =
      let there = busy-below s x t c u (slice_get objects x) known refl may.1 in
      (omega (arith, (of_open s t may.0).began, begun), there.0, there.1, omega (arith, there.2, begun))
  next-below s n (kind.None t x c) known begun lives may =
      let there = none-below s x t c (slice_get objects x) refl may.1 in
      (omega (arith, (of_open s t may.0).began, begun), there.0, there.1)
  next-below s n (Commit t) known begun lives may = omega (arith, (of_open s t may).began, begun)
  next-below s n (Abort t) known begun lives may = omega (arith, (of_open s t may).began, begun)
  next-below s n (Rollback t m) known begun lives may =
      (omega (arith, (of_open s t may.0).began, begun), may.1, omega (arith, may.2, filter-length (is_by t) s.survives, lives))

  -- of a history: its events' numbers, how many transactions began, and how many operations survive
  record IsNumbered (H : List Event) : Type 0 where
    pub below : AllByRecursion (λ (e : Event). Below (length H) e.kind) H
    pub begun : (summary H).begun ≤ length H
    pub lives : length (surviving H) ≤ length H

  one-more : (H : List Event) (e : Event) → length (H ++ e ∷ []) ≡ length H + 1
  one-more H e = length-append H (e ∷ [])

  begun-more : (n : ℕ) (b : Bool) → begun_after n b ≤ n + 1
  begun-more n true = omega arith
  begun-more n false = omega arith

  numbered-next : (H : List Event) (e : Event) → IsRun objects H → MayFollow objects H e → IsNumbered H → IsNumbered (H ++ e ∷ [])
  numbered-next H e run may known =
      let more = one-more H e in
      let P : ℕ → Event → Type 0 = λ n f. Below n f.kind in
      let old = each-weaker (λ (f : Event) h. below-more (length objects) ops (length H) f.kind h) H known.below in
      let new = next-below (summary H) (length H) e.kind (transactions_in_run objects H run) known.begun known.lives may in
      record {
        below = subst (λ n. AllByRecursion (P n) (H ++ e ∷ [])) (sym more) (each-append (P (length H + 1)) H (e ∷ []) old (new, tt));
        begun = rw (begins-snoc H e) (omega (arith, more, known.begun, begun-more (summary H).begun (is_begin e.kind)));
        lives = rw (surviving-snoc H e) (omega (arith, more, known.lives, after-length (surviving H) e.kind));
      }

  pub numbers-each : (H : List Event) → IsRun objects H → AllByRecursion (λ (e : Event). Below (length H) e.kind) H
  numbers-each H run = (in_run objects IsNumbered (record { below = tt; begun = omega arith; lives = omega arith }) numbered-next H run).below

pub numbers_in_run : NumbersInRun
numbers_in_run = λ objects ops H run few. numbers-each objects ops few H run
