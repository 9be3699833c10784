-- The numbers of a run are in the ranges of a history's text.
use Rattle.std.proofs.Common.{◌≡◌, ℕ, ◌<◌, ◌≤◌, true, List, [], ◌∷◌, ◌++◌, length, Option, Some, None, IfSome, refl, arith}
use Rattle.std.specs.Prelude.{slice_get}
use Rattle.std.specs.List.{AllByRecursion}
use Rattle.std.proofs.lemmas.Bool.{and_from, le-leb, leb-true, lt-ltb}
use Rattle.type_table.specs.Operation.{amount_of, place_of}
use Rattle.object_trait.specs.Object.{Object}
use Rattle.object_trait.specs.declared.event.Event.{Event}
use Rattle.object_trait.specs.declared.event.EventKind.{EventKind}
use Rattle.object_trait.specs.declared.event.EventKind.TheVariants as kind
use Rattle.serial_order.specs.After.{AreBelow, NumbersInRun}
use Rattle.serial_order.specs.History.{Summary, summary}
use Rattle.serial_order.specs.Machine.{May, MayDo, RunsOn}
use Rattle.store_text.specs.Size.{may_have}
use Rattle.history_text.specs.Canonical.{canonical_size}
use Rattle.history_text.proofs.Sizes.{enough_objects}
use Rattle.history_text.specs.Events.{is_event_amount, is_in_range, is_object, is_operation, is_transaction, is_worker, event_line_at, line_of, op_event_line}
use Rattle.script_run.specs.Laws.{AreOpsInRange, IsOpInRange, RunIsInRange}

-- ---- operations

-- the operation of an event is in range
abbrev OpInRange : EventKind → Type 0
OpInRange (kind.Op k t x) = IsOpInRange k
OpInRange _ = Unit {0}

module _ (objects : List Object) (fit : (x : ℕ) (o : Object) → slice_get objects x ≡ Some o → AreOpsInRange o.table) where
  -- what is executed is an operation of its object
  done-in : (s : Summary) (x t k : ℕ) (o : Option Object) → slice_get objects x ≡ o → MayDo o s x t k → IsOpInRange k
  done-in s x t k None at may = absurd may
  done-in s x t k (Some o) at may = fit x o at k may.0

  op-in : (s : Summary) (happened : EventKind) → May objects s happened → OpInRange happened
  op-in s (kind.Begin t) may = tt
  op-in s (kind.Op k t x) may = done-in s x t k (slice_get objects x) refl may.1
  op-in s (kind.Busy c t x u) may = tt
  op-in s (kind.None t x c) may = tt
  op-in s (kind.Commit t) may = tt
  op-in s (kind.Abort t) may = tt
  op-in s (kind.Rollback t n) may = tt

  ops-in : (before H : List Event) → RunsOn objects before H → AllByRecursion (λ (e : Event). OpInRange e.kind) H
  ops-in before [] run = tt
  ops-in before (e ∷ H) run = (op-in (summary before) e.kind run.0, ops-in (before ++ e ∷ []) H run.1)

-- ---- events

module _ (n objects size : ℕ) (few : n ≤ 1000000) (few_objects : objects ≤ size) where
  worker-in : (w : ℕ) → w ≤ 255 → is_worker w ≡ true
  worker-in w low = le-leb w 255 low

  transaction-in : (t : ℕ) → t < n → is_transaction t ≡ true
  transaction-in t low = le-leb t 999999 (omega (arith, low, few))

  object-in : (x : ℕ) → x < objects → is_object size x ≡ true
  object-in x low = lt-ltb x size (omega (arith, low, few_objects))

  operation-in : (k : ℕ) → k < 64 → is_operation k ≡ true
  operation-in k low = le-leb k 63 (omega (arith, low))

  -- the line of an operation, with an amount or without one
  line-in : (w t x k : ℕ) (amount : Option ℕ) → w ≤ 255 → t < n → x < objects → is_operation k ≡ true → IfSome amount (λ m. is_event_amount m ≡ true)
      → is_in_range size (op_event_line w t x k amount) ≡ true
  line-in w t x k None by low there place fits = and_from _ _ (and_from _ _ (and_from _ _ (worker-in w by) (transaction-in t low)) (object-in x there)) place
  line-in w t x k (Some m) by low there place fits =
      and_from _ _ (and_from _ _ (and_from _ _ (and_from _ _ (worker-in w by) (transaction-in t low)) (object-in x there)) place) fits

  event-in : (w : ℕ) (happened : EventKind) → w ≤ 255 → AreBelow objects 64 n happened → OpInRange happened → is_in_range size (event_line_at w happened) ≡ true
  event-in w (kind.Begin t) by low op = and_from _ _ (worker-in w by) (transaction-in t low)
  event-in w (kind.Op k t x) by low op = line-in w t x (place_of k) (amount_of k) by low.0 low.1 op.place op.amount
  event-in w (kind.Busy c t x u) by low op =
      and_from _ _ (and_from _ _ (and_from _ _ (and_from _ _ (worker-in w by) (transaction-in t low.0)) (object-in x low.1)) (operation-in c low.2)) (transaction-in u low.3)
  event-in w (kind.None t x c) by low op =
      and_from _ _ (and_from _ _ (and_from _ _ (worker-in w by) (transaction-in t low.0)) (object-in x low.1)) (operation-in c low.2)
  event-in w (kind.Commit t) by low op = and_from _ _ (worker-in w by) (transaction-in t low)
  event-in w (kind.Abort t) by low op = and_from _ _ (worker-in w by) (transaction-in t low)
  event-in w (kind.Rollback t k) by low op =
      and_from _ _ (and_from _ _ (and_from _ _ (worker-in w by) (transaction-in t low.0)) (le-leb 1 k (omega (arith, low.1)))) (le-leb k 999999 (omega (arith, low.2, few)))

  events-in : (H : List Event) → AllByRecursion (λ (e : Event). e.worker ≤ 255) H → AllByRecursion (λ e. AreBelow objects 64 n e.kind) H
      → AllByRecursion (λ (e : Event). OpInRange e.kind) H → AllByRecursion (λ e. is_in_range size (line_of e) ≡ true) H
  events-in [] by low ops = tt
  events-in (e ∷ H) by low ops = (event-in e.worker e.kind by.0 low.0 ops.0, events-in H by.1 low.1 ops.1)

-- a place in its range is below 64
place-below : (k : ℕ) → is_operation k ≡ true → k < 64
place-below k h = omega (arith, leb-true k 63 h)

pub run-in_range : NumbersInRun → RunIsInRange
run-in_range numbers = λ lines objects H told.
    let low = numbers objects 64 H told.run (λ x o at k has. place-below (place_of k) (told.ops_fit x o at k has).place) in
    record {
      some_object = told.some_object;
      objects_fit = told.objects_fit;
      files_fit = told.files_fit;
      named = told.named;
      events_fit = told.events_fit;
      numbers_fit = events-in (length H) (length objects) (may_have (canonical_size lines)) told.events_fit (omega (arith, told.as_many, enough_objects lines)) H told.workers_fit low (ops-in objects told.ops_fit [] H told.run);
    }
