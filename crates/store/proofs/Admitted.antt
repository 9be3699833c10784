-- An object admits an operation where the machine does.
use Rattle.std.proofs.Common.{◌≡◌, ◌↔◌, ℕ, Bool, true, false, ◌&&◌, nat_lt, List, [], ◌∷◌, length, map, get_or, Option, Some, None, slice_get, refl, sym, ap, subst, ◌∙◌}
use Rattle.std.specs.List.{AllByRecursion}
use Rattle.std.specs.Option.{MatchOption, option_map}
use Rattle.std.proofs.lemmas.Bool.{ltb-true}
use Rattle.std.proofs.lemmas.Option.{none-some}
use Rattle.store_limits.specs.declared.limits.Limits.{Limits}
use Rattle.object_trait.specs.Object.{Object}
use Rattle.object_trait.specs.Meaning.{Meaning, object}
use Rattle.object_trait.specs.Steps.{stopper}
use Rattle.object_trait.specs.declared.event.Event.{Event}
use Rattle.open_transactions.specs.Transactions.{Row}
use Rattle.serial_order.specs.Operations.{at_object}
use Rattle.serial_order.specs.History.{summary, is_open}
use Rattle.serial_order.specs.View.{conflicts_with, is_alone}
use Rattle.serial_order.specs.Machine.{IsRun, MayDo}
use Rattle.serial_order.specs.Laws.{AllowsAlike, StopperIsBlocker}
use Rattle.serial_order.specs.Represent.{Represents}
use Rattle.serial_order.specs.Answer.{blocker, earliest, earliest_rather}
use Rattle.serial_order.specs.declared.entry.Entry.{Entry}
use Rattle.serial_order.proofs.Answers.{IsFound, rather-found}
use Rattle.store_laws.specs.Stored.{Stored, objects}
use Rattle.store_laws.specs.Kept.{IsKept, keeping, objects_of}
use Rattle.store.specs.Retraces.{IsAdmitted}
use Rattle.store.proofs.Beginnings.{image-in}
use Rattle.store.proofs.OpCalls.{object-found, object-missed}
use Rattle.store.proofs.Stored.{shown}

-- ---- who keeps from an operation

and-false : (a b : Bool) → b ≡ false → (a && b) ≡ false
and-false true b is = is
and-false false b is = refl

earliest-none : (test : Entry → Bool) (V : List Entry) → AllByRecursion (λ e. test e ≡ false) V → earliest test V ≡ None
earliest-none test [] all = refl
earliest-none test (e ∷ V) all = rw (all.0) (earliest-none test V all.1)

both-none : (rather test : Entry → Bool) (V : List Entry) → AllByRecursion (λ e. test e ≡ false) V → earliest (λ e. rather e && test e) V ≡ None
both-none rather test [] all = refl
both-none rather test (e ∷ V) all = rw (and-false (rather e) (test e) all.0) (both-none rather test V all.1)

rather-none : (rather test : Entry → Bool) (V : List Entry) → AllByRecursion (λ e. test e ≡ false) V → earliest_rather rather test V ≡ None
rather-none rather test V all = rw (both-none rather test V all, earliest-none test V all) refl

-- ---- what is admitted

module _ (alike : AllowsAlike) (stops : StopperIsBlocker) (os : List Object) (H : List Event) (m : Meaning) (x t k : ℕ) (run : IsRun os H) (going : is_open (summary H) t ≡ true)
    (represents : Represents m x H) where
  abbrev IsUnblocked : Type 0
  IsUnblocked = AllByRecursion (λ e. conflicts_with (object m) (summary H) x t k e ≡ false) (at_object x (summary H).survives)

  unblocked : stopper m t k ≡ None → IsUnblocked
  unblocked nobody = by (blocker (object m) (summary H) x t k) (rather-found (is_alone (object m) (summary H) x t k) (conflicts_with (object m) (summary H) x t k) (at_object x (summary H).survives)) (stops os H x t k m run represents ∙ nobody)
    where
      by : (found : Option Entry) → MatchOption found IsUnblocked (IsFound (conflicts_with (object m) (summary H) x t k) (at_object x (summary H).survives))
          → option_map (λ (e : Entry). e.by) found ≡ None → IsUnblocked
      by None all is = all
      by (Some e) here is = absurd (none-some e.by (sym is))

  nobody : IsUnblocked → stopper m t k ≡ None
  nobody all = sym (stops os H x t k m run represents) ∙ ap (option_map (λ (e : Entry). e.by)) (rather-none (is_alone (object m) (summary H) x t k) (conflicts_with (object m) (summary H) x t k) (at_object x (summary H).survives) all)

  pub admitted-may : IsAdmitted m t k → MayDo (Some (object m)) (summary H) x t k
  admitted-may its = (its.operation, (alike m x H t k going represents).0 its.legal, unblocked its.free)

  pub may-admitted : MayDo (Some (object m)) (summary H) x t k → IsAdmitted m t k
  may-admitted may = record { operation = may.0; legal = (alike m x H t k going represents).1 may.1; free = nobody may.2 }

-- ---- as callers see it

module _ {A : Type 0} (alike : AllowsAlike) (stops : StopperIsBlocker) (meaning : A → Meaning) (items now : List A) (rows : List (Option Row)) (H : List Event) (limits : Limits)
    (forgotten : ℕ) (s : Stored) (t x k : ℕ) (same : shown (keeping (map meaning items) rows) H limits forgotten ≡ s) (read : now ≡ items) (kept : IsKept (keeping (map meaning items) rows) H)
    (going : is_open (summary s.history) t ≡ true) where
  pub admits-object : (a : A) → true ≡ nat_lt x (length now) → a ≡ get_or now x a → IsAdmitted (meaning a) t k ↔ MayDo (slice_get (objects s) x) (summary s.history) x t k
  admits-object a inside found =
      let m = meaning a in
      let there = object-found meaning items now rows H limits forgotten s x same read a inside found in
      let history : H ≡ s.history = ap (λ (z : Stored). z.history) same in
      let going' : is_open (summary H) t ≡ true = ap (λ K. is_open (summary K) t) history ∙ going in
      let represents = (kept.objects x m (image-in meaning items now x a read (ltb-true x (length now) (sym inside)) found)).represents in
      subst (λ at. IsAdmitted m t k ↔ MayDo at (summary s.history) x t k) (sym there)
      (subst (λ K. IsAdmitted m t k ↔ MayDo (Some (object m)) (summary K) x t k) history (
        admitted-may alike stops (objects_of (map meaning items)) H m x t k kept.run going' represents,
        may-admitted alike stops (objects_of (map meaning items)) H m x t k kept.run going' represents,
      ))

  pub admits-nothing : false ≡ nat_lt x (length now) → MayDo (slice_get (objects s) x) (summary s.history) x t k → ⊥
  admits-nothing outside may = subst (λ at. MayDo at (summary s.history) x t k) (object-missed meaning items now rows H limits forgotten s x same read outside) may
