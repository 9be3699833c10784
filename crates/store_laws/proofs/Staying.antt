-- What is kept goes on agreeing with the history by an event that may follow.
use Rattle.std.proofs.Common.{◌≡◌, ℕ, ◌<◌, List, [], ◌∷◌, ◌++◌, length, map, Option, Some, slice_get, sym, ap, subst}
use Rattle.std.proofs.lemmas.Option.{slice_get_within}
use Rattle.type_table.proofs.Elements.{element_at}
use Rattle.object_trait.specs.Object.{object_of}
use Rattle.object_trait.specs.Meaning.{Meaning}
use Rattle.object_trait.specs.Laws.{SoundAfterApply, SoundAfterCommit, SoundAfterStrike, CheckedIsCovered}
use Rattle.object_trait.specs.declared.event.Event.{Event}
use Rattle.serial_order.specs.History.{Summary, summary}
use Rattle.serial_order.specs.Machine.{MayFollow, IsRun}
use Rattle.serial_order.specs.Laws.{RunGoesOn, RepresentsOn, MachineMayApply}
use Rattle.serial_order.specs.After.{SummaryAfter, TransactionsInRun, OpensAfter, beginners, BeginnersAfter, LogsAreCounted}
use Rattle.serial_order.specs.Held.{OwnAfter}
use Rattle.open_transactions.specs.Transactions.{Row}
use Rattle.store_laws.specs.Kept.{Keeping, objects_of, IsObject, IsKeptRow, IsKept}
use Rattle.store_laws.specs.Moves.{Moves, StaysKept}
use Rattle.store_laws.proofs.Objects.{same-type, same-types, object-at, object-after}
use Rattle.store_laws.proofs.Rows.{IsRowOf, AreRows, rows-after}

-- ---- what each part needs

module _ (old new : Keeping) (H : List Event) (e : Event) (known : IsKept old H) (may : MayFollow (objects_of old.meanings) H e) (moves : Moves old new H e) where
  -- the objects of the machine are the same
  same-objects : objects_of new.meanings ≡ objects_of old.meanings
  same-objects =
      ap (map object_of)
      (same-types old.meanings new.meanings moves.as_many (λ x m n was is. same-type x (summary H) e.kind m n (moves.objects x m n was is)))

  run-stays : RunGoesOn → IsRun (objects_of new.meanings) (H ++ e ∷ [])
  run-stays goes_on = rw same-objects (goes_on (objects_of old.meanings) H e known.run may)

  -- each object was one before
  objects-stay : CheckedIsCovered → SoundAfterApply → SoundAfterCommit → SoundAfterStrike → RepresentsOn → MachineMayApply → LogsAreCounted → length H < 4294967295
      → (x : ℕ) (n : Meaning) → slice_get new.meanings x ≡ Some n → IsObject n x (H ++ e ∷ [])
  objects-stay covers applies commits strikes on may_apply counted short x n is =
      let low = slice_get_within new.meanings x n is in
      let was = element_at old.meanings x (subst (λ k. x < k) moves.as_many low) in
      object-after covers applies commits strikes on may_apply counted (objects_of old.meanings) H e x was.0 n known.run may short
      (object-at old.meanings x was.0 was.1) (known.objects x was.0 was.1) (moves.objects x was.0 n was.1 is)

  -- rows as they are known
  rows-known : AreRows old.rows (summary H) (beginners H)
  rows-known = record {
    begun = known.begun;
    each = λ t row there.
        let is = known.transactions t row there in
        record { going = is.going; worker = is.worker; places = is.places };
  }

  rows-stay : SummaryAfter → TransactionsInRun → OpensAfter → OwnAfter → BeginnersAfter → AreRows new.rows (summary (H ++ e ∷ [])) (beginners (H ++ e ∷ []))
  rows-stay now in_run opens own began =
      let transactions = in_run (objects_of old.meanings) H known.run in
      subst (λ (s : Summary). AreRows new.rows s (beginners (H ++ e ∷ []))) (sym (now H e))
      (rw ((began H).1 e)
      (rows-after (objects_of old.meanings) old.rows new.rows (summary H) (beginners H) e.worker e.kind rows-known transactions (began H).0 may
      (opens (objects_of old.meanings) (summary H) e.kind transactions may).0 (λ t. own (summary H) e.kind t) moves.rows))

-- ---- all of it

row-of : (row : Option Row) (t : ℕ) (H : List Event) → IsRowOf row t (summary H) (beginners H) → IsKeptRow row t H
row-of row t H is = record { going = is.going; worker = is.worker; places = is.places }

-- the law, from those on which it depends
pub stays_kept : CheckedIsCovered → SoundAfterApply → SoundAfterCommit → SoundAfterStrike → RunGoesOn → RepresentsOn → MachineMayApply → LogsAreCounted
    → SummaryAfter → TransactionsInRun → OpensAfter → OwnAfter → BeginnersAfter → StaysKept
stays_kept covers applies commits strikes goes_on on may_apply counted now in_run opens own began = λ old new H e known may moves short.
    let rows = rows-stay old new H e known may moves now in_run opens own began in
    record {
      run = run-stays old new H e known may moves goes_on;
      objects = objects-stay old new H e known may moves covers applies commits strikes on may_apply counted short;
      begun = rows.begun;
      transactions = λ t row there. row-of row t (H ++ e ∷ []) (rows.each t row there);
    }
