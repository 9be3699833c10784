-- What an event that may follow does to the objects: they have the same types, stay sound, and go on representing the history.
use Rattle.std.proofs.Common.{◌≡◌, ℕ, suc, ◌<◌, ◌==◌, List, [], ◌∷◌, ◌++◌, length, Some, option_map, slice_get, refl, sym, ap, subst, ◌∙◌, inl, inr, arith}
use Rattle.std.proofs.lemmas.Bool.{cases_Bool, eqb-true}
use Rattle.std.proofs.lemmas.Option.{slice_get-map}
use Rattle.object_trait.specs.Object.{Object, IsCovered, object_of}
use Rattle.object_trait.specs.Meaning.{Meaning, object}
use Rattle.object_trait.specs.Sound.{IsSound}
use Rattle.object_trait.specs.Steps.{MayApply}
use Rattle.object_trait.specs.Laws.{SoundAfterApply, SoundAfterCommit, SoundAfterStrike, CheckedIsCovered}
use Rattle.object_trait.specs.declared.event.Event.{Event}
use Rattle.object_trait.specs.declared.event.EventKind.{EventKind}
use Rattle.object_trait.specs.declared.event.EventKind.TheVariants as kind
use Rattle.object_trait.specs.declared.event.EventKind.TheVariants.{Begin, Op, Busy, Commit, Abort, Rollback}
use Rattle.serial_order.specs.History.{Summary, summary}
use Rattle.serial_order.specs.Machine.{May, MayFollow, IsRun}
use Rattle.serial_order.specs.Represent.{Changes}
use Rattle.serial_order.specs.After.{LogsAreCounted}
use Rattle.serial_order.specs.Laws.{RepresentsOn, MachineMayApply}
use Rattle.store_laws.specs.Stored.{types_of}
use Rattle.store_laws.specs.Kept.{objects_of, IsObject}

-- ---- types

-- an event leaves the object's type
pub same-type : (x : ℕ) (s : Summary) (happened : EventKind) (old new : Meaning) → Changes x s happened old new → new.checked ≡ old.checked
same-type x s (Begin t) old new change = ap (λ (m : Meaning). m.checked) change
same-type x s (Op k t y) old new change =
    elim (cases_Bool (y == x)) [
      | inl here ↦ ap (λ (m : Meaning). m.checked) (rw here at change)
      | inr elsewhere ↦ ap (λ (m : Meaning). m.checked) (rw elsewhere at change)
    ]
same-type x s (Busy c t y u) old new change = ap (λ (m : Meaning). m.checked) change
same-type x s (kind.None t y c) old new change = ap (λ (m : Meaning). m.checked) change
same-type x s (Commit t) old new change = change.checked
same-type x s (Abort t) old new change = change.checked
same-type x s (Rollback t n) old new change = change.checked

-- so as many objects have the same types
pub same-types : (old new : List Meaning) → length new ≡ length old
    → ((x : ℕ) (m n : Meaning) → slice_get old x ≡ Some m → slice_get new x ≡ Some n → n.checked ≡ m.checked) → types_of new ≡ types_of old
same-types [] [] as_many same = refl
same-types [] (n ∷ new) as_many same = absurd (omega (arith, as_many))
same-types (m ∷ old) [] as_many same = absurd (omega (arith, as_many))
same-types (m ∷ old) (n ∷ new) as_many same =
    let first : n.checked ≡ m.checked = same 0 m n refl refl in
    let rest : types_of new ≡ types_of old = same-types old new (omega (arith, as_many)) (λ x a b was is. same (suc x) a b was is) in
    rw (first, rest) refl

-- the object at a place is that of the meaning there
pub object-at : (ms : List Meaning) (x : ℕ) (m : Meaning) → slice_get ms x ≡ Some m → slice_get (objects_of ms) x ≡ Some (object m)
object-at ms x m there =
    slice_get-map object_of (types_of ms) x
    ∙ ap (option_map object_of) (slice_get-map (λ (m : Meaning). m.checked) ms x ∙ ap (option_map (λ (m : Meaning). m.checked)) there)

-- ---- soundness

module _ (applies : SoundAfterApply) (commits : SoundAfterCommit) (strikes : SoundAfterStrike) where
  -- an event keeps a meaning sound, where an operation of its may be executed
  sound-after : (x : ℕ) (s : Summary) (happened : EventKind) (old new : Meaning) → IsCovered (object old) → IsSound old
      → ((t k : ℕ) → happened ≡ Op k t x → MayApply old t k) → Changes x s happened old new → IsSound new
  sound-after x s (Begin t) old new covered sound may change = subst IsSound (sym change) sound
  sound-after x s (Op k t y) old new covered sound may change =
      elim (cases_Bool (y == x)) [
        | inl here ↦
            subst IsSound (sym (rw here at change))
            (applies old t k covered sound (may t k (ap (λ z. Op k t z) (eqb-true y x here))))
        | inr elsewhere ↦ subst IsSound (sym (rw elsewhere at change)) sound
      ]
  sound-after x s (Busy c t y u) old new covered sound may change = subst IsSound (sym change) sound
  sound-after x s (kind.None t y c) old new covered sound may change = subst IsSound (sym change) sound
  sound-after x s (Commit t) old new covered sound may change = commits old new t covered sound change
  sound-after x s (Abort t) old new covered sound may change = strikes old new t 0 covered sound change
  sound-after x s (Rollback t n) old new covered sound may change = strikes old new t _ covered sound change

-- ---- an object

module _ (covers : CheckedIsCovered) (applies : SoundAfterApply) (commits : SoundAfterCommit) (strikes : SoundAfterStrike) where
  module _ (on : RepresentsOn) (may_apply : MachineMayApply) (counted : LogsAreCounted) where
    -- by an event that may follow
    pub object-after : (objects : List Object) (H : List Event) (e : Event) (x : ℕ) (old new : Meaning) → IsRun objects H → MayFollow objects H e
        → length H < 4294967295 → slice_get objects x ≡ Some (object old) → IsObject old x H → Changes x (summary H) e.kind old new → IsObject new x (H ++ e ∷ [])
    object-after objects H e x old new run may short place known change = record {
      checked = rw (same-type x (summary H) e.kind old new change) known.checked;
      sound =
          sound-after applies commits strikes x (summary H) e.kind old new (covers old.checked known.checked).0 known.sound
          (λ t k is. may_apply objects H e.worker t x k old run (subst (May objects (summary H)) is may) place known.represents room)
          change;
      represents = on objects H e x old new run may place known.represents change;
    }
      where
        room : length old.log < 4294967295
        room = let log = (counted old x H known.represents).short in omega (arith, log, short)
