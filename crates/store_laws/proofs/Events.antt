-- What the calls of a store change is what their events do to what is kept.
use Rattle.std.proofs.Common.{◌≡◌, ℕ, ◌+◌, ◌-◌, false, ◌==◌, ◌⊎◌, List, [], ◌∷◌, ◌++◌, length, set, Option, Some, None, slice_get, sym, ap, subst, ◌∙◌, inl, inr, arith}
use Rattle.std.specs.List.{list_any}
use Rattle.std.proofs.lemmas.Bool.{cases_Bool, eq-eqb, true≢false}
use Rattle.std.proofs.lemmas.List.{length-set, length-append, nil_from_length}
use Rattle.std.proofs.lemmas.Option.{same_Some}
use Rattle.type_table.proofs.Elements.{cases-set, eqb-sym}
use Rattle.object_trait.specs.Meaning.{Meaning, open_of}
use Rattle.object_trait.specs.Sound.{IsSound}
use Rattle.object_trait.specs.Steps.{applied, IsStrike}
use Rattle.object_trait.specs.Laws.{UntouchedStays}
use Rattle.object_trait.specs.declared.event.Event.{Event}
use Rattle.object_trait.specs.declared.event.EventKind.{EventKind}
use Rattle.object_trait.specs.declared.event.EventKind.TheVariants as kind
use Rattle.object_trait.specs.declared.event.EventKind.TheVariants.{Begin, Op, Busy, Commit, Abort, Rollback}
use Rattle.serial_order.specs.History.{Summary, summary}
use Rattle.serial_order.specs.Represent.{struck_at, Changes}
use Rattle.serial_order.specs.After.{CountsTo, SummaryAfter, TransactionsInRun, OpensAfter, LogsAreCounted}
use Rattle.serial_order.specs.Replay.{open_count}
use Rattle.object_calls.specs.Ends.{times_in, ChangesAt, EndsObject}
use Rattle.object_calls.specs.declared.end.End.{End}
use Rattle.object_calls.specs.declared.end.End.TheVariants as end
use Rattle.open_transactions.specs.Transactions.{Row}
use Rattle.store_laws.specs.Kept.{Keeping, IsKept}
use Rattle.store_laws.specs.Moves.{IsKeptRowMoved, KeptRowsMove}
use Rattle.store_laws.specs.Before.{IsOpenRow, last_places}
use Rattle.store_laws.specs.Events.{QuietMoves, BeginMoves, OpMoves, end_event, EndMoves, RollbackMoves, TypesStay, room_taken, RoomAfter}
use Rattle.store_laws.proofs.Filters.{count-none}
use Rattle.store_laws.proofs.Untouched.{strike-untouched}
use Rattle.store_laws.proofs.Places.{row-at, entries-count, count-elsewhere, struck-count}
use Rattle.store_laws.proofs.Objects.{same-type, same-types}

-- ---- nothing at the objects

module _ (old new : Keeping) (H : List Event) (kept : IsKept old H) where
  -- meanings as they were
  same-meanings : new.meanings ≡ old.meanings → (x : ℕ) (m n : Meaning) → slice_get old.meanings x ≡ Some m → slice_get new.meanings x ≡ Some n → n ≡ m
  same-meanings same x m n was is = same_Some n m (sym is ∙ ap (λ ms. slice_get ms x) same ∙ was)

pub quiet_moves : QuietMoves
quiet_moves = λ old new H w t x c kept meanings rows. (
  λ u. record {
    as_many = ap length meanings;
    objects = same-meanings old new H kept meanings;
    rows = rows;
  },
  record {
    as_many = ap length meanings;
    objects = same-meanings old new H kept meanings;
    rows = rows;
  },
)

pub begin_moves : BeginMoves
begin_moves = λ old new H w t kept meanings rows.
    record {
      as_many = ap length meanings;
      objects = same-meanings old new H kept meanings;
      rows = rows;
    }

-- ---- an operation

module _ (old new : Keeping) (H : List Event) (kept : IsKept old H) (t y op : ℕ) where
  -- at the objects
  op-objects : (was : Meaning) → slice_get old.meanings y ≡ Some was → new.meanings ≡ set old.meanings y (applied was t op)
      → (x : ℕ) (m n : Meaning) → slice_get old.meanings x ≡ Some m → slice_get new.meanings x ≡ Some n → Changes x (summary H) (Op op t y) m n
  op-objects was there becomes x m n before is =
      elim (cases-set old.meanings y (applied was t op) x n (ap (λ ms. slice_get ms x) (sym becomes) ∙ is)) [
        | inl here ↦
            rw (eq-eqb y x (sym here.0))
            (sym here.1 ∙ ap (λ k. applied k t op) (same_Some was m (sym there ∙ ap (slice_get old.meanings) (sym here.0) ∙ before)))
        | inr elsewhere ↦ rw (eqb-sym y x ∙ elsewhere.0) (same_Some n m (sym elsewhere.1 ∙ before))
      ]

pub op_moves : OpMoves
op_moves = λ old new H w t x op row m kept row_there there meanings rows.
    record {
      as_many = ap length meanings ∙ length-set old.meanings x (applied m t op);
      objects = op-objects old new H kept t x op m there meanings;
      rows = record { row = row; was = row-at old H t row kept row_there; becomes = rows };
    }

-- ---- changes at some places

-- at each place something is changed as it should, or it is none of these and nothing is
cases-at : {A : Type 0} (places : List ℕ) (change : ℕ → A → A → Type 0) (old new : List A) → ChangesAt places change old new
    → (x : ℕ) (a b : A) → slice_get old x ≡ Some a → slice_get new x ≡ Some b
    → change x a b ⊎ ((list_any (λ y. y == x) places ≡ false) × (b ≡ a))
cases-at places change old new changes x a b was is =
    elim (cases_Bool (list_any (λ y. y == x) places)) [
      | inl inside ↦ inl (changes.changed x a b was is inside)
      | inr outside ↦ inr (outside, same_Some b a (sym is ∙ changes.others x (λ inside. true≢false (sym inside ∙ outside)) ∙ was))
    ]

-- ---- the end of a transaction

module _ (counted : LogsAreCounted) (k : Keeping) (H : List Event) (t : ℕ) (row : Row) (kept : IsKept k H) (there : IsOpenRow k t row) where
  -- an object where it has no operation is as after either end
  end-untouched : UntouchedStays → (how : End) (m : Meaning) → IsSound m → open_of t m.log ≡ [] → EndsObject how m t m
  end-untouched untouched end.Commit m sound none = (untouched m t sound none).0
  end-untouched untouched end.Abort m sound none = (untouched m t sound none).1 0

  end-objects : UntouchedStays → (how : End) (new : List Meaning) → ChangesAt row.places (λ x m n. EndsObject how m t n) k.meanings new
      → (x : ℕ) (m n : Meaning) → slice_get k.meanings x ≡ Some m → slice_get new x ≡ Some n → EndsObject how m t n
  end-objects untouched how new changes x m n was is =
      elim (cases-at row.places (λ y a b. EndsObject how a t b) k.meanings new changes x m n was is) [
        | inl here ↦ here
        | inr apart ↦
            subst (EndsObject how m t) (sym apart.1)
            (end-untouched untouched how m (kept.objects x m was).sound
            (nil_from_length (open_of t m.log) (entries-count k H t row kept there counted x m was ∙ count-elsewhere k H t row kept there x apart.0)))
      ]

-- its event says the same of an object and of the rows
end-changes : (how : End) (x : ℕ) (s : Summary) (t : ℕ) (m n : Meaning) → EndsObject how m t n → Changes x s (end_event how t) m n
end-changes end.Commit x s t m n is = is
end-changes end.Abort x s t m n is = is

end-rows : (how : End) (w t : ℕ) (old new : List (Option Row)) → IsKeptRowMoved old new t (λ r. None) → KeptRowsMove w (end_event how t) old new
end-rows end.Commit w t old new moved = moved
end-rows end.Abort w t old new moved = moved

pub end_moves : UntouchedStays → LogsAreCounted → EndMoves
end_moves untouched counted = λ how old new H w t row kept there objects rows.
    record {
      as_many = objects.as_many;
      objects = λ x m n is_m is_n.
          end-changes how x (summary H) t m n (end-objects counted old H t row kept there untouched how new.meanings objects x m n is_m is_n);
      rows = end-rows how w t old.rows new.rows (record { row = row; was = row-at old H t row kept there; becomes = rows });
    }

-- ---- a rollback

module _ (k : Keeping) (H : List Event) (t n : ℕ) (row : Row) (kept : IsKept k H) (there : IsOpenRow k t row) where
  -- none of its last operations is at a place that is none of theirs
  none-struck : (x : ℕ) → list_any (λ y. y == x) (last_places n row.places) ≡ false → struck_at x (summary H) t n ≡ 0
  none-struck x none = struck-count k H t row kept there x n ∙ count-none (λ y. y == x) (last_places n row.places) none

  -- as many entries are struck at each object as its event says
  rollback-objects : (new : List Meaning) → ChangesAt (last_places n row.places) (λ x m now. IsStrike m t (times_in x (last_places n row.places)) now) k.meanings new
      → (x : ℕ) (m now : Meaning) → slice_get k.meanings x ≡ Some m → slice_get new x ≡ Some now → IsStrike m t (struck_at x (summary H) t n) now
  rollback-objects new changes x m now was is =
      elim (cases-at (last_places n row.places) (λ y a b. IsStrike a t (times_in y (last_places n row.places)) b) k.meanings new changes x m now was is) [
        | inl here ↦ subst (λ c. IsStrike m t c now) (sym (struck-count k H t row kept there x n)) here
        | inr apart ↦
            subst (λ (b : Meaning). IsStrike m t (struck_at x (summary H) t n) b) (sym apart.1)
            (strike-untouched m t (struck_at x (summary H) t n) (none-struck x apart.0))
      ]

pub rollback_moves : RollbackMoves
rollback_moves = λ old new H w t n row kept there objects rows.
    record {
      as_many = objects.as_many;
      objects = rollback-objects old H t n row kept there new.meanings objects;
      rows = record { row = row; was = row-at old H t row kept there; becomes = rows };
    }

-- ---- any event

pub types_stay : TypesStay
types_stay = λ old new H e moves.
    same-types old.meanings new.meanings moves.as_many (λ x m n was is. same-type x (summary H) e.kind m n (moves.objects x m n was is))

-- how much room an event takes, where this many are open before and after it
room : (happened : EventKind) (before now n : ℕ) → CountsTo happened before now → n + 1 + now ≡ n + before + room_taken happened
room (Begin t) before now n counts = omega (arith, counts)
room (Op k t x) before now n counts = omega (arith, counts)
room (Busy c t x u) before now n counts = omega (arith, counts)
room (kind.None t x c) before now n counts = omega (arith, counts)
room (Commit t) before now n counts = omega (arith, counts)
room (Abort t) before now n counts = omega (arith, counts)
room (Rollback t m) before now n counts = omega (arith, counts)

pub room_after : SummaryAfter → TransactionsInRun → OpensAfter → RoomAfter
room_after now in_run opens = λ objects H e run may.
    ap (λ n. n + open_count (summary (H ++ e ∷ []))) (length-append H (e ∷ []))
    ∙ ap (λ (s : Summary). length H + 1 + open_count s) (now H e)
    ∙ room e.kind (open_count (summary H)) _ (length H) (opens objects (summary H) e.kind (in_run objects H run) may).1
