-- Statements of laws: the machine admits what is safe at an object in escrow, and no store admits more.
use Rattle.std.specs.Prelude.{◌≡◌, ◌↔◌, ℕ, ◌<◌, List, [], ◌∷◌, ◌++◌, true, Some, slice_get}
use Rattle.type_table.specs.Table.{Table, has_op}
use Rattle.type_table.specs.Run.{run, IsLegal}
use Rattle.type_table.specs.declared.kind.Kind.TheVariants.{Escrow}
use Rattle.escrow_laws.specs.Amounts.{Amounts, IsNumeric}
use Rattle.escrow_laws.specs.Firm.{IsIdleFrom, with_op, IsAdmitted}
use Rattle.escrow_laws.specs.Safe.{IsSafe}
use Rattle.object_trait.specs.Object.{Object, IsCovered}
use Rattle.object_trait.specs.declared.event.Event.{Event}
use Rattle.object_trait.specs.declared.event.EventKind.TheVariants.{Op}
use Rattle.serial_order.specs.Operations.{ops}
use Rattle.serial_order.specs.History.{summary, is_open}
use Rattle.serial_order.specs.Machine.{MayFollow, IsRun}
use Rattle.serial_order.specs.Serial.{serial_at, serial_state}
use Rattle.escrow_exact.specs.Ends.{open_own, AreEndings}
use Rattle.escrow_exact.specs.Stores.{Store, RefusesNoEnd, IsSerialAt}

-- ---- any history

-- where commit order stays legal whatever ends follow, what the open transactions did is safe
abbrev pub LegalEndsAreSafe : Type 0
LegalEndsAreSafe =
    (T : Table) (x : ℕ) (H : List Event) (base : ℕ) → run T (Some T.initial) (ops (serial_at x H)) ≡ Some base
    → ((es : List Event) → AreEndings H es → IsLegal T (Some T.initial) (ops (serial_at x (H ++ es)))) → IsSafe T base (open_own x H)

-- and where that is safe, commit order stays legal. So to be safe is just this
abbrev pub SafeEndsAreLegal : Type 0
SafeEndsAreLegal =
    (T : Table) (x : ℕ) (H : List Event) (base : ℕ) → run T (Some T.initial) (ops (serial_at x H)) ≡ Some base → IsSafe T base (open_own x H)
    → (es : List Event) → AreEndings H es → IsLegal T (Some T.initial) (ops (serial_at x (H ++ es)))

-- ---- the machine

-- at x the machine admits to t exactly the operations of the type that are safe: with one, what each open transaction did is legal when that
-- one commits, from the number that is committed
pub record AdmitsTheSafe (objects : List Object) (H : List Event) (x : ℕ) (o : Object) (t : ℕ) : Type 0 where
  pub base : ℕ
  pub committed : serial_state o x H ≡ Some base
  pub safe : (w k : ℕ) → MayFollow objects H (record { worker = w; kind = Op k t x }) ↔ ((has_op o.table k ≡ true) × IsSafe o.table base (with_op (open_own x H) t k))
  pub admitted : (w k m : ℕ) → IsIdleFrom m (open_own x H) → t < m
      → MayFollow objects H (record { worker = w; kind = Op k t x }) ↔ ((has_op o.table k ≡ true) × IsAdmitted o.table o.amounts base (open_own x H) m t k)

-- so it does in each run, at an object in escrow that is covered
abbrev pub EscrowAdmitsTheSafe : Type 0
EscrowAdmitsTheSafe =
    (objects : List Object) (H : List Event) (x : ℕ) (o : Object) (t : ℕ) → IsRun objects H → slice_get objects x ≡ Some o → IsCovered o → o.kind ≡ Escrow
    → is_open (summary H) t ≡ true → AdmitsTheSafe objects H x o t

-- ---- other stores

-- a store that refuses no end, and is serial in commit order at x, admits there only what is safe
abbrev pub StoresAdmitTheSafe : Type 0
StoresAdmitTheSafe =
    (makes : Store) (T : Table) (x : ℕ) (H : List Event) (base w t k : ℕ) → RefusesNoEnd makes → IsSerialAt makes T x
    → is_open (summary H) t ≡ true → run T (Some T.initial) (ops (serial_at x H)) ≡ Some base
    → makes (H ++ (record { worker = w; kind = Op k t x }) ∷ []) ≡ true → IsSafe T base (with_op (open_own x H) t k)

-- so after a run it admits no operation of the type that the machine doesn't
abbrev pub NoStoreAdmitsMore : Type 0
NoStoreAdmitsMore =
    (makes : Store) (objects : List Object) (H : List Event) (x : ℕ) (o : Object) (w t k : ℕ) → RefusesNoEnd makes → IsSerialAt makes o.table x
    → IsRun objects H → slice_get objects x ≡ Some o → IsCovered o → o.kind ≡ Escrow → is_open (summary H) t ≡ true → has_op o.table k ≡ true
    → makes (H ++ (record { worker = w; kind = Op k t x }) ∷ []) ≡ true → MayFollow objects H (record { worker = w; kind = Op k t x })

-- ends after which commit order isn't legal at x
pub record BreaksByEnds (T : Table) (x : ℕ) (H : List Event) : Type 0 where
  pub ends : List Event
  pub are_ends : AreEndings H ends
  pub illegal : IsLegal T (Some T.initial) (ops (serial_at x (H ++ ends))) → ⊥

-- where an operation that isn't safe is let in, at a number, ends follow that break
abbrev pub UnsafeBreaks : Type 0
UnsafeBreaks =
    (T : Table) (a : Amounts) (x : ℕ) (H : List Event) (base w t k : ℕ) → IsNumeric T a → is_open (summary H) t ≡ true
    → run T (Some T.initial) (ops (serial_at x H)) ≡ Some base → (IsSafe T base (with_op (open_own x H) t k) → ⊥)
    → BreaksByEnds T x (H ++ (record { worker = w; kind = Op k t x }) ∷ [])
