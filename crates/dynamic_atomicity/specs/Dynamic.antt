-- Dynamic atomicity: which orders of the committed transactions a history admits (Weihl 1989), and the law of them.
use Rattle.std.specs.Prelude.{◌≡◌, ℕ, ◌-◌, List, [], ◌∷◌, ◌++◌, length, map, filter, Bool, true, false, not, ◌==◌, Option, Some, slice_get, if◌then◌else◌}
use Rattle.std.specs.List.{AllByRecursion}
use Rattle.type_table.specs.Run.{run, IsLegal, Looks, AreEqui}
use Rattle.type_table.specs.declared.kind.Kind.{Kind}
use Rattle.type_table.specs.declared.kind.Kind.TheVariants.{Undo, Intentions, Escrow}
use Rattle.object_trait.specs.Object.{Object, IsCovered, IsCoveredStrongly}
use Rattle.object_trait.specs.Strike.{keep_first}
use Rattle.object_trait.specs.declared.event.Event.{Event}
use Rattle.object_trait.specs.declared.event.EventKind.{EventKind}
use Rattle.object_trait.specs.declared.event.EventKind.TheVariants.{Op, Abort, Rollback}
use Rattle.serial_order.specs.Operations.{is_among, is_by, ops, serial}
use Rattle.serial_order.specs.History.{commits, committed_by}
use Rattle.serial_order.specs.Machine.{IsRun, AreCovered}
use Rattle.serial_order.specs.Serial.{surviving_at}
use Rattle.serial_order.specs.declared.entry.Entry.{Entry}

-- ---- orders of transactions

-- t is in the list, and u is nowhere before it: t is first
abbrev pub comes_first : List ℕ → ℕ → ℕ → Bool
comes_first [] t u = false
comes_first (v ∷ ts) t u = if v == t then not (t == u) else (if v == u then false else comes_first ts t u)

-- each once
abbrev pub AreOnce : List ℕ → Type 0
AreOnce [] = Unit {0}
AreOnce (t ∷ ts) = (is_among ts t ≡ false) × AreOnce ts

-- an order of the committed transactions: each of them once, and no other
pub record IsOrderOf (committed ts : List ℕ) : Type 0 where
  pub once : AreOnce ts
  pub same : (t : ℕ) → is_among ts t ≡ is_among committed t

-- ---- which transactions come after which

-- an operation of u at x
abbrev pub is_op_at : ℕ → ℕ → EventKind → Bool
is_op_at x u (Op k t y) = if y == x then t == u else false
is_op_at x u _ = false

-- t precedes u at x: some operation of u there comes after t's commit (Weihl's precedes, at one object)
pub record PrecedesAtObject (x : ℕ) (H : List Event) (t u : ℕ) : Type 0 where
  pub before : List Event
  pub happened : Event
  pub behind : List Event
  pub whole : H ≡ before ++ happened ∷ behind
  pub ended : is_among (commits before) t ≡ true
  pub operation : is_op_at x u happened.kind ≡ true

-- the order keeps what precedes at x, as far as it is of the order's transactions
abbrev pub KeepsObjectPrecedes : ℕ → List Event → List ℕ → Type 0
KeepsObjectPrecedes x H ts = (t u : ℕ) → PrecedesAtObject x H t u → is_among ts u ≡ true → comes_first ts t u ≡ true

-- ---- dated operations

-- an operation that survives, with the transactions that had committed when it was executed
pub record Dated : Type 0 where
  pub entry : Entry
  pub after : List ℕ

abbrev pub dated_by : ℕ → Dated → Bool
dated_by t d = is_by t d.entry

-- the operations alone
abbrev pub undated : List Dated → List Entry
undated D = map (λ d. d.entry) D

-- after one more event, C having committed
abbrev pub dated_after : List ℕ → List Dated → EventKind → List Dated
dated_after C D (Op k t x) = D ++ (record { entry = record { by = t; at = x; op = k }; after = C }) ∷ []
dated_after C D (Abort t) = keep_first (dated_by t) 0 D
dated_after C D (Rollback t n) = keep_first (dated_by t) (length (filter (dated_by t) D) - n) D
dated_after C D _ = D

abbrev pub dated_from : List ℕ → List Dated → List Event → List Dated
dated_from C D [] = D
dated_from C D (e ∷ H) = dated_from (C ++ committed_by e.kind) (dated_after C D e.kind) H

-- the operations that survive, dated
abbrev pub dated : List Event → List Dated
dated H = dated_from [] [] H

abbrev pub dated_at : ℕ → List Event → List Dated
dated_at x H = filter (λ d. d.entry.at == x) (dated H)

-- the order has the operation's transaction after each that had committed before it
abbrev pub ComesAfterCommitted : List ℕ → Dated → Type 0
ComesAfterCommitted ts d = is_among ts d.entry.by ≡ true → (t : ℕ) → is_among d.after t ≡ true → comes_first ts t d.entry.by ≡ true

-- and so of each of these operations
abbrev pub KeepsDated : List ℕ → List Dated → Type 0
KeepsDated ts D = AllByRecursion (ComesAfterCommitted ts) D

-- the order keeps what precedes by operations that survive
abbrev pub KeepsLiving : ℕ → List Event → List ℕ → Type 0
KeepsLiving x H ts = KeepsDated ts (dated_at x H)

-- ---- the law

-- what survives of committed transactions at x, in the order in which it was executed
abbrev pub executed_at : ℕ → List Event → List Entry
executed_at x H = filter (λ e. is_among (commits H) e.by) (surviving_at x H)

-- the state after some operations
abbrev pub end_state : Object → List Entry → Option ℕ
end_state o V = run o.table (Some o.table.initial) (ops V)

-- update in place: the end of what was executed looks like the order's, and is equieffective to it where the yes is strong.
-- Deferred update: the end of commit order is equieffective to it. Escrow: it is the same number
abbrev pub EndsAgree : Kind → Object → ℕ → List Event → List ℕ → Type 0
EndsAgree Undo o x H ts =
    Looks o.table (end_state o (executed_at x H)) (end_state o (serial ts (surviving_at x H)))
    × (IsCoveredStrongly o → AreEqui o.table (end_state o (executed_at x H)) (end_state o (serial ts (surviving_at x H))))
EndsAgree Intentions o x H ts = AreEqui o.table (end_state o (serial (commits H) (surviving_at x H))) (end_state o (serial ts (surviving_at x H)))
EndsAgree Escrow o x H ts = end_state o (serial (commits H) (surviving_at x H)) ≡ end_state o (serial ts (surviving_at x H))

-- the order is legal at x, and its end agrees
pub record IsLegalOrder (o : Object) (x : ℕ) (H : List Event) (ts : List ℕ) : Type 0 where
  pub legal : IsLegal o.table (Some o.table.initial) (ops (serial ts (surviving_at x H)))
  pub ends : EndsAgree o.kind o x H ts

-- dynamically atomic at one object: each order that keeps what precedes there
abbrev pub IsAtomicAt : Object → ℕ → List Event → Type 0
IsAtomicAt o x H = (ts : List ℕ) → IsOrderOf (commits H) ts → KeepsObjectPrecedes x H ts → IsLegalOrder o x H ts

-- and at each object of a list
abbrev pub IsDynamicallyAtomic : List Object → List Event → Type 0
IsDynamicallyAtomic objects H = (x : ℕ) (o : Object) → slice_get objects x ≡ Some o → IsAtomicAt o x H

-- in a run each object that is covered is, whatever the others are
abbrev pub CoveredIsAtomic : Type 0
CoveredIsAtomic =
    (objects : List Object) (H : List Event) (x : ℕ) (o : Object) → IsRun objects H → slice_get objects x ≡ Some o → IsCovered o → IsAtomicAt o x H

-- also by operations that survive alone, which is more: fewer pairs precede
abbrev pub RunsAreAtomicLiving : Type 0
RunsAreAtomicLiving =
    (objects : List Object) (H : List Event) (x : ℕ) (o : Object) → IsRun objects H → slice_get objects x ≡ Some o → IsCovered o
    → (ts : List ℕ) → IsOrderOf (commits H) ts → KeepsLiving x H ts → IsLegalOrder o x H ts

-- so each run over covered objects is dynamically atomic
abbrev pub RunsAreAtomic : Type 0
RunsAreAtomic = (objects : List Object) (H : List Event) → AreCovered objects → IsRun objects H → IsDynamicallyAtomic objects H

-- commit order is one of them
abbrev pub CommitOrderKeeps : Type 0
CommitOrderKeeps =
    (objects : List Object) (H : List Event) → IsRun objects H → IsOrderOf (commits H) (commits H) × ((x : ℕ) → KeepsObjectPrecedes x H (commits H))
