-- What is so at one object, where C committed and V survives, and the three moves of C and V: an operation, a strike, a commit.
use Rattle.std.proofs.Common.{◌≡◌, ℕ, false, ◌==◌, List, [], ◌∷◌, ◌++◌, Some}
use Rattle.std.specs.List.{AllByRecursion}
use Rattle.type_table.specs.Run.{IsLegal}
use Rattle.type_table.specs.declared.kind.Kind.TheVariants.{Undo, Intentions}
use Rattle.object_trait.specs.Object.{Object, IsCovered}
use Rattle.object_trait.specs.Orders.{Pairs, Sorts}
use Rattle.object_trait.specs.Strike.{keep_first}
use Rattle.serial_order.specs.Operations.{is_among, is_by, ops, of, serial, pending}
use Rattle.serial_order.specs.View.{stops_at}
use Rattle.serial_order.specs.Laws.{may_pass}
use Rattle.serial_order.specs.declared.entry.Entry.{Entry}
use Rattle.serial_order.proofs.Lists.{is_among-neither}

-- a pending operation conflicts with nothing that another transaction did after it, whether that one committed or not
abbrev pub IsHeldFree : Object → List ℕ → Entry → Entry → Type 0
IsHeldFree o C held later = is_among C held.by ≡ false → (later.by == held.by) ≡ false → o.conflicts later.op held.op ≡ false

-- a list of operations is legal from the initial state
abbrev pub IsLegalAt : Object → List ℕ → Type 0
IsLegalAt o w = IsLegal o.table (Some o.table.initial) w

-- update in place
pub record UndoFacts (o : Object) (C : List ℕ) (V : List Entry) : Type 0 where
  pub locked : Pairs (IsHeldFree o C) V
  pub legal : IsLegalAt o (ops V)
  pub sorts : Sorts (may_pass o) V (serial C V ++ pending C V)

-- deferred update
pub record DeferredFacts (o : Object) (C : List ℕ) (V : List Entry) : Type 0 where
  pub locked : Pairs (IsHeldFree o C) V
  pub serial_legal : IsLegalAt o (ops (serial C V))
  pub views_legal : (t : ℕ) → is_among C t ≡ false → IsLegalAt o (ops (serial C V ++ of t V))

-- the operation is of no committed transaction, and conflicts with none that another transaction holds
pub record IsFree (o : Object) (C : List ℕ) (V : List Entry) (e : Entry) : Type 0 where
  pub uncommitted : is_among C e.by ≡ false
  pub free : AllByRecursion (λ held. is_among C held.by ≡ false → (e.by == held.by) ≡ false → o.conflicts e.op held.op ≡ false) V

-- the operation is of no committed transaction, and none that another transaction holds stops it
pub record IsAdmitted (o : Object) (C : List ℕ) (V : List Entry) (e : Entry) : Type 0 where
  pub uncommitted : is_among C e.by ≡ false
  pub free : AllByRecursion (λ held. is_among C held.by ≡ false → (e.by == held.by) ≡ false → stops_at o.kind o C V e.by e.op held ≡ false) V

-- where what stops it are conflicts, it is free
pub free_undo : (o : Object) (C : List ℕ) (V : List Entry) (e : Entry) → o.kind ≡ Undo → IsAdmitted o C V e → IsFree o C V e
free_undo o C V e kind admitted = record { uncommitted = admitted.uncommitted; free = rw kind at admitted.free }

pub free_deferred : (o : Object) (C : List ℕ) (V : List Entry) (e : Entry) → o.kind ≡ Intentions → IsAdmitted o C V e → IsFree o C V e
free_deferred o C V e kind admitted = record { uncommitted = admitted.uncommitted; free = rw kind at admitted.free }

-- what was pending after one more commit was pending before it
pub held_free-commit : (o : Object) (C : List ℕ) (t : ℕ) (a b : Entry) → IsHeldFree o C a b → IsHeldFree o (C ++ t ∷ []) a b
held_free-commit o C t a b free = λ pending other. free (is_among-neither C t a.by pending).0 other

-- ---- the moves of update in place

-- an operation keeps them
abbrev pub UndoOp : Type 0
UndoOp =
    (o : Object) (C : List ℕ) (V : List Entry) (e : Entry) → IsCovered o → o.kind ≡ Undo
    → IsFree o C V e → IsLegalAt o (ops V ++ e.op ∷ []) → UndoFacts o C V → UndoFacts o C (V ++ e ∷ [])

-- a strike
abbrev pub UndoStrike : Type 0
UndoStrike =
    (o : Object) (C : List ℕ) (V : List Entry) (t n : ℕ) → IsCovered o → o.kind ≡ Undo
    → is_among C t ≡ false → UndoFacts o C V → UndoFacts o C (keep_first (is_by t) n V)

-- and a commit
abbrev pub UndoCommit : Type 0
UndoCommit =
    (o : Object) (C : List ℕ) (V : List Entry) (t : ℕ) → IsCovered o → o.kind ≡ Undo
    → is_among C t ≡ false → UndoFacts o C V → UndoFacts o (C ++ t ∷ []) V

-- ---- the moves of deferred update

-- an operation keeps them
abbrev pub DeferredOp : Type 0
DeferredOp =
    (o : Object) (C : List ℕ) (V : List Entry) (e : Entry) → IsCovered o → o.kind ≡ Intentions
    → IsFree o C V e → IsLegalAt o (ops (serial C V ++ of e.by V) ++ e.op ∷ []) → DeferredFacts o C V → DeferredFacts o C (V ++ e ∷ [])

-- a strike
abbrev pub DeferredStrike : Type 0
DeferredStrike =
    (o : Object) (C : List ℕ) (V : List Entry) (t n : ℕ) → IsCovered o → o.kind ≡ Intentions
    → is_among C t ≡ false → DeferredFacts o C V → DeferredFacts o C (keep_first (is_by t) n V)

-- and a commit
abbrev pub DeferredCommit : Type 0
DeferredCommit =
    (o : Object) (C : List ℕ) (V : List Entry) (t : ℕ) → IsCovered o → o.kind ≡ Intentions
    → is_among C t ≡ false → DeferredFacts o C V → DeferredFacts o (C ++ t ∷ []) V
