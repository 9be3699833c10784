-- Several stores in one real-time order of their events, and transactions with parts at them.
use Rattle.std.specs.Prelude.{◌≡◌, ℕ, List, [], ◌∷◌, ◌++◌, map, filter, fold, true, ◌==◌, Option, Some, slice_get, if◌then◌else◌}
use Rattle.std.specs.List.{flat_map}
use Rattle.std.specs.Option.{option_to_list}
use Rattle.object_trait.specs.Object.{Object, IsCovered}
use Rattle.object_trait.specs.declared.event.Event.{Event}
use Rattle.object_trait.specs.declared.event.EventKind.{EventKind}
use Rattle.object_trait.specs.declared.event.EventKind.TheVariants.{Commit}
use Rattle.serial_order.specs.Operations.{is_among}
use Rattle.serial_order.specs.History.{commits}
use Rattle.serial_order.specs.Machine.{IsRun}
use Rattle.serial_order.specs.Readings.{is_op_of}
use Rattle.dynamic_atomicity.specs.Dynamic.{IsOrderOf, KeepsObjectPrecedes, KeepsLiving, IsLegalOrder}

-- an event at a store
pub record At : Type 0 where
  pub store : ℕ
  pub event : Event

-- the history of one store
abbrev pub store_history : ℕ → List At → List Event
store_history i M = map (λ m. m.event) (filter (λ m. m.store == i) M)

-- which transaction of all a store's transaction is part of, and which part a store has of it
pub record Names : Type 0 where
  pub whole : ℕ → ℕ → ℕ
  pub part : ℕ → ℕ → Option ℕ
  pub there : (i t : ℕ) → part i (whole i t) ≡ Some t
  pub back : (i T t : ℕ) → part i T ≡ Some t → whole i t ≡ T

-- the parts that a store has of these transactions, in their order
abbrev pub parts_at : Names → ℕ → List ℕ → List ℕ
parts_at N i ts = flat_map (λ T. option_to_list (N.part i T)) ts

-- those that committed there
abbrev pub order_at : Names → List At → ℕ → List ℕ → List ℕ
order_at N M i ts = filter (is_among (commits (store_history i M))) (parts_at N i ts)

-- no operation of a transaction, at any store, comes after a commit of it at any store
abbrev pub AreJoined : Names → List At → Type 0
AreJoined N M =
    (before behind : List At) (m : At) (u j v : ℕ) → M ≡ before ++ m ∷ behind → is_op_of u m.event.kind ≡ true
    → is_among (commits (store_history j before)) v ≡ true → N.whole j v ≡ N.whole m.store u → ⊥

-- an order of all committed transactions that is one at each store, and keeps what precedes there
abbrev pub IsOrderOfAll : Names → List At → List ℕ → Type 0
IsOrderOfAll N M ts = (i : ℕ) → IsOrderOf (commits (store_history i M)) (order_at N M i ts) × ((x : ℕ) → KeepsObjectPrecedes x (store_history i M) (order_at N M i ts))

-- one more transaction, at its first commit
abbrev pub first_after : Names → List ℕ → ℕ → EventKind → List ℕ
first_after N K i (Commit t) = if is_among K (N.whole i t) then K else K ++ N.whole i t ∷ []
first_after N K i _ = K

-- the transactions in the order of their first commits
abbrev pub first_commits : Names → List At → List ℕ
first_commits N M = fold (λ K m. first_after N K m.store m.event.kind) [] M

-- there is such an order
abbrev pub JoinedOrder : Type 0
JoinedOrder = (N : Names) (M : List At) → AreJoined N M → IsOrderOfAll N M (first_commits N M)

-- and each such order is legal at every covered object of every store
abbrev pub JoinedIsAtomic : Type 0
JoinedIsAtomic =
    (objects : ℕ → List Object) (N : Names) (M : List At) (ts : List ℕ) → ((i : ℕ) → IsRun (objects i) (store_history i M)) → IsOrderOfAll N M ts
    → (i x : ℕ) (o : Object) → slice_get (objects i) x ≡ Some o → IsCovered o → IsLegalOrder o x (store_history i M) (order_at N M i ts)

-- an order of all committed transactions that is one at each store, and keeps there what precedes by operations that survive. It is more: an
-- operation that a rollback or an abort struck holds no order
abbrev pub IsLivingOrderOfAll : Names → List At → List ℕ → Type 0
IsLivingOrderOfAll N M ts = (i : ℕ) → IsOrderOf (commits (store_history i M)) (order_at N M i ts) × ((x : ℕ) → KeepsLiving x (store_history i M) (order_at N M i ts))

-- it is legal too
abbrev pub JoinedIsAtomicLiving : Type 0
JoinedIsAtomicLiving =
    (objects : ℕ → List Object) (N : Names) (M : List At) (ts : List ℕ) → ((i : ℕ) → IsRun (objects i) (store_history i M)) → IsLivingOrderOfAll N M ts
    → (i x : ℕ) (o : Object) → slice_get (objects i) x ≡ Some o → IsCovered o → IsLegalOrder o x (store_history i M) (order_at N M i ts)
