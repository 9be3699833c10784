-- When the serial order is legal at each object: by tables and by objects, and what it says of each operation.
use Rattle.std.proofs.Common.{◌≡◌, ℕ, zero, suc, List, [], ◌∷◌, ◌++◌, take, drop, Option, Some, None, option_map, slice_get, refl, sym, ap, subst, ◌∙◌, append_assoc, append-nil}
use Rattle.std.proofs.lemmas.Bool.{false≢true}
use Rattle.std.proofs.lemmas.List.{map-append, take-append-drop}
use Rattle.std.proofs.lemmas.Option.{none-some, same_Some, slice_get-map}
use Rattle.type_table.specs.Table.{Table}
use Rattle.type_table.specs.Run.{run, IsLegal}
use Rattle.type_table.specs.Laws.{RunsAlong}
use Rattle.type_table.proofs.Legal.{run_from_none}
use Rattle.object_trait.specs.Object.{Object}
use Rattle.object_trait.specs.declared.event.Event.{Event}
use Rattle.serial_order.specs.Operations.{ops, of, serial}
use Rattle.serial_order.specs.History.{summary, ContinuesHistory, AllContinue, IsHistory}
use Rattle.serial_order.specs.Serial.{surviving_at, serial_at, IsSerial}
use Rattle.serial_order.specs.declared.entry.Entry.{Entry}
use Rattle.history_judge.proofs.Lists.{found}
use Rattle.history_judge.specs.Audit.{LeadToStates, IsFirstBad, IsIllegalAt, AreLegal, AreSerial}
use Rattle.history_audit.specs.Laws.{tables_of}

-- ---- a yes

-- where an order leads to a state at each object, it is legal there
pub leads-legal : (tables : List Table) (H : List Event) (ts finals : List ℕ) → LeadToStates tables H ts finals → AreLegal tables H ts
leads-legal tables H ts finals known x T at =
    let (s, there) = found tables finals x T known.as_many at in
    rw (known.states x T s at there) refl

-- ---- objects and their tables

pub of_tables : (objects : List Object) (H : List Event) → AreSerial (tables_of objects) H → IsSerial objects H
of_tables objects H serial x o at =
    serial x o.table (slice_get-map (λ (object : Object). object.table) objects x ∙ ap (option_map (λ (object : Object). object.table)) at)

-- the object that has a table
object-at : (objects : List Object) (x : ℕ) (T : Table) → slice_get (tables_of objects) x ≡ Some T → (o : Object) × (slice_get objects x ≡ Some o) × (o.table ≡ T)
object-at [] x T at = absurd (none-some T at)
object-at (o ∷ objects) zero T at = (o, refl, same_Some o.table T at)
object-at (o ∷ objects) (suc x) T at = object-at objects x T at

pub of_objects : (objects : List Object) (H : List Event) → IsSerial objects H → AreSerial (tables_of objects) H
of_objects objects H serial x T at =
    let (o, there, is) = object-at objects x T at in
    let P : Table → Type 0 = λ U. IsLegal U (Some U.initial) (ops (serial_at x H)) in
    subst P is (serial x o there)

-- ---- what is serially before an operation

-- the operations of a transaction come after those of the transactions before it
pub serial-split : (C : List ℕ) (V : List Entry) (i t : ℕ) → slice_get C i ≡ Some t → (rest : List Entry) × (serial C V ≡ serial (take i C) V ++ (of t V ++ rest))
serial-split [] V i t at = absurd (none-some t at)
serial-split (u ∷ C) V zero t at = (serial C V, ap (λ v. of v V ++ serial C V) (same_Some u t at))
serial-split (u ∷ C) V (suc i) t at =
    let (rest, is) = serial-split C V i t at in
    (rest, ap (λ W. of u V ++ W) is ∙ sym (append_assoc (of u V) (serial (take i C) V) (of t V ++ rest)))

-- and so do the first of them
pub serial-front : (C : List ℕ) (V : List Entry) (i t n : ℕ) → slice_get C i ≡ Some t → (rest : List Entry) × (serial C V ≡ (serial (take i C) V ++ take n (of t V)) ++ rest)
serial-front C V i t n at =
    let (rest, is) = serial-split C V i t at in (
      drop n (of t V) ++ rest,
      is ∙ ap (λ W. serial (take i C) V ++ (W ++ rest)) (sym (take-append-drop n (of t V)))
          ∙ ap (λ W. serial (take i C) V ++ W) (append_assoc (take n (of t V)) (drop n (of t V)) rest)
          ∙ sym (append_assoc (serial (take i C) V) (take n (of t V)) (drop n (of t V) ++ rest)),
    )

-- a list of which a beginning isn't legal isn't legal
pub stuck-along : RunsAlong → (T : Table) (from : Option ℕ) (v w : List ℕ) → run T from v ≡ None → IsLegal T from (v ++ w) → ⊥
stuck-along along T from v w stuck legal = false≢true (rw (along T from v w, stuck, run_from_none T w) at legal)

-- where an order is legal, so is each operation behind those before it
pub serial-each : RunsAlong → (tables : List Table) (H : List Event) (ts : List ℕ) (i x j : ℕ) → AreLegal tables H ts → IsIllegalAt tables H ts i x j → ⊥
serial-each along tables H ts i x j legal wrong =
    let (rest, is) = serial-front ts (surviving_at x H) i wrong.t (suc j) wrong.transaction in
    let front = serial (take i ts) (surviving_at x H) ++ take (suc j) (of wrong.t (surviving_at x H)) in
    let whole : ops (serial ts (surviving_at x H)) ≡ ops front ++ ops rest = ap ops is ∙ map-append (λ (e : Entry). e.op) front rest in
    stuck-along along wrong.table (Some wrong.table.initial) (ops front) (ops rest) wrong.illegal (rw whole at (legal x wrong.table wrong.object))

-- ---- events of a history

-- each event of a history can follow those before it
pub continues-at : (tables : List Table) (before H : List Event) (at : ℕ) (e : Event) → AllContinue tables before H → slice_get H at ≡ Some e → ContinuesHistory tables (summary (before ++ take at H)) e.kind
continues-at tables before [] at e goes there = absurd (none-some e there)
continues-at tables before (f ∷ H) zero e goes there =
    let P : Event → Type 0 = λ g. ContinuesHistory tables (summary (before ++ [])) g.kind in
    subst P (same_Some f e there) (rw (append-nil before) goes.0)
continues-at tables before (f ∷ H) (suc at) e goes there =
    rw (append_assoc before (f ∷ []) (take at H)) at (continues-at tables (before ++ f ∷ []) H at e goes.1 there)

-- none is bad
pub never-bad : (tables : List Table) (H : List Event) (at : ℕ) → IsHistory tables H → IsFirstBad tables H at → ⊥
never-bad tables H at history wrong = wrong.bad (continues-at tables [] H at wrong.event history wrong.there)
