-- Update in place: what survives is legal, locked, and sorts into commit order; and stays so.
use Rattle.std.proofs.Common.{◌≡◌, ℕ, true, false, not, ◌==◌, List, [], ◌∷◌, ◌++◌, filter, drop, Some, ◌∙◌}
use Rattle.std.specs.List.{AllByRecursion}
use Rattle.std.proofs.lemmas.Bool.{not-true, not_from_false, and_parts, and_from, or_parts, eqb-true}
use Rattle.std.proofs.lemmas.List.{append_assoc}
use Rattle.type_table.specs.Commute.{Covers, CommutesBackward}
use Rattle.type_table.specs.declared.table_kind.TableKind.TheVariants.{Undo}
use Rattle.type_table.proofs.Elements.{each-append, each-passes, eqb-sym}
use Rattle.type_table.proofs.Legal.{legal-front}
use Rattle.type_table.specs.declared.kind.Kind.TheVariants as way
use Rattle.object_trait.specs.Object.{Object, IsCovered}
use Rattle.object_trait.specs.Orders.{Pairs, Sorts, chain}
use Rattle.object_trait.specs.Strike.{keep_first}
use Rattle.object_trait.specs.Laws.{PartsSort, StruckPart, SortsLook}
use Rattle.object_trait.proofs.Lists.{pairs-weaker, pairs-push}
use Rattle.object_trait.proofs.Striking.{pairs-keep_first}
use Rattle.object_trait.proofs.Sorting.{parts-mine}
use Rattle.serial_order.specs.Operations.{is_among, is_by, ops, of, serial, pending}
use Rattle.serial_order.specs.Laws.{may_pass}
use Rattle.serial_order.specs.declared.entry.Entry.{Entry}
use Rattle.serial_order.proofs.Strikes.{keep_first-behind}
use Rattle.serial_order.proofs.Lists.{is_one-apart, ops-append, serial-snoc, pending-snoc, serial-apart, pending-more, of-pending, serial-strike, pending-strike}
use Rattle.serial_order.proofs.Facts.{IsHeldFree, IsLegalAt, held_free-commit, UndoOp, UndoStrike, UndoCommit}
use Rattle.serial_order.proofs.Pairs.{each-all, pairs-passes}
use Rattle.serial_order.proofs.Sorts.{sorts-append, sorts-behind, sorts-keep_first}

-- ---- objects of update in place

-- an object that is covered for its kind is covered for update in place, where that is its kind
pub covers_undo : (o : Object) → IsCovered o → o.kind ≡ way.Undo → Covers Undo o.table o.set o.conflicts
covers_undo o covered kind = rw kind at covered

-- ---- what may pass

-- a may pass b where they are of different transactions and don't conflict
pub passes_from : (o : Object) (a b : Entry) → (b.by == a.by) ≡ false → o.conflicts b.op a.op ≡ false → may_pass o a b ≡ true
passes_from o a b apart free =
    and_from (not (b.by == a.by)) (not (o.conflicts b.op a.op)) (not_from_false (b.by == a.by) apart) (not_from_false (o.conflicts b.op a.op) free)

-- and the converse
pub passes_parts : (o : Object) (a b : Entry) → may_pass o a b ≡ true → ((b.by == a.by) ≡ false) × (o.conflicts b.op a.op ≡ false)
passes_parts o a b passes =
    let parts = and_parts (not (b.by == a.by)) (not (o.conflicts b.op a.op)) passes in
    (not-true (b.by == a.by) parts.0, not-true (o.conflicts b.op a.op) parts.1)

-- what a may pass commutes backward with it
pub passes-commute : (o : Object) → Covers Undo o.table o.set o.conflicts → (a b : Entry) → may_pass o a b ≡ true → CommutesBackward o.table o.set b.op a.op
passes-commute o covers a b passes = covers.commute b.op a.op (passes_parts o a b passes).1

-- ---- an operation

-- what survives sorts into commit order after an operation of no committed transaction
sorts-op : (o : Object) (C : List ℕ) (V : List Entry) (e : Entry) → is_among C e.by ≡ false → Sorts (may_pass o) V (serial C V ++ pending C V) →
    Sorts (may_pass o) (V ++ e ∷ []) (serial C (V ++ e ∷ []) ++ pending C (V ++ e ∷ []))
sorts-op o C V e uncommitted sorts =
    rw (serial-apart C V e uncommitted, pending-more C V e uncommitted, ← (append_assoc (serial C V) (pending C V) (e ∷ [])))
    (sorts-append V (serial C V ++ pending C V) (e ∷ []) sorts)

-- the facts of update in place are kept by an operation
pub undo_op : UndoOp
undo_op = λ o C V e covered kind free legal facts. record {
  locked = pairs-push (IsHeldFree o C) V e facts.locked free.free;
  legal = rw (ops-append V (e ∷ [])) legal;
  sorts = sorts-op o C V e free.uncommitted facts.sorts;
}

-- ---- a strike

-- a pending operation of t may pass a later one of another transaction
mine-passes : (o : Object) (C : List ℕ) (t : ℕ) → is_among C t ≡ false → (a b : Entry) → IsHeldFree o C a b → is_by t a ≡ true → is_by t b ≡ false → may_pass o a b ≡ true
mine-passes o C t uncommitted a b free mine other =
    let by : a.by ≡ t = eqb-true a.by t mine in
    let apart : (b.by == a.by) ≡ false = rw by other in
    passes_from o a b apart (free (rw by uncommitted) apart)

-- what survives is legal without the last operations of t
struck-legal : PartsSort Entry → StruckPart Entry → SortsLook Entry → (o : Object) (C : List ℕ) (V : List Entry) (t n : ℕ) → Covers Undo o.table o.set o.conflicts →
    is_among C t ≡ false → Pairs (IsHeldFree o C) V → IsLegalAt o (ops V) → IsLegalAt o (ops (keep_first (is_by t) n V))
struck-legal parts strike sorts o C V t n covers uncommitted locked legal =
    let left : List Entry = keep_first (is_by t) n V in
    let gone : List Entry = drop n (of t V) in
    let sorted = parts (may_pass o) V left gone (strike (may_pass o) (is_by t) n V (pairs-weaker (mine-passes o C t uncommitted) V locked)) in
    let looks = sorts o.table o.set (λ e. e.op) (may_pass o) o.table.initial V (left ++ gone) covers.closed covers.begins_inside (passes-commute o covers) sorted legal in
    legal-front o.table (Some o.table.initial) (ops left) (ops gone) (rw (ops-append left gone) at looks.0)

-- no operation of the serial order is of a transaction that isn't committed
serial-others : (C : List ℕ) (t : ℕ) (V : List Entry) → is_among C t ≡ false → AllByRecursion (λ e. is_by t e ≡ false) (serial C V)
serial-others [] t V uncommitted = tt
serial-others (u ∷ C) t V uncommitted =
    let parts = or_parts (u == t) (is_among C t) uncommitted in
    let others = each-passes (λ e. is_by t e ≡ false) (is_by u) V (each-all (λ e mine. is_one-apart e.by u t parts.0 mine) V) in
    each-append (λ e. is_by t e ≡ false) (of u V) (serial C V) others (serial-others C t V parts.1)

-- two operations of one transaction aren't exchanged
pub exchanged-apart : (o : Object) (t : ℕ) (a b : Entry) → may_pass o a b ≡ true → is_by t a ≡ true → is_by t b ≡ false
exchanged-apart o t a b passes mine = rw (eqb-true a.by t mine) at (passes_parts o a b passes).0

-- what survives sorts into commit order after a strike of a transaction that isn't committed
sorts-strike : (o : Object) (C : List ℕ) (V : List Entry) (t n : ℕ) → is_among C t ≡ false → Sorts (may_pass o) V (serial C V ++ pending C V) →
    Sorts (may_pass o) (keep_first (is_by t) n V) (serial C (keep_first (is_by t) n V) ++ pending C (keep_first (is_by t) n V))
sorts-strike o C V t n uncommitted sorts =
    rw (serial-strike C t n V uncommitted, pending-strike C t n V uncommitted, ← (keep_first-behind (is_by t) n (serial C V) (pending C V) (serial-others C t V uncommitted)))
    (sorts-keep_first (is_by t) (exchanged-apart o t) n V (serial C V ++ pending C V) sorts)

-- they are kept by a strike
pub undo_strike : PartsSort Entry → StruckPart Entry → SortsLook Entry → UndoStrike
undo_strike parts strike sorts = λ o C V t n covered kind uncommitted facts. record {
  locked = pairs-keep_first (IsHeldFree o C) (is_by t) n V facts.locked;
  legal = struck-legal parts strike sorts o C V t n (covers_undo o covered kind) uncommitted facts.locked facts.legal;
  sorts = sorts-strike o C V t n uncommitted facts.sorts;
}

-- ---- a commit

-- a pending operation of another transaction may pass a later one of t
other-passes : (o : Object) (C : List ℕ) (t : ℕ) (a b : Entry) → IsHeldFree o C a b → not (is_among C a.by) ≡ true → is_by t a ≡ false → is_by t b ≡ true → may_pass o a b ≡ true
other-passes o C t a b free held other mine =
    let apart : (b.by == a.by) ≡ false = rw (eqb-true b.by t mine) (eqb-sym t a.by ∙ other) in
    passes_from o a b apart (free (not-true (is_among C a.by) held) apart)

-- what is pending sorts into the operations of t and then the others
pending-sorts : PartsSort Entry → (o : Object) (C : List ℕ) (V : List Entry) (t : ℕ) → is_among C t ≡ false → Pairs (IsHeldFree o C) V →
    Sorts (may_pass o) (pending C V) (of t V ++ filter (λ e. not (is_by t e)) (pending C V))
pending-sorts parts o C V t uncommitted locked =
    let others : List Entry = filter (λ e. not (is_by t e)) (pending C V) in
    let free = pairs-weaker (λ a b here held _. other-passes o C t a b here held) V locked in
    let free_pending = pairs-passes (λ a b. is_by t a ≡ false → is_by t b ≡ true → may_pass o a b ≡ true) (λ e. not (is_among C e.by)) V free in
    let two = parts-mine (may_pass o) (is_by t) (pending C V) free_pending in
    rw (of-pending C t V uncommitted) at (parts (may_pass o) (pending C V) (of t (pending C V)) others two)

-- what survives sorts into commit order after a commit
sorts-commit : PartsSort Entry → (o : Object) (C : List ℕ) (V : List Entry) (t : ℕ) → is_among C t ≡ false → Pairs (IsHeldFree o C) V →
    Sorts (may_pass o) V (serial C V ++ pending C V) → Sorts (may_pass o) V (serial (C ++ t ∷ []) V ++ pending (C ++ t ∷ []) V)
sorts-commit parts o C V t uncommitted locked sorts =
    let rest : List Entry = filter (λ e. not (is_by t e)) (pending C V) in
    rw (serial-snoc C t V, pending-snoc C t V, append_assoc (serial C V) (of t V) rest)
    (chain sorts (sorts-behind (serial C V) (pending C V) (of t V ++ rest) (pending-sorts parts o C V t uncommitted locked)))

-- they are kept by a commit
pub undo_commit : PartsSort Entry → UndoCommit
undo_commit parts = λ o C V t covered kind uncommitted facts. record {
  locked = pairs-weaker (held_free-commit o C t) V facts.locked;
  legal = facts.legal;
  sorts = sorts-commit parts o C V t uncommitted facts.locked facts.sorts;
}
