-- What a transaction sees at an object: Weihl's views of update in place and of deferred update, of which escrow has the second.
use Rattle.std.specs.Prelude.{ℕ, suc, ◌+◌, List, [], ◌∷◌, ◌++◌, Bool, true, ◌&&◌, not, ◌==◌, nat_lt, length, Some, is_some, unwrap_or}
use Rattle.type_table.specs.Table.{is_same_call}
use Rattle.type_table.specs.Run.{run}
use Rattle.type_table.specs.declared.kind.Kind.{Kind}
use Rattle.type_table.specs.declared.kind.Kind.TheVariants.{Undo, Intentions, Escrow}
use Rattle.escrow_laws.specs.Firm.{with_op, keeps}
use Rattle.object_trait.specs.Object.{Object}
use Rattle.object_trait.specs.Alone.{keeps_alone}
use Rattle.serial_order.specs.Operations.{ops, at_object, of, serial, pending}
use Rattle.serial_order.specs.History.{Summary, is_open}
use Rattle.serial_order.specs.declared.entry.Entry.{Entry}

-- the operations that t sees at x. Update in place: all that survive, in the order in which they were executed. Deferred update and
-- escrow: those of the committed transactions, in commit order, and then its own
abbrev pub view : Kind → Summary → ℕ → ℕ → List Entry
view Undo s x t = at_object x s.survives
view Intentions s x t = serial s.committed (at_object x s.survives) ++ of t (at_object x s.survives)
view Escrow s x t = serial s.committed (at_object x s.survives) ++ of t (at_object x s.survives)

-- operation k is legal after these, from the initial state
abbrev pub is_legal_after : Object → List Entry → ℕ → Bool
is_legal_after o V k = is_some (run o.table (Some o.table.initial) (ops V ++ k ∷ []))

-- operation k is legal for t at x
abbrev pub is_legal_for : Object → Summary → ℕ → ℕ → ℕ → Bool
is_legal_for o s x t k = is_legal_after o (view o.kind s x t) k

-- a number above_at t and each transaction of these operations
abbrev pub above_at : ℕ → List Entry → ℕ
above_at t [] = suc t
above_at t (e ∷ V) = above_at t V + suc e.by

-- what each transaction that didn't commit did
abbrev pub own_at : List ℕ → List Entry → ℕ → List ℕ
own_at C V u = ops (of u (pending C V))

-- the number to which the serial order leads
abbrev pub number_at : Object → List ℕ → List Entry → ℕ
number_at o C V = unwrap_or (run o.table (Some o.table.initial) (ops (serial C V))) 0

-- where C committed and V survives, this operation of another open transaction keeps t from k: it conflicts; or with k, what this one's
-- transaction or t did would not be legal whatever the others do
abbrev pub stops_at : Kind → Object → List ℕ → List Entry → ℕ → ℕ → Entry → Bool
stops_at Undo o C V t k e = o.conflicts k e.op
stops_at Intentions o C V t k e = o.conflicts k e.op
stops_at Escrow o C V t k e = keeps o.table o.amounts (number_at o C V) (with_op (own_at C V) t k) (above_at t (pending C V)) t e.by

-- its transaction alone keeps t from k, if it does
abbrev pub alone_at : Kind → Object → List ℕ → List Entry → ℕ → ℕ → Entry → Bool
alone_at Undo o C V t k e = true
alone_at Intentions o C V t k e = true
alone_at Escrow o C V t k e = keeps_alone o.table o.amounts (number_at o C V) (with_op (own_at C V) t k) t e.by

-- at x
abbrev pub is_alone : Object → Summary → ℕ → ℕ → ℕ → Entry → Bool
is_alone o s x t k e = alone_at o.kind o s.committed (at_object x s.survives) t k e

-- this operation of another open transaction keeps t from k at x
abbrev pub conflicts_with : Object → Summary → ℕ → ℕ → ℕ → Entry → Bool
conflicts_with o s x t k e = is_open s e.by && (not (e.by == t) && stops_at o.kind o s.committed (at_object x s.survives) t k e)

-- operation k is one of the call whose first operation is c
abbrev pub is_of_call : Object → ℕ → ℕ → Bool
is_of_call o c k = nat_lt k (length o.table.ops) && is_same_call o.table k c
