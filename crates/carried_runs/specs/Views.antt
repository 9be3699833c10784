-- What a carried transaction sees at an object, before and after.
use Rattle.std.specs.Prelude.{◌≡◌, ℕ, ◌||◌, List, ◌++◌, filter, Some}
use Rattle.type_table.specs.Run.{run, Looks, AreEqui}
use Rattle.type_table.specs.declared.kind.Kind.{Kind}
use Rattle.type_table.specs.declared.kind.Kind.TheVariants.{Undo, Intentions, Escrow}
use Rattle.object_trait.specs.Object.{Object, IsCoveredStrongly}
use Rattle.serial_order.specs.Operations.{is_among, ops, of, serial}
use Rattle.serial_order.specs.declared.entry.Entry.{Entry}
use Rattle.committed_states.specs.Committed.{of_these}

-- the operations of these transactions or those, in the order in which they were executed
abbrev pub of_either : List ℕ → List ℕ → List Entry → List Entry
of_either C P V = filter (λ e. is_among C e.by || is_among P e.by) V

-- what t sees in the next epoch, where V survived. In place: all that is carried, else its own
abbrev pub carried_view : Kind → List ℕ → List Entry → ℕ → List Entry
carried_view Undo P V t = of_these P V
carried_view Intentions P V t = of t V
carried_view Escrow P V t = of t V

-- what t saw where C committed, with all others aborted, and what it sees after s. In place: what it sees allows what it saw allows, and is
-- equieffective to it where the yes is strong. Deferred update: the two are equieffective. Escrow: they are one
abbrev pub SeesBy : Kind → Object → List ℕ → List ℕ → List Entry → ℕ → ℕ → Type 0
SeesBy Undo o C P V s t =
    Looks o.table (run o.table (Some o.table.initial) (ops (of_either C P V))) (run o.table (Some s) (ops (of_these P V)))
    × (IsCoveredStrongly o → AreEqui o.table (run o.table (Some o.table.initial) (ops (of_either C P V))) (run o.table (Some s) (ops (of_these P V))))
SeesBy Intentions o C P V s t = AreEqui o.table (run o.table (Some o.table.initial) (ops (serial C V ++ of t V))) (run o.table (Some s) (ops (of t V)))
SeesBy Escrow o C P V s t = run o.table (Some o.table.initial) (ops (serial C V ++ of t V)) ≡ run o.table (Some s) (ops (of t V))
