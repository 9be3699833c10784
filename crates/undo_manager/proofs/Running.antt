-- Runs, one step at a time, and logs that keep the state before each entry.
use Rattle.std.proofs.Common.{◌≡◌, ℕ, List, [], ◌∷◌, ◌++◌, map, Option, Some, refl, sym, ap}
use Rattle.std.proofs.lemmas.List.{map-append}
use Rattle.type_table.specs.Table.{Table, next}
use Rattle.type_table.specs.Run.{run}
use Rattle.object_trait.specs.Meaning.{log_ops}
use Rattle.object_trait.specs.Steps.{marked}
use Rattle.undo_manager.specs.Log.{entries, LeadsTo, start_of, marked_one}
use Rattle.undo_manager.specs.declared.undo_entry.UndoEntry.{UndoEntry}

-- ---- steps

-- a run after a step goes on from the state to which it leads
pub run_there : (T : Table) (o : Option ℕ) (t : ℕ) (w : List ℕ) (end : Option ℕ) → o ≡ Some t → run T (Some t) w ≡ end → run T o w ≡ end
run_there T o t w end e h = rw e h

-- the entries of a log put together
pub entries-append : (V W : List UndoEntry) → entries (V ++ W) ≡ entries V ++ entries W
entries-append V W = map-append (λ (u : UndoEntry). u.entry) V W

-- ---- logs that keep the states before their entries

-- a log leads along its operations to its end
pub steps-run : (T : Table) (s : ℕ) (log : List UndoEntry) (end : ℕ) → LeadsTo T s log end → run T (Some s) (log_ops (entries log)) ≡ Some end
steps-run T s [] end h = ap Some h
steps-run T s (u ∷ log) end h = run_there T (next T s u.entry.op) h.1.0 (log_ops (entries log)) (Some end) h.1.1.0 (steps-run T h.1.0 log end h.1.1.1)

-- and begins at the state before it
pub steps-start : (T : Table) (s : ℕ) (log : List UndoEntry) (end : ℕ) → LeadsTo T s log end → start_of log end ≡ s
steps-start T s [] end h = sym h
steps-start T s (u ∷ log) end h = h.0

-- one log after another
pub steps-join : (T : Table) (s : ℕ) (V W : List UndoEntry) (mid end : ℕ) → LeadsTo T s V mid → LeadsTo T mid W end → LeadsTo T s (V ++ W) end
steps-join T s [] W mid end v w = rw v w
steps-join T s (u ∷ V) W mid end v w = (v.0, (v.1.0, (v.1.1.0, steps-join T v.1.0 V W mid end v.1.1.1 w)))

-- and the two apart
pub steps-part : (T : Table) (s : ℕ) (V W : List UndoEntry) (end : ℕ) → LeadsTo T s (V ++ W) end → LeadsTo T s V (start_of W end) × LeadsTo T (start_of W end) W end
steps-part T s [] W end h =
    let e = steps-start T s W end h in
    (sym e, rw e h)
steps-part T s (u ∷ V) W end h =
    let rest = steps-part T h.1.0 V W end h.1.1.1 in
    ((h.0, (h.1.0, (h.1.1.0, rest.0))), rest.1)

-- marks change no step
pub steps-marked : (T : Table) (t s : ℕ) (log : List UndoEntry) (end : ℕ) → LeadsTo T s log end → LeadsTo T s (map (marked_one t) log) end
steps-marked T t s [] end h = h
steps-marked T t s (u ∷ log) end h = (h.0, (h.1.0, (h.1.1.0, steps-marked T t h.1.0 log end h.1.1.1)))

-- the entries of a marked log are its marked entries
pub entries-marked : (t : ℕ) (log : List UndoEntry) → entries (map (marked_one t) log) ≡ map (marked t) (entries log)
entries-marked t [] = refl
entries-marked t (u ∷ log) = ap (λ rest. marked t u.entry ∷ rest) (entries-marked t log)
