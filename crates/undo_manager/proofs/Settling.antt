-- Logs without their leading done entries.
use Rattle.std.proofs.Common.{◌≡◌, ◌<◌, ◌≤◌, ℕ, true, false, not, eqb, List, [], ◌∷◌, length, drop, get_or, Some, refl, sym, ap, ◌∙◌, inl, inr, arith}
use Rattle.std.proofs.lemmas.Bool.{cases_Bool, and_right, not_from_true}
use Rattle.std.proofs.lemmas.List.{drop_more}
use Rattle.type_table.specs.Table.{Table, next}
use Rattle.object_trait.specs.Object.{Object}
use Rattle.object_trait.specs.Meaning.{log_ops, open_of}
use Rattle.object_trait.specs.Steps.{IsSettled}
use Rattle.undo_manager.specs.Log.{entries, LeadsTo, start_of, unsettled, BeginsOpen}
use Rattle.undo_manager.specs.declared.undo_entry.UndoEntry.{UndoEntry}
use Rattle.undo_manager.proofs.Running.{run_there}

-- the state before a place is the one that the entry there keeps
pub start-behind : (log : List UndoEntry) (place end : ℕ) (d : UndoEntry) → place < length log → start_of (drop place log) end ≡ (get_or log place d).before
start-behind log place end d inside = rw (drop_more log place d inside) refl

-- a leading done entry goes
pub unsettled-done : (u : UndoEntry) (log : List UndoEntry) → u.entry.done ≡ true → unsettled (u ∷ log) ≡ unsettled log
unsettled-done u log done = rw done refl

-- and an open one stays, with all that comes after it
pub unsettled-open : (u : UndoEntry) (log : List UndoEntry) → u.entry.done ≡ false → unsettled (u ∷ log) ≡ u ∷ log
unsettled-open u log held = rw held refl

-- what is left begins with an open entry
pub unsettled-begins : (log : List UndoEntry) → BeginsOpen (entries (unsettled log))
unsettled-begins [] = tt
unsettled-begins (u ∷ log) =
    elim (cases_Bool u.entry.done) [
      | inl done ↦ rw (unsettled-done u log done) (unsettled-begins log)
      | inr held ↦ rw (unsettled-open u log held) held
    ]

-- it is no longer than the log
pub unsettled-length : (log : List UndoEntry) → length (unsettled log) ≤ length log
unsettled-length [] = omega arith
unsettled-length (u ∷ log) =
    let rest : length (unsettled log) ≤ length log = unsettled-length log in
    elim (cases_Bool u.entry.done) [
      | inl done ↦ rw (unsettled-done u log done) (omega arith)
      | inr held ↦ rw (unsettled-open u log held) (omega arith)
    ]

-- it leads from the state before it to the same end
pub unsettled-steps : (T : Table) (s : ℕ) (log : List UndoEntry) (end : ℕ) → LeadsTo T s log end → LeadsTo T (start_of (unsettled log) end) (unsettled log) end
unsettled-steps T s [] end h = refl
unsettled-steps T s (u ∷ log) end h =
    elim (cases_Bool u.entry.done) [
      | inl done ↦ rw (unsettled-done u log done) (unsettled-steps T h.1.0 log end h.1.1.1)
      | inr held ↦ rw (unsettled-open u log held) (refl, rw h.0 h.1)
    ]

-- the base becomes the state before it
pub unsettled-settled : (o : Object) (s : ℕ) (log : List UndoEntry) (end : ℕ) → LeadsTo o.table s log end → IsSettled o s (entries log) (start_of (unsettled log) end) (entries (unsettled log))
unsettled-settled o s [] end h = record { moved = []; front = refl; done = tt; reached = ap Some h }
unsettled-settled o s (u ∷ log) end h =
    let rest = unsettled-settled o h.1.0 log end h.1.1.1 in
    elim (cases_Bool u.entry.done) [
      | inl done ↦ rw (unsettled-done u log done) (record {
        moved = u.entry ∷ rest.moved;
        front = ap (λ r. u.entry ∷ r) rest.front;
        done = (done, rest.done);
        reached = run_there o.table (next o.table s u.entry.op) h.1.0 (log_ops rest.moved) (Some (start_of (unsettled log) end)) h.1.1.0 rest.reached;
      })
      | inr held ↦ rw (unsettled-open u log held) (record { moved = []; front = refl; done = tt; reached = ap Some (sym h.0) })
    ]

-- a done entry is nobody's open one
done-closed : (t : ℕ) (u : UndoEntry) (log : List UndoEntry) → u.entry.done ≡ true → open_of t (entries (u ∷ log)) ≡ open_of t (entries log)
done-closed t u log done = rw (and_right (eqb u.entry.by t) (not u.entry.done) (not_from_true u.entry.done done)) refl

-- all open entries are left
pub unsettled-opens : (t : ℕ) (log : List UndoEntry) → open_of t (entries (unsettled log)) ≡ open_of t (entries log)
unsettled-opens t [] = refl
unsettled-opens t (u ∷ log) =
    elim (cases_Bool u.entry.done) [
      | inl done ↦ ap (λ left. open_of t (entries left)) (unsettled-done u log done) ∙ (unsettled-opens t log ∙ sym (done-closed t u log done))
      | inr held ↦ ap (λ left. open_of t (entries left)) (unsettled-open u log held)
    ]
