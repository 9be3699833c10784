-- The state along the done entries of a log.
use Rattle.std.proofs.Common.{◌≡◌, ℕ, ◌+◌, ◌<◌, true, false, List, ◌∷◌, length, drop, get_or, Some, IsSome, refl, sym, ap, ◌∙◌}
use Rattle.std.proofs.lemmas.List.{drop_more}
use Rattle.std.proofs.Math.Seq.{drop-length}
use Rattle.type_table.specs.Table.{Table, next}
use Rattle.type_table.specs.Run.{run, IsLegal}
use Rattle.type_table.proofs.Legal.{legal-somewhere}
use Rattle.object_trait.specs.Meaning.{log_ops}
use Rattle.object_trait.specs.Committed.{done_of}
use Rattle.undo_manager.specs.Log.{entries}
use Rattle.undo_manager.specs.declared.undo_entry.UndoEntry.{UndoEntry}

-- the operations of the done entries
abbrev pub done_ops : List UndoEntry → List ℕ
done_ops log = log_ops (done_of (entries log))

-- s is the state after the done entries of the first i, as far as what comes after them goes
abbrev pub IsUpTo : Table → ℕ → List UndoEntry → ℕ → ℕ → Type 0
IsUpTo T base log i s = run T (Some s) (done_ops (drop i log)) ≡ run T (Some base) (done_ops log)

module _ (T : Table) (base : ℕ) (log : List UndoEntry) (i s : ℕ) (one : UndoEntry) (known : IsUpTo T base log i s) (inside : i < length log) (is : one ≡ get_or log i one) where
  next-entry : drop i log ≡ one ∷ drop (i + 1) log
  next-entry = drop_more log i one inside ∙ ap (λ e. e ∷ drop (i + 1) log) (sym is)

  pub up-legal : IsLegal T (Some base) (done_ops log) → one.entry.done ≡ true → IsSome (next T s one.entry.op)
  up-legal legal done =
      let here : IsLegal T (Some s) (done_ops (drop i log)) = rw known legal in
      legal-somewhere T (next T s one.entry.op) (done_ops (drop (i + 1) log)) (rw (next-entry, done) at here)

  pub up-done : (t : ℕ) → one.entry.done ≡ true → next T s one.entry.op ≡ Some t → IsUpTo T base log (i + 1) t
  up-done t done step =
      let rest = done_ops (drop (i + 1) log) in
      let first : done_ops (one ∷ drop (i + 1) log) ≡ one.entry.op ∷ rest = rw done refl in
      ap (λ from. run T from rest) (sym step) ∙ ap (run T (Some s)) (sym (ap done_ops next-entry ∙ first)) ∙ known

  pub up-open : one.entry.done ≡ false → IsUpTo T base log (i + 1) s
  up-open open_now = sym (rw (next-entry, open_now) at (sym known))

pub up-ends : (T : Table) (base : ℕ) (log : List UndoEntry) (i s : ℕ) → IsUpTo T base log i s → i ≡ length log → run T (Some base) (done_ops log) ≡ Some s
up-ends T base log i s known all = sym known ∙ ap (λ l. run T (Some s) (done_ops l)) (ap (λ n. drop n log) all ∙ drop-length log)
