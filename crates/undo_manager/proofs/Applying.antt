-- What a manager keeps at a further operation.
use Rattle.std.proofs.Common.{◌≡◌, ◌<◌, ◌+◌, ℕ, false, List, [], ◌∷◌, ◌++◌, length, Some, refl, sym, ap, ◌∙◌, arith}
use Rattle.std.proofs.lemmas.List.{length-map, length_push}
use Rattle.type_table.specs.Table.{next}
use Rattle.type_table.specs.Laws.{StepsWithin}
use Rattle.table_checker.specs.Checked.{Checked}
use Rattle.object_trait.specs.Object.{object_of}
use Rattle.object_trait.specs.Steps.{MayApply}
use Rattle.object_trait.specs.Laws.{SoundAfterApply}
use Rattle.object_trait.specs.declared.log_entry.LogEntry.{LogEntry}
use Rattle.undo_manager.specs.Kept.{IsKeptInPlace}
use Rattle.undo_manager.specs.Log.{entries, BeginsOpen}
use Rattle.undo_manager.specs.Opened.{count_of, IsRecounted}
use Rattle.undo_manager.specs.declared.opened.Opened.{Opened}
use Rattle.undo_manager.specs.declared.undo_entry.UndoEntry.{UndoEntry}
use Rattle.undo_manager.proofs.Keeping.{meaning_of, recounted}
use Rattle.undo_manager.proofs.InPlace.{sound_in, sound_out}
use Rattle.object_trait.proofs.Runs.{open-push_other}
use Rattle.undo_manager.proofs.Marking.{more-mine}
use Rattle.undo_manager.proofs.Running.{entries-append, steps-join}

-- the entry of a further operation
abbrev pub further : ℕ → ℕ → LogEntry
further t k = record { by = t; op = k; done = false }

-- and the state before it
abbrev pub further_one : ℕ → ℕ → ℕ → UndoEntry
further_one t k state = record { entry = further t k; before = state }

-- one more open entry leaves the front open
pushed-begins : (log : List LogEntry) (e : LogEntry) → e.done ≡ false → BeginsOpen log → BeginsOpen (log ++ e ∷ [])
pushed-begins [] e held front = held
pushed-begins (x ∷ log) e held front = front

-- all is kept
pub applied-kept : StepsWithin → SoundAfterApply → (c : Checked) (base state : ℕ) (log : List UndoEntry) (counts new : List Opened) (t k after : ℕ) → IsKeptInPlace c base state log counts →
    MayApply (meaning_of c base log) t k → next c.file.table state k ≡ Some after → IsRecounted t (count_of t counts + 1) counts new →
    IsKeptInPlace c base after (log ++ further_one t k state ∷ []) new
applied-kept within sound c base state log counts new t k after kept may step r =
    let one : UndoEntry = further_one t k state in
    let longer : entries (log ++ one ∷ []) ≡ entries log ++ further t k ∷ [] = entries-append log (one ∷ []) in
    let fits : length log < 4294967295 = omega (arith, length-map log (λ (u : UndoEntry). u.entry), may.room) in
    record {
      in_place = kept.in_place;
      table = kept.table;
      covered = kept.covered;
      base_fits = kept.base_fits;
      state_fits = (within c.file.table state k after kept.table step).2;
      room = omega (arith, length_push log one);
      steps = steps-join c.file.table base log (one ∷ []) state after kept.steps (refl, (after, (step, refl)));
      sound = rw longer (sound_out c.kind kept.in_place (object_of c) base (entries log ++ further t k ∷ [])
          (sound (meaning_of c base log) t k kept.covered (sound_in c.kind kept.in_place (object_of c) base (entries log) kept.sound) may));
      front = rw longer (pushed-begins (entries log) (further t k) refl kept.front);
      counted = rw longer (recounted (entries log) (entries log ++ further t k ∷ []) counts new t (count_of t counts + 1) kept.counted r
          (ap (λ n. n + 1) (kept.counted.exact t) ∙ sym (more-mine (entries log) (further t k) refl))
          (λ u differ. ap length (open-push_other u (entries log) (further t k) differ)));
    }
