-- What a manager keeps at a commit.
use Rattle.std.proofs.Common.{ℕ, List, map, length, refl, sym, ap, ◌∙◌, arith}
use Rattle.std.proofs.lemmas.List.{length-map}
use Rattle.type_table.specs.Laws.{EndsWithin}
use Rattle.table_checker.specs.Checked.{Checked}
use Rattle.object_trait.specs.Object.{object_of}
use Rattle.object_trait.specs.Meaning.{open_of}
use Rattle.object_trait.specs.Steps.{marked, IsSettled, IsCommit}
use Rattle.object_trait.specs.Laws.{SoundAfterCommit}
use Rattle.undo_manager.specs.Kept.{IsKeptInPlace}
use Rattle.undo_manager.specs.Log.{entries, start_of, unsettled, marked_one}
use Rattle.undo_manager.specs.Opened.{IsRecounted}
use Rattle.undo_manager.specs.declared.opened.Opened.{Opened}
use Rattle.undo_manager.specs.declared.undo_entry.UndoEntry.{UndoEntry}
use Rattle.undo_manager.proofs.Keeping.{meaning_of, recounted, IsLeft, settled-kept}
use Rattle.undo_manager.proofs.InPlace.{sound_in, sound_out, commit_in}
use Rattle.undo_manager.proofs.Marking.{marked-mine, marked-others}
use Rattle.undo_manager.proofs.Running.{steps-marked, entries-marked}
use Rattle.undo_manager.proofs.Settling.{unsettled-settled}

-- the log with t's marks, and without its leading done entries
abbrev pub committed_log : ℕ → List UndoEntry → List UndoEntry
committed_log t log = unsettled (map (marked_one t) log)

-- the marked log
committed-left : (c : Checked) (base state : ℕ) (log : List UndoEntry) (counts new : List Opened) (t : ℕ) → IsKeptInPlace c base state log counts → IsRecounted t 0 counts new →
    IsLeft c base state (map (marked_one t) log) new
committed-left c base state log counts new t kept r = record {
  in_place = kept.in_place;
  table = kept.table;
  covered = kept.covered;
  base_fits = kept.base_fits;
  room = omega (arith, length-map log (marked_one t), kept.room);
  steps = steps-marked c.file.table t base log state kept.steps;
  counted = recounted (entries log) (entries (map (marked_one t) log)) counts new t 0 kept.counted r
      (sym (ap length (ap (open_of t) (entries-marked t log) ∙ marked-mine t (entries log))))
      (λ u differ. ap length (ap (open_of u) (entries-marked t log) ∙ marked-others t u (entries log) differ));
}

-- what is settled of it
committed-settled : (c : Checked) (base state : ℕ) (log : List UndoEntry) (counts : List Opened) (t : ℕ) → IsKeptInPlace c base state log counts →
    IsSettled (object_of c) base (map (marked t) (entries log)) (start_of (committed_log t log) state) (entries (committed_log t log))
committed-settled c base state log counts t kept =
    rw (entries-marked t log) at (unsettled-settled (object_of c) base (map (marked_one t) log) state (steps-marked c.file.table t base log state kept.steps))

-- the meaning is that after a commit
pub committed : (c : Checked) (base state : ℕ) (log : List UndoEntry) (counts : List Opened) (t : ℕ) → IsKeptInPlace c base state log counts →
    IsCommit (meaning_of c base log) t (meaning_of c (start_of (committed_log t log) state) (committed_log t log))
committed c base state log counts t kept = record {
  checked = refl;
  commit = commit_in c.kind kept.in_place (object_of c) base (entries log) t (start_of (committed_log t log) state) (entries (committed_log t log)) (committed-settled c base state log counts t kept);
}

-- and all is kept
pub commit-kept : EndsWithin → SoundAfterCommit → (c : Checked) (base state : ℕ) (log : List UndoEntry) (counts new : List Opened) (t : ℕ) → IsKeptInPlace c base state log counts →
    IsRecounted t 0 counts new → IsKeptInPlace c (start_of (committed_log t log) state) state (committed_log t log) new
commit-kept ends sound c base state log counts new t kept r =
    let new_base : ℕ = start_of (committed_log t log) state in
    settled-kept ends c base state (map (marked_one t) log) new (committed-left c base state log counts new t kept r)
    (sound_out c.kind kept.in_place (object_of c) new_base (entries (committed_log t log))
    (sound (meaning_of c base log) (meaning_of c new_base (committed_log t log)) t kept.covered (sound_in c.kind kept.in_place (object_of c) base (entries log) kept.sound)
    (committed c base state log counts t kept)))
