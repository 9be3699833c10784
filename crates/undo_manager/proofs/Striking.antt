-- What a manager keeps at a strike.
use Rattle.std.proofs.Common.{◌≡◌, ◌-◌, ℕ, Bool, not, List, ◌++◌, length, take, drop, Some, refl, sym, ap, ◌∙◌, arith}
use Rattle.std.specs.List.{filter}
use Rattle.std.proofs.lemmas.List.{take-append-drop, length-take-le}
use Rattle.type_table.specs.Run.{run, IsLegal}
use Rattle.type_table.specs.Laws.{RunsAlong, EndsWithin}
use Rattle.type_table.proofs.Legal.{legal_there}
use Rattle.type_table.proofs.Elements.{differ_turned}
use Rattle.table_checker.specs.Checked.{Checked}
use Rattle.object_trait.specs.Object.{object_of}
use Rattle.object_trait.specs.Strike.{keep_first}
use Rattle.object_trait.specs.Meaning.{log_ops, is_open_of, open_of}
use Rattle.object_trait.specs.Steps.{IsSettled, IsStrike}
use Rattle.object_trait.specs.Laws.{KeepsFirst, KeepsNone, KeepsParts, KeepsOthers, StruckLogIsLegal, SoundAfterStrike}
use Rattle.object_trait.specs.declared.log_entry.LogEntry.{LogEntry}
use Rattle.object_trait.proofs.Striking.{keep_first-all}
use Rattle.object_trait.proofs.Runs.{ops-append, open-apart}
use Rattle.op_locks.specs.Locks.{is_held_by}
use Rattle.undo_manager.specs.Held.{held_in}
use Rattle.undo_manager.specs.Kept.{IsKeptInPlace}
use Rattle.undo_manager.specs.Log.{entries, LeadsTo, start_of, unsettled}
use Rattle.undo_manager.specs.Opened.{IsRecounted}
use Rattle.undo_manager.specs.Rerun.{IsRerun, IsTakenBack}
use Rattle.undo_manager.specs.declared.opened.Opened.{Opened}
use Rattle.undo_manager.specs.declared.undo_entry.UndoEntry.{UndoEntry}
use Rattle.undo_manager.proofs.Keeping.{meaning_of, recounted, IsLeft, settled-kept}
use Rattle.undo_manager.proofs.Holding.{held-left, held-settled}
use Rattle.undo_manager.proofs.InPlace.{sound_in, sound_out, strike_in}
use Rattle.undo_manager.proofs.Passing.{opens, opens-split}
use Rattle.undo_manager.proofs.Rerunning.{left_of}
use Rattle.undo_manager.proofs.Running.{entries-append, steps-run, steps-join, steps-part}
use Rattle.undo_manager.proofs.Settling.{unsettled-settled}

-- ---- what a strike leaves

-- of a log put together, from whose second part on there are m to be struck
strike-parts : KeepsNone LogEntry → KeepsParts LogEntry → (mine : LogEntry → Bool) (n : ℕ) (V W : List LogEntry) → n ≡ length (filter mine V) →
    keep_first mine n (V ++ W) ≡ V ++ filter (λ e. not (mine e)) W
strike-parts none parts mine n V W e =
    let zero_left : n - length (filter mine V) ≡ 0 = omega arith in
    parts mine n V W ∙
    (ap (λ l. l ++ keep_first mine (n - length (filter mine V)) W) (ap (λ k. keep_first mine k V) e ∙ keep_first-all mine V) ∙
    ap (λ l. V ++ l) (ap (λ k. keep_first mine k W) zero_left ∙ none mine W))

-- a log in two parts
log-parts : (place : ℕ) (log : List UndoEntry) → entries log ≡ entries (take place log) ++ entries (drop place log)
log-parts place log = ap entries (sym (take-append-drop place log)) ∙ entries-append (take place log) (drop place log)

-- from the place on from which there are m of t, all of t's go
strike-log : KeepsNone LogEntry → KeepsParts LogEntry → (t m place : ℕ) (log : List UndoEntry) → opens t (drop place log) ≡ m →
    keep_first (is_open_of t) (opens t log - m) (entries log) ≡ entries (take place log) ++ left_of t (drop place log)
strike-log none parts t m place log passed =
    let n : ℕ = opens t log - m in
    let count : n ≡ opens t (take place log) = omega (arith, opens-split t place log) in
    ap (keep_first (is_open_of t) n) (log-parts place log) ∙ strike-parts none parts (is_open_of t) n (entries (take place log)) (entries (drop place log)) count

-- a log in two parts, each with its steps
log-steps : (c : Checked) (base state place : ℕ) (log : List UndoEntry) → LeadsTo c.file.table base log state →
    LeadsTo c.file.table base (take place log) (start_of (drop place log) state) × LeadsTo c.file.table (start_of (drop place log) state) (drop place log) state
log-steps c base state place log steps = steps-part c.file.table base (take place log) (drop place log) state (rw (take-append-drop place log) steps)

-- what is left there can be run from the state before that place
pub strike-legal : RunsAlong → KeepsNone LogEntry → KeepsParts LogEntry → StruckLogIsLegal → (c : Checked) (base state : ℕ) (log : List UndoEntry) (counts : List Opened) (t m place : ℕ) →
    IsKeptInPlace c base state log counts → opens t (drop place log) ≡ m → IsLegal c.file.table (Some (start_of (drop place log) state)) (log_ops (left_of t (drop place log)))
strike-legal along none parts legal c base state log counts t m place kept passed =
    let front : List LogEntry = entries (take place log) in
    let left : List LogEntry = left_of t (drop place log) in
    let start : ℕ = start_of (drop place log) state in
    let whole : IsLegal c.file.table (Some base) (log_ops (keep_first (is_open_of t) (opens t log - m) (entries log))) =
    legal (meaning_of c base log) t m kept.covered kept.in_place (sound_in c.kind kept.in_place (object_of c) base (entries log) kept.sound) in
    let split : IsLegal c.file.table (Some base) (log_ops front ++ log_ops left) = rw (strike-log none parts t m place log passed, ops-append front left) at whole in
    let after : IsLegal c.file.table (run c.file.table (Some base) (log_ops front)) (log_ops left) = rw (along c.file.table (Some base) (log_ops front) (log_ops left)) at split in
    legal_there c.file.table (run c.file.table (Some base) (log_ops front)) start (log_ops left)
    (steps-run c.file.table base (take place log) start (log-steps c base state place log kept.steps).0) after

-- ---- after it

-- the entries of a log that was run again
rerun-entries : KeepsNone LogEntry → KeepsParts LogEntry → (c : Checked) (t m place : ℕ) (log : List UndoEntry) (start : ℕ) (new : List UndoEntry) (end : ℕ) →
    IsRerun c.file.table t place log start new end → opens t (drop place log) ≡ m → entries new ≡ keep_first (is_open_of t) (opens t log - m) (entries log)
rerun-entries none parts c t m place log start new end r passed =
    ap entries r.items ∙ (entries-append (take place log) r.rest ∙ (ap (λ l. entries (take place log) ++ l) r.left ∙ sym (strike-log none parts t m place log passed)))

-- the log that was run again
struck-left : KeepsFirst LogEntry → KeepsNone LogEntry → KeepsParts LogEntry → KeepsOthers LogEntry → (c : Checked) (base state : ℕ) (log : List UndoEntry) (counts : List Opened) (t m place : ℕ)
    (new : List UndoEntry) (end : ℕ) (new_counts : List Opened) → IsKeptInPlace c base state log counts → opens t (drop place log) ≡ m →
    IsRerun c.file.table t place log (start_of (drop place log) state) new end → IsRecounted t (opens t log - m) counts new_counts → IsLeft c base end new new_counts
struck-left first none parts others c base state log counts t m place new end new_counts kept passed r recount =
    let n : ℕ = opens t log - m in
    let start : ℕ = start_of (drop place log) state in
    let same : entries new ≡ keep_first (is_open_of t) n (entries log) = rerun-entries none parts c t m place log start new end r passed in
    let mine : open_of t (entries new) ≡ take n (open_of t (entries log)) = ap (open_of t) same ∙ (first (is_open_of t) n (entries log)).0 in
    record {
      in_place = kept.in_place;
      table = kept.table;
      covered = kept.covered;
      base_fits = kept.base_fits;
      room = omega (arith, r.fewer, kept.room);
      steps = rw r.items (steps-join c.file.table base (take place log) r.rest start end (log-steps c base state place log kept.steps).0 r.steps);
      counted = recounted (entries log) (entries new) counts new_counts t n kept.counted recount
          (sym (ap length mine ∙ length-take-le n (open_of t (entries log)) (omega arith)))
          (λ u differ. ap length (ap (open_of u) same ∙ others (is_open_of t) (is_open_of u) n (entries log) (open-apart u t (differ_turned t u differ))));
    }

-- what is settled of it
struck-settled : KeepsNone LogEntry → KeepsParts LogEntry → (c : Checked) (base : ℕ) (log : List UndoEntry) (t m place start : ℕ) (new : List UndoEntry) (end : ℕ) (new_counts : List Opened) →
    IsLeft c base end new new_counts → opens t (drop place log) ≡ m → IsRerun c.file.table t place log start new end →
    IsSettled (object_of c) base (keep_first (is_open_of t) (opens t log - m) (entries log)) (start_of (unsettled new) end) (entries (unsettled new))
struck-settled none parts c base log t m place start new end new_counts left passed r =
    rw (rerun-entries none parts c t m place log start new end r passed) at (unsettled-settled (object_of c) base new end left.steps)

-- the meaning is that after a strike
struck-is : KeepsNone LogEntry → KeepsParts LogEntry → (c : Checked) (base : ℕ) (log : List UndoEntry) (t m place start : ℕ) (new : List UndoEntry) (end : ℕ) (new_counts : List Opened) →
    IsLeft c base end new new_counts → opens t (drop place log) ≡ m → IsRerun c.file.table t place log start new end →
    IsStrike (meaning_of c base log) t m (meaning_of c (start_of (unsettled new) end) (unsettled new))
struck-is none parts c base log t m place start new end new_counts left passed r = record {
  checked = refl;
  strike = strike_in c.kind left.in_place (object_of c) base (entries log) t (opens t log - m) (start_of (unsettled new) end) (entries (unsettled new))
      (struck-settled none parts c base log t m place start new end new_counts left passed r);
}

-- what a strike leaves
pub record IsStruck (c : Checked) (base : ℕ) (log : List UndoEntry) (t m : ℕ) (new : List UndoEntry) (end : ℕ) (new_counts : List Opened) : Type 0 where
  pub kept : IsKeptInPlace c (start_of (unsettled new) end) end (unsettled new) new_counts
  pub held : held_in (entries (unsettled new)) ≡ keep_first (is_held_by t) (opens t log - m) (held_in (entries log))
  pub strike : IsStrike (meaning_of c base log) t m (meaning_of c (start_of (unsettled new) end) (unsettled new))

-- all is kept
pub struck : EndsWithin → SoundAfterStrike → KeepsFirst LogEntry → KeepsNone LogEntry → KeepsParts LogEntry → KeepsOthers LogEntry →
    (c : Checked) (base state : ℕ) (log : List UndoEntry) (counts : List Opened) (t m : ℕ) (new : List UndoEntry) (end : ℕ) (new_counts : List Opened) →
    IsKeptInPlace c base state log counts → IsTakenBack c.file.table t m log state new end → IsRecounted t (opens t log - m) counts new_counts → IsStruck c base log t m new end new_counts
struck ends sound first none parts others c base state log counts t m new end new_counts kept back recount =
    let left = struck-left first none parts others c base state log counts t m back.place new end new_counts kept back.passed back.rerun recount in
    let new_base : ℕ = start_of (unsettled new) end in
    let n : ℕ = opens t log - m in
    let strike = struck-is none parts c base log t m back.place (start_of (drop back.place log) state) new end new_counts left back.passed back.rerun in
    record {
      kept = settled-kept ends c base end new new_counts left
          (sound_out c.kind kept.in_place (object_of c) new_base (entries (unsettled new))
          (sound (meaning_of c base log) (meaning_of c new_base (unsettled new)) t n kept.covered (sound_in c.kind kept.in_place (object_of c) base (entries log) kept.sound) strike));
      held = held-settled new ∙ ap held_in (rerun-entries none parts c t m back.place log (start_of (drop back.place log) state) new end back.rerun back.passed) ∙ held-left (entries log) t n;
      strike = strike;
    }
