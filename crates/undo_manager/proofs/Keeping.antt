-- What a manager keeps: what its meaning owes to it, and that it is kept where a log is settled.
use Rattle.std.proofs.Common.{◌≡◌, ◌<◌, ◌≤◌, ℕ, false, not, eqb, List, [], ◌∷◌, length, Option, Some, IsSome, refl, sym, ap, ◌∙◌, inl, inr, arith}
use Rattle.std.proofs.lemmas.Bool.{cases_Bool, eqb-true}
use Rattle.std.proofs.lemmas.List.{length-map}
use Rattle.std.proofs.lemmas.List.Filters.{length-filter_both}
use Rattle.type_table.specs.Table.{Table, IsTable, next}
use Rattle.type_table.specs.Run.{run, IsLegal}
use Rattle.type_table.specs.Laws.{EndsWithin}
use Rattle.type_table.specs.declared.kind.Kind.TheVariants.{Undo}
use Rattle.table_checker.specs.Checked.{Checked, IsChecked}
use Rattle.object_trait.specs.Object.{IsCovered, object_of}
use Rattle.object_trait.specs.Meaning.{Meaning, log_ops, is_open_of, open_of, state_of, view_of}
use Rattle.object_trait.specs.Committed.{done_of, committed_of}
use Rattle.object_trait.specs.Sound.{IsSoundUndo}
use Rattle.object_trait.specs.Steps.{IsLegalFor}
use Rattle.object_trait.specs.Laws.{CheckedIsCovered, FreshIsSound, OpensAreCounted, SoundHasCommitted}
use Rattle.object_trait.specs.declared.log_entry.LogEntry.{LogEntry}
use Rattle.undo_manager.specs.Kept.{IsKeptInPlace}
use Rattle.undo_manager.specs.Log.{entries, LeadsTo, start_of, unsettled}
use Rattle.undo_manager.specs.Opened.{count_of, HasCounts, IsRecounted}
use Rattle.undo_manager.specs.declared.opened.Opened.{Opened}
use Rattle.undo_manager.specs.declared.undo_entry.UndoEntry.{UndoEntry}
use Rattle.undo_manager.proofs.Counting.{counts-length}
use Rattle.undo_manager.proofs.InPlace.{state_in, committed_in, view_in, sound_in, sound_out}
use Rattle.undo_manager.proofs.Running.{steps-run}
use Rattle.undo_manager.proofs.Settling.{unsettled-begins, unsettled-length, unsettled-steps, unsettled-settled, unsettled-opens}

-- what a manager means
abbrev pub meaning_of : Checked → ℕ → List UndoEntry → Meaning
meaning_of c base log = record { checked = c; base = base; log = entries log }

-- ---- what is read

-- the state is the one kept
pub state-is : (c : Checked) (base state : ℕ) (log : List UndoEntry) (counts : List Opened) → IsKeptInPlace c base state log counts → state_of (meaning_of c base log) ≡ Some state
state-is c base state log counts kept =
    state_in c.kind kept.in_place (object_of c) base (entries log) ∙ steps-run c.file.table base log state kept.steps

-- the done entries alone are legal
pub done-legal : SoundHasCommitted → (c : Checked) (base state : ℕ) (log : List UndoEntry) (counts : List Opened) → IsKeptInPlace c base state log counts →
    IsLegal c.file.table (Some base) (log_ops (done_of (entries log)))
done-legal has c base state log counts kept =
    let found = has (meaning_of c base log) kept.covered (sound_in c.kind kept.in_place (object_of c) base (entries log) kept.sound) in
    let reached : run c.file.table (Some base) (log_ops (done_of (entries log))) ≡ Some found.0 = sym (committed_in c.kind kept.in_place (object_of c) base (entries log)) ∙ found.1 in
    rw reached refl

-- and the committed state is that after them
pub committed-is : (c : Checked) (base state : ℕ) (log : List UndoEntry) (counts : List Opened) (s : ℕ) → IsKeptInPlace c base state log counts →
    run c.file.table (Some base) (log_ops (done_of (entries log))) ≡ Some s → committed_of (meaning_of c base log) ≡ Some s
committed-is c base state log counts s kept reached = committed_in c.kind kept.in_place (object_of c) base (entries log) ∙ reached

-- each transaction sees the state
pub view-is : (c : Checked) (base state : ℕ) (log : List UndoEntry) (counts : List Opened) (t : ℕ) → IsKeptInPlace c base state log counts → view_of (meaning_of c base log) t ≡ Some state
view-is c base state log counts t kept =
    view_in c.kind kept.in_place (object_of c) base (entries log) t ∙ steps-run c.file.table base log state kept.steps

-- one operation is legal where it has a next state
one-legal : (T : Table) (o : Option ℕ) (s k : ℕ) → o ≡ Some s → IsSome (next T s k) → IsLegal T o (k ∷ [])
one-legal T o s k e h = rw e h

legal-one : (T : Table) (o : Option ℕ) (s k : ℕ) → o ≡ Some s → IsLegal T o (k ∷ []) → IsSome (next T s k)
legal-one T o s k e h = rw e at h

-- so it is legal for a transaction where the state has a next one
pub legal-for : (c : Checked) (base state : ℕ) (log : List UndoEntry) (counts : List Opened) (t k : ℕ) → IsKeptInPlace c base state log counts →
    IsSome (next c.file.table state k) → IsLegalFor (meaning_of c base log) t k
legal-for c base state log counts t k kept h = one-legal c.file.table (view_of (meaning_of c base log) t) state k (view-is c base state log counts t kept) h

-- and the converse
pub legal-next : (c : Checked) (base state : ℕ) (log : List UndoEntry) (counts : List Opened) (t k : ℕ) → IsKeptInPlace c base state log counts →
    IsLegalFor (meaning_of c base log) t k → IsSome (next c.file.table state k)
legal-next c base state log counts t k kept h = legal-one c.file.table (view_of (meaning_of c base log) t) state k (view-is c base state log counts t kept) h

-- there are no more counts than entries
pub counts-fit : OpensAreCounted → (c : Checked) (base state : ℕ) (log : List UndoEntry) (counts : List Opened) → IsKeptInPlace c base state log counts → length counts ≤ 4294967295
counts-fit count c base state log counts kept =
    omega (arith, (counts-length count (entries log) counts kept.counted).1, length-map log (λ (u : UndoEntry). u.entry), kept.room)

-- and none of a transaction's is more than the log's length
pub count-length : (t : ℕ) (log : List LogEntry) (counts : List Opened) → HasCounts log counts → count_of t counts ≤ length log
count-length t log counts c =
    omega (arith, c.exact t, length-filter_both (is_open_of t) (λ e. not (is_open_of t e)) (λ e. refl) log)

-- ---- new counts

-- where one count is as the new log has it, and the others' entries are as many as they were
pub recounted : (old new : List LogEntry) (counts new_counts : List Opened) (t n : ℕ) → HasCounts old counts → IsRecounted t n counts new_counts → n ≡ length (open_of t new) →
    ((u : ℕ) → eqb u t ≡ false → length (open_of u new) ≡ length (open_of u old)) → HasCounts new new_counts
recounted old new counts new_counts t n c r mine others = record { listed = r.listed; exact = λ u. at u }
  where
    at : (u : ℕ) → count_of u new_counts ≡ length (open_of u new)
    at u =
        elim (cases_Bool (eqb u t)) [
          | inl same ↦ rw (eqb-true u t same) (r.mine ∙ mine)
          | inr differ ↦ r.others u differ ∙ (c.exact u ∙ sym (others u differ))
        ]

-- ---- settling

-- what is kept of a log that isn't settled yet
pub record IsLeft (c : Checked) (base state : ℕ) (log : List UndoEntry) (counts : List Opened) : Type 0 where
  pub in_place : c.kind ≡ Undo
  pub table : IsTable c.file.table
  pub covered : IsCovered (object_of c)
  pub base_fits : base < c.file.table.states
  pub room : length log ≤ 4294967295
  pub steps : LeadsTo c.file.table base log state
  pub counted : HasCounts (entries log) counts

-- once it is settled, and sound, all is kept
pub settled-kept : EndsWithin → (c : Checked) (base state : ℕ) (log : List UndoEntry) (counts : List Opened) → IsLeft c base state log counts →
    IsSoundUndo (object_of c) (start_of (unsettled log) state) (entries (unsettled log)) → IsKeptInPlace c (start_of (unsettled log) state) state (unsettled log) counts
settled-kept ends c base state log counts left sound =
    let s = unsettled-settled (object_of c) base log state left.steps in
    record {
      in_place = left.in_place;
      table = left.table;
      covered = left.covered;
      base_fits = ends c.file.table base (start_of (unsettled log) state) (log_ops s.moved) left.table left.base_fits s.reached;
      state_fits = ends c.file.table base state (log_ops (entries log)) left.table left.base_fits (steps-run c.file.table base log state left.steps);
      room = omega (arith, unsettled-length log, left.room);
      steps = unsettled-steps c.file.table base log state left.steps;
      sound = sound;
      front = unsettled-begins log;
      counted = record { listed = left.counted.listed; exact = λ t. left.counted.exact t ∙ ap length (sym (unsettled-opens t log)) };
    }

-- ---- a new manager

pub fresh-kept : CheckedIsCovered → FreshIsSound → (c : Checked) (initial : ℕ) → c.kind ≡ Undo → IsTable c.file.table → IsChecked c → initial ≡ c.file.table.initial → IsKeptInPlace c initial initial [] []
fresh-kept covers sound c initial undo table checked e =
    let covered = (covers c checked).0 in
    record {
      in_place = undo;
      table = table;
      covered = covered;
      base_fits = rw e table.initial_inside;
      state_fits = rw e table.initial_inside;
      room = omega arith;
      steps = refl;
      sound = sound_out c.kind undo (object_of c) initial [] (sound (meaning_of c initial []) covered (record { base = e; log = refl }));
      front = tt;
      counted = record { listed = record { once = tt; some = tt }; exact = λ t. refl };
    }
