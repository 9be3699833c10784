-- An operation and its commit where no transaction is open.
use Rattle.std.proofs.Common.{◌≡◌, ◌||◌, ℕ, ◌+◌, false, cond, List, [], ◌∷◌, ◌++◌, Some, refl, sym, ap, subst}
use Rattle.std.proofs.lemmas.Bool.{eq-eqb}
use Rattle.type_table.specs.Table.{next}
use Rattle.type_table.specs.Laws.{StepsWithin, EndsWithin}
use Rattle.table_checker.specs.Checked.{Checked}
use Rattle.object_trait.specs.Steps.{MayApply, applied, IsCommit}
use Rattle.object_trait.specs.Laws.{SoundAfterApply, SoundAfterCommit}
use Rattle.undo_manager.specs.Kept.{IsKeptInPlace}
use Rattle.undo_manager.specs.Log.{entries, start_of, marked_one}
use Rattle.undo_manager.specs.Opened.{count_of, IsRecounted}
use Rattle.undo_manager.specs.declared.opened.Opened.{Opened}
use Rattle.undo_manager.specs.declared.undo_entry.UndoEntry.{UndoEntry}
use Rattle.undo_manager.proofs.Applying.{further_one, applied-kept}
use Rattle.undo_manager.proofs.Committing.{committed_log, committed, commit-kept}
use Rattle.undo_manager.proofs.Keeping.{meaning_of}
use Rattle.undo_manager.proofs.Recounting.{one_of, pushed}

-- a log without entries is empty
pub none-kept : (log : List UndoEntry) → entries log ≡ [] → log ≡ []
none-kept [] none = refl
none-kept (u ∷ log) none = absurd cc

-- the one entry leaves the log
one-leaves : (t k state : ℕ) → committed_log t (further_one t k state ∷ []) ≡ []
one-leaves t k state = ap (λ b. cond (false || b) [] (marked_one t (further_one t k state) ∷ [])) (eq-eqb t t refl)

module _ (within : StepsWithin) (ends : EndsWithin) (apply_sound : SoundAfterApply) (commit_sound : SoundAfterCommit) (c : Checked) (base state : ℕ) (counts : List Opened) (t k after : ℕ)
    (kept : IsKeptInPlace c base state [] counts) (may : MayApply (meaning_of c base []) t k) (step : next c.file.table state k ≡ Some after) where
  none : count_of t counts ≡ 0
  none = kept.counted.exact t

  counted : IsRecounted t (count_of t counts + 1) counts (counts ++ one_of t ∷ [])
  counted = subst (λ n. IsRecounted t (n + 1) counts (counts ++ one_of t ∷ [])) (sym none) (pushed t counts kept.counted.listed none)

  uncounted : IsRecounted t 0 (counts ++ one_of t ∷ []) counts
  uncounted = record { listed = kept.counted.listed; mine = none; others = λ u differ. sym (counted.others u differ) }

  -- behind the operation
  executed : IsKeptInPlace c base after (further_one t k state ∷ []) (counts ++ one_of t ∷ [])
  executed = applied-kept within apply_sound c base state [] counts (counts ++ one_of t ∷ []) t k after kept may step counted

  -- behind the commit
  pub alone-kept : IsKeptInPlace c after after [] counts
  alone-kept =
      subst (λ log. IsKeptInPlace c (start_of log after) after log counts) (one-leaves t k state)
      (commit-kept ends commit_sound c base after (further_one t k state ∷ []) (counts ++ one_of t ∷ []) counts t executed uncounted)

  pub alone-commits : IsCommit (applied (meaning_of c base []) t k) t (meaning_of c after [])
  alone-commits =
      subst (λ log. IsCommit (meaning_of c base (further_one t k state ∷ [])) t (meaning_of c (start_of log after) log)) (one-leaves t k state)
      (committed c base after (further_one t k state ∷ []) (counts ++ one_of t ∷ []) t executed)

-- and so where the log is known to be empty
module _ (within : StepsWithin) (ends : EndsWithin) (apply_sound : SoundAfterApply) (commit_sound : SoundAfterCommit) (c : Checked) (base state : ℕ) (counts : List Opened) (t k after : ℕ)
    (step : next c.file.table state k ≡ Some after) where
  pub idle-kept : (log : List UndoEntry) → entries log ≡ [] → IsKeptInPlace c base state log counts → MayApply (meaning_of c base log) t k → IsKeptInPlace c after after log counts
  idle-kept log idle kept may =
      let is = none-kept log idle in
      subst (λ V. IsKeptInPlace c after after V counts) (sym is)
      (alone-kept within ends apply_sound commit_sound c base state counts t k after (subst (λ V. IsKeptInPlace c base state V counts) is kept) (subst (λ V. MayApply (meaning_of c base V) t k) is may) step)

  pub idle-commits : (log : List UndoEntry) → entries log ≡ [] → IsKeptInPlace c base state log counts → MayApply (meaning_of c base log) t k
      → IsCommit (applied (meaning_of c base log) t k) t (meaning_of c after log)
  idle-commits log idle kept may =
      let is = none-kept log idle in
      subst (λ V. IsCommit (applied (meaning_of c base V) t k) t (meaning_of c after V)) (sym is)
      (alone-commits within ends apply_sound commit_sound c base state counts t k after (subst (λ V. IsKeptInPlace c base state V counts) is kept) (subst (λ V. MayApply (meaning_of c base V) t k) is may) step)
