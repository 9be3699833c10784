-- Reports, one after another.
use Rattle.std.proofs.Common.{◌≡◌, ℕ, ◌+◌, ◌<◌, ◌≤◌, List, [], ◌∷◌, ◌++◌, length, take, drop, refl, sym, ap, ◌∙◌, subst, inl, inr, add-one}
use Rattle.std.proofs.lemmas.List.{length_push, length-take-le}
use Rattle.std.proofs.lemmas.Option.{none-some}
use Rattle.worker_turns.specs.declared.outcome.Report.{Report}
use Rattle.worker_turns.specs.Progress.{Progress}
use Rattle.workers.specs.SharedState.{SharedState}
use Rattle.workers.specs.Worked.{IsReportOf, IsOfNone, AreReportsOf}
use Rattle.workers.proofs.Lists.{found-both, next-behind}

-- those of no worker
pub reports-none : (s : SharedState) → AreReportsOf (record s { workers = [] }) []
reports-none s = record {
  as_many = refl;
  started = λ w p r early there. absurd (none-some p there);
  others = λ w p r late there. absurd (none-some p there);
}

-- and that of one worker more
pub reports-more : (s : SharedState) (done : List Progress) (reports : List Report) (p : Progress) (r : Report) → AreReportsOf (record s { workers = done }) reports
    → (length done < s.let_in → IsReportOf p r) → (s.let_in ≤ length done → IsOfNone p.jobs r)
    → AreReportsOf (record s { workers = done ++ p ∷ [] }) (reports ++ r ∷ [])
reports-more s done reports p r told started others =
    let as_many : length done ≡ length reports = sym told.as_many in
    record {
      as_many = length_push reports r ∙ ap (λ n. n + 1) told.as_many ∙ sym (length_push done p);
      started = λ w q x early there found.
          elim (found-both done reports p r w q x as_many there found) [
            | inl before ↦ told.started w q x early before.0 before.1
            | inr last ↦ subst (λ z. IsReportOf z x) last.1 (subst (IsReportOf p) last.2 (started (rw (← last.0) early)))
          ];
      others = λ w q x late there found.
          elim (found-both done reports p r w q x as_many there found) [
            | inl before ↦ told.others w q x late before.0 before.1
            | inr last ↦ subst (λ (z : Progress). IsOfNone z.jobs x) last.1 (subst (IsOfNone p.jobs) last.2 (others (rw (← last.0) late)))
          ];
    }

-- of the next of a list
pub reports-next : (s : SharedState) (workers : List Progress) (n m : ℕ) (reports : List Report) (p : Progress) (r : Report) (rest : List Progress) → drop n workers ≡ p ∷ rest
    → m ≡ n + 1 → n ≤ length workers → AreReportsOf (record s { workers = take n workers }) reports
    → (n < s.let_in → IsReportOf p r) → (s.let_in ≤ n → IsOfNone p.jobs r)
    → AreReportsOf (record s { workers = take m workers }) (reports ++ r ∷ [])
reports-next s workers n m reports p r rest coming one inside told started others =
    let more : take m workers ≡ take n workers ++ p ∷ [] = ap (λ k. take k workers) (one ∙ add-one n) ∙ next-behind workers n p rest coming in
    let behind : length (take n workers) ≡ n = length-take-le n workers inside in
    rw more (reports-more s (take n workers) reports p r told (λ early. started (rw behind at early)) (λ late. others (rw behind at late)))
