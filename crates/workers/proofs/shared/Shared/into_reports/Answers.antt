-- The report of the next worker is put after those of the workers before.
use Rattle.std.proofs.Common.{◌≡◌, ◌<◌, ◌≤◌, length, take, drop, slice_get, sym, ap, ◌∙◌, subst, add-one, arith, vec_len}
use Rattle.std.proofs.lemmas.List.{take_all}
use Rattle.workers.specs.SharedState.{SharedState, IsKeptSince}
use Rattle.workers.specs.Worked.{AreReportsOf, HasWorked, IsReportOf, IsOfNone}
use Rattle.workers.proofs.Lists.{next-found, next-rest}
use Rattle.workers.proofs.Reported.{reports-none, reports-next}
use Rattle.workers.proofs.shared.Shared.into_reports.Goals as goal
use Rattle.workers.proofs.shared.Shared.into_reports.Goals.{then-len-from, else-len-from}

pub loop-worker-init : goal.loop-worker-init
loop-worker-init g c =
    let gives = c.into_iter-worker-iterator.ensures.into_iter_gives in
    let same : c.self.inside.workers.items ≡ c.args.self.workers = ap (λ (s : SharedState). s.workers) c.self.view_is in
    let none : vec_len c.args.reports ≡ 0 = c.args.reports.ok.0 ∙ ap length c.requires.none in
    let size : vec_len c.self.inside.workers ≡ length c.args.self.workers = c.self.inside.workers.ok.0 ∙ ap length same in
    record {
      coming = rw none (gives.0 ∙ same);
      left = let many = gives.1 in omega (arith, none, many, size);
      told = rw (none, c.requires.none) (reports-none c.args.self);
      room = c.requires.room;
    }

pub not_run-report-requires : goal.not_run-report-requires
not_run-report-requires g c =
    let steps = c.in-Some.ensures.steps in
    let n = vec_len c.loop-worker.reports in
    let same : c.self.inside.workers.items ≡ c.args.self.workers = ap (λ (s : SharedState). s.workers) c.self.view_is in
    let there = next-found c.args.self.workers n c.in-Some.worker _ (sym c.loop-worker.invariant.coming ∙ steps.0) in
    c.self.invariant.waiting n c.in-Some.worker (rw (← c.len.ensures, ← c.from.ensures) c.if-len-from.false) (ap (λ l. slice_get l n) same ∙ there)

pub loop-worker-preserved : goal.loop-worker-preserved
loop-worker-preserved g c =
    let kept = c.loop-worker.invariant in
    let steps = c.in-Some.ensures.steps in
    let p = c.in-Some.worker in
    let r = c.if-len-from.report in
    let n = vec_len c.loop-worker.reports in
    let workers = c.args.self.workers in
    let coming = sym kept.coming ∙ steps.0 in
    let one = c.push_reserved.ensures.len in
    let same : c.self.inside.let_in ≡ c.args.self.let_in = ap (λ (s : SharedState). s.let_in) c.self.view_is in
    let at = c.len.ensures in
    let bound = c.from.ensures in
    let started : n < c.args.self.let_in → IsReportOf p r =
    λ early.
    elim c.if-len-from.branch [
      | then-len-from x ↦ record {
        receipts = rw x.report-is x.into_report-report.ensures.receipts;
        outcomes = rw x.report-is x.into_report-report.ensures.outcomes;
      }
      | else-len-from x ↦ let late = x.if-len-from.false in absurd (omega (arith, early, late, at, bound, same))
    ]
    in
    let others : c.args.self.let_in ≤ n → IsOfNone p.jobs r =
    λ late.
    elim c.if-len-from.branch [
      | then-len-from x ↦ let early = x.if-len-from.true in absurd (omega (arith, early, late, at, bound, same))
      | else-len-from x ↦ record {
        receipts = rw x.report-is x.not_run-report.ensures.receipts;
        outcomes = rw x.report-is x.not_run-report.ensures.outcomes;
      }
    ]
    in
    record {
      coming = sym (ap (λ k. drop k workers) (one ∙ add-one n) ∙ next-rest workers n p _ coming);
      left = let left = kept.left in let fewer = steps.1 in omega (arith, left, fewer, one);
      told =
          rw c.push_reserved.ensures.items
          (reports-next c.args.self workers n _ c.loop-worker.reports.items p r _ coming one (let left = kept.left in omega (arith, left)) kept.told started others);
      room = let room = kept.room in rw c.push_reserved.ensures.capacity room;
    }

pub returns : goal.returns
returns g c =
    let kept = c.loop-worker.invariant in
    let s = c.args.self in
    let left = kept.left in
    let none = c.in-None.ensures.steps.0 in
    let all : take (vec_len c.loop-worker.reports) s.workers ≡ s.workers = take_all _ s.workers (omega (arith, left, none)) in
    subst (λ store. HasWorked g.S.HasStart.start s.let_in store c.loop-worker.reports.items) (sym (ap (λ (z : SharedState). z.store) c.self.view_is))
    (c.ending_is_worked.ensures g.S.HasStart.start s c.loop-worker.reports.items (subst (IsKeptSince g.S.HasStart.start) c.self.view_is c.self.invariant)
    c.requires.ended (subst (λ ws. AreReportsOf (record s { workers = ws }) c.loop-worker.reports.items) all kept.told))
