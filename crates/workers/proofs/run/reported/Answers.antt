-- Without a worker nothing was done; with fewer than there are lists, some were started.
use Rattle.std.proofs.Common.{sym, ◌∙◌, subst, inl, inr, arith}
use Rattle.workers.specs.Worked.{HasWorked}
use Rattle.workers.proofs.Unstarted.{store-same}
use Rattle.workers.proofs.run.reported.Goals as goal
use Rattle.workers.proofs.run.reported.Goals.{then-started-eq0, else-started-eq0}

pub returns-clause-works : goal.returns-clause-works
returns-clause-works g c =
    let o = g.S.HasStart.start in
    let new = c.into_reports-store.result.0 in
    let reports = c.into_reports-store.result.1.items in
    let n = c.args.shared.let_in in
    let worked : HasWorked o n new reports = c.into_reports-store.ensures in
    let started = c.let_in-started.ensures in (
      c.requires.lists,
      c.requires.tries,
      elim c.if-started-eq0.branch [
        | then-started-eq0 x ↦
            inl (record {
              store = store-same o new reports (subst (λ k. HasWorked o k new reports) (sym started ∙ x.if-started-eq0.true) worked);
              no_reports = rw x.reports-is x.clear.ensures.items;
            })
        | else-started-eq0 x ↦
            let some = x.if-started-eq0.false in
            let apart = c.if-started-count.false in
            let few = worked.are_reports.few in
            let count = c.count-count.ensures.jobs in
            inr (n, omega (arith, some, started), omega (arith, apart, few, count, started), rw x.reports-is worked)
      ],
    )

pub returns-clause-nothing : goal.returns-clause-nothing
returns-clause-nothing g c = λ none.
    let o = g.S.HasStart.start in
    let new = c.into_reports-store.result.0 in
    let reports = c.into_reports-store.result.1.items in
    elim c.if-started-eq0.branch [
      | then-started-eq0 x ↦ record {
        store = store-same o new reports (subst (λ k. HasWorked o k new reports) none c.into_reports-store.ensures);
        no_reports = rw x.reports-is x.clear.ensures.items;
      }
      | else-started-eq0 x ↦ absurd (x.if-started-eq0.false (c.let_in-started.ensures ∙ none))
    ]
