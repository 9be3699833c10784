use Rattle.std.specs.List.{enumerate_from}
use Rattle.outputs.proofs.Turns.{Puts-append, Puts-exit_at}
use Rattle.history_audit.proofs.PlacedTexts.{is_placed, text-at, texts-more, texts-all}
use Rattle.work_text.specs.Lines.{report_text}
use Rattle.work_text.proofs.jobs.write_jobs.Goals as goal

pub returns-in_err-write_report : goal.returns-in_err-write_report
returns-in_err-write_report g c =
    let reports = c.args.reports.now in
    let inside = c.loop-w-test.true in
    let report = c.index-reports-w.result in
    let stop = text-at report_text reports c.loop-w.w report inside report c.index-reports-w.is c.in_err-write_report.ensures in
    Puts-exit_at c.items_in_turn.ensures report_text (enumerate_from 0 reports) c.loop-w.w (0, report) (is_placed report_text reports c.loop-w.w report inside) c.loop-w.invariant stop
    c.from_residual.ensures.1

pub loop-w-preserved : goal.loop-w-preserved
loop-w-preserved g c =
    rw (texts-more report_text c.args.reports.now c.loop-w.w c.index-reports-w.result c.loop-w-test.true c.index-reports-w.result c.index-reports-w.is)
    (Puts-append c.texts_in_turn.ensures.joined c.loop-w.invariant c.in_ok-write_report.ensures)

pub returns : goal.returns
returns g c = rw (texts-all c.args.reports.now c.loop-w.w c.loop-w-test.false) at c.loop-w.invariant
