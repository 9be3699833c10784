use Rattle.work_text.proofs.Works.{history_stopped, kept_stopped, audit_stopped, jobs_written}
use Rattle.work_text.proofs.write.write_work.Goals as goal

pub returns-in_err-write_history : goal.returns-in_err-write_history
returns-in_err-write_history g c =
    let text = rw (c.history.ensures.whole c.requires.whole) at c.in_err-write_history.ensures in
    history_stopped c.args.store.now c.args.objects.now c.args.audit.now c.args.reports.now c.texts_in_turn.ensures.joined c.texts_in_turn.ensures.stopped text c.from_residual.ensures.1

pub returns-in_err-write_kept : goal.returns-in_err-write_kept
returns-in_err-write_kept g c =
    let text = rw (c.history.ensures.whole c.requires.whole) at c.in_ok-write_history.ensures in
    kept_stopped c.args.store.now c.args.objects.now c.args.audit.now c.args.reports.now c.texts_in_turn.ensures.joined c.texts_in_turn.ensures.stopped text c.in_err-write_kept.ensures
    c.from_residual-in_err-write_kept.ensures.1

pub returns-in_err-write_audit : goal.returns-in_err-write_audit
returns-in_err-write_audit g c =
    let text = rw (c.history.ensures.whole c.requires.whole) at c.in_ok-write_history.ensures in
    audit_stopped c.args.store.now c.args.objects.now c.args.audit.now c.args.reports.now c.texts_in_turn.ensures.joined c.texts_in_turn.ensures.stopped text c.in_ok-write_kept.ensures
    c.in_err-write_audit.ensures c.from_residual-in_err-write_audit.ensures.1

pub returns : goal.returns
returns g c =
    let text = rw (c.history.ensures.whole c.requires.whole) at c.in_ok-write_history.ensures in
    jobs_written c.args.store.now c.args.objects.now c.args.audit.now c.args.reports.now c.texts_in_turn.ensures.joined c.texts_in_turn.ensures.stopped text c.in_ok-write_kept.ensures
    c.in_ok-write_audit.ensures c.write_jobs.ensures
