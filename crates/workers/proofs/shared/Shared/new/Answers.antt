-- Nothing was done yet.
use Rattle.std.proofs.Common.{sym, arith}
use Rattle.workers.proofs.shared.Shared.new.Goals as goal

pub invariant_of-result : goal.invariant_of-result
invariant_of-result g c =
    let its = c.requires in
    c.start_is_kept.ensures g.S.HasStart.start _ (sym its.is_store) its.jobs its.fresh its.some_tries (omega arith) its.few
    (rw its.is_store c.history_is_run.ensures)
