use Rattle.type_table.proofs.Results.{on_err}
use Rattle.store.proofs.Executed.{seen-at, unseen-at, executed}
use Rattle.store.proofs.execution.execute.Goals as goal

pub apply-requires : goal.apply-requires
apply-requires g c =
    c.requires.may (g.R.Recovery.meaning c.index_mut.result.now)
    (seen-at g.R.Recovery.meaning c.args.objects.now.items c.args.x c.index_mut.result.now c.requires.inside (rw c.number.ensures.exact at c.index_mut.ensures.value))

pub returns-in_err-apply-clause-objects : goal.returns-in_err-apply-clause-objects
returns-in_err-apply-clause-objects g c =
    rw c.number.ensures.exact
    (on_err c.from_residual-in_err-apply.result
    (unseen-at g.R.Recovery.meaning c.args.objects.now.items c.args.x c.index_mut.result.now c.apply.new.self (rw c.number.ensures.exact at c.index_mut.ensures.value) c.in_err-apply.ensures.unchanged))

pub returns-clause-done : goal.returns-clause-done
returns-clause-done g c =
    rw c.number.ensures.exact
    (executed g.R.Recovery.meaning c.args.objects.now.items c.args.transactions.now.rows c.reserve_place.new.self.rows c.push_place.new.self.rows
    c.args.t c.args.x c.args.k c.index_mut.result.now c.apply.new.self c.requires.inside (rw c.number.ensures.exact at c.index_mut.ensures.value)
    c.in_ok-apply.ensures.applied c.reserve_place.ensures.rows c.push_place.ensures)
