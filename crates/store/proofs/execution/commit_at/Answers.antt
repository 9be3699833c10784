use Rattle.store.proofs.Executed.{seen-at, unseen-at, committed-at, where-ok, where-err}
use Rattle.store.proofs.execution.commit_at.Goals as goal

pub apply_and_commit-requires : goal.apply_and_commit-requires
apply_and_commit-requires g c =
    c.requires.may (g.R.Recovery.meaning c.index_mut.result.now)
    (seen-at g.R.Recovery.meaning c.args.objects.now.items c.args.x c.index_mut.result.now c.requires.inside (rw c.number.ensures.exact at c.index_mut.ensures.value))

pub returns-clause-done : goal.returns-clause-done
returns-clause-done g c =
    rw c.number.ensures.exact
    (where-ok c.apply_and_commit.result
    (committed-at g.R.Recovery.meaning c.args.objects.now.items c.args.t c.args.x c.args.k c.index_mut.result.now c.apply_and_commit.new.self c.requires.inside
    (rw c.number.ensures.exact at c.index_mut.ensures.value)) c.apply_and_commit.ensures.committed)

pub returns-clause-objects : goal.returns-clause-objects
returns-clause-objects g c =
    rw c.number.ensures.exact
    (where-err c.apply_and_commit.result
    (unseen-at g.R.Recovery.meaning c.args.objects.now.items c.args.x c.index_mut.result.now c.apply_and_commit.new.self (rw c.number.ensures.exact at c.index_mut.ensures.value))
    c.apply_and_commit.ensures.unchanged)
