use Rattle.std.proofs.lemmas.Result.{on_ok_weaker}
use Rattle.carried_runs.proofs.Repeating.{redo-does}
use Rattle.carried_runs.proofs.redoing.redo_one.Goals as goal

pub returns-in-Op : goal.returns-in-Op
returns-in-Op g c =
    rw c.in-Op.is
    (on_ok_weaker c.apply.result (λ does. redo-does g.R.Recovery.meaning c.args.objects.now.items c.in-Op.x c.in-Op.t c.in-Op.k (rw c.in-Op.is at c.requires) c.index_mut.result.now c.index_mut.ensures.value c.apply.new.self does)
    c.apply.ensures.applied)
