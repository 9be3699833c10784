use Rattle.journal.proofs.Emptied.{both-empty}
use Rattle.journal.proofs.new_table.empty_epoch.Goals as goal

pub returns-clause-ok : goal.returns-clause-ok
returns-clause-ok g c = λ clean. both-empty _ (g.S.Store.view c.make_anew.new.store) _ (c.in_ok-make_anew.ensures.ok (c.make_anew-2.ensures.clean clean)) (c.in_ok-make_anew-2.ensures.ok clean)
