use Rattle.object_calls.proofs.end.end_one.Goals as goal

pub returns-in-Commit : goal.returns-in-Commit
returns-in-Commit g c = rw c.in-Commit.is c.commit.ensures
