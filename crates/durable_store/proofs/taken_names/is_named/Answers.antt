use Rattle.durable_store.proofs.taken_names.is_named.Goals as goal

pub returns-in-Some : goal.returns-in-Some
returns-in-Some c = rw c.in-Some.is c.contains.ensures
