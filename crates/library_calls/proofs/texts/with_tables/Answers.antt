use Rattle.library_calls.proofs.texts.with_tables.Goals as goal

pub returns-in-Ok : goal.returns-in-Ok
returns-in-Ok c = record { table = c.in-Ok.ensures.table; reach = c.in-Ok.ensures.set; made = c.in-Ok.ensures.made }
