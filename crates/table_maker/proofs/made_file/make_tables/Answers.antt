use Rattle.table_maker.proofs.made_file.make_tables.Goals as goal

pub returns-clause-set : goal.returns-clause-set
returns-clause-set c = c.in_ok-file.ensures.set
