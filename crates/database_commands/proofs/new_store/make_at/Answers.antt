use Rattle.database_commands.proofs.NewStores.{is_whole}
use Rattle.database_commands.proofs.new_store.make_at.Goals as goal

pub returns-clause-whole : goal.returns-clause-whole
returns-clause-whole g c = is_whole _ _ _ c.args.declared.now c.args.objects.items c.in_ok-make_store.ensures.made
