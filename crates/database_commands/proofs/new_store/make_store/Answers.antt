use Rattle.std.proofs.Common.{◌∙◌}
use Rattle.database_commands.proofs.NewStores.{kept, made}
use Rattle.database_commands.proofs.new_store.make_store.Goals as goal

pub returns-in-Ok-clause-made : goal.returns-in-Ok-clause-made
returns-in-Ok-clause-made g c =
    made c.publish.result _ _ _ _ c.args.declared.now c.args.objects.items _ c.in_ok-texts.texts.items c.in_ok-texts.ensures.texts c.publish.ensures.clean c.publish.ensures.held c.in-Ok.ensures.made

pub returns-in-Ok-clause-kept : goal.returns-in-Ok-clause-kept
returns-in-Ok-clause-kept g c = kept c.publish.result _ _ _ c.publish.ensures.kept (c.in_ok-trees.ensures.kept ∙ c.in_ok-id.ensures.kept)

pub returns-in-Err-clause-kept : goal.returns-in-Err-clause-kept
returns-in-Err-clause-kept g c = c.discard.ensures.kept c.args.path.now ∙ (c.in_ok-trees.ensures.kept ∙ c.in_ok-id.ensures.kept)
