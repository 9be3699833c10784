use Rattle.work_text.proofs.KeptTexts.{kept_puts}
use Rattle.work_text.proofs.kept.write_kept.Goals as goal

pub returns : goal.returns
returns g c = kept_puts c.args.store.now _ _ _ _ c.write_states.ensures
