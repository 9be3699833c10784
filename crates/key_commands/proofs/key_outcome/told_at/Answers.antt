use Rattle.key_commands.proofs.Tells.{tells_outcome}
use Rattle.key_commands.proofs.key_outcome.told_at.Goals as goal

pub returns-clause-told : goal.returns-clause-told
returns-clause-told g c =
    tells_outcome _ _ _ c.args.key.now c.in_ok-reading.reading c.fate_of-fate.result c.verdict_of-verdict.result c.in_ok-text.text.items c.requires c.in_ok-reading.ensures.found c.fate_of-fate.ensures c.verdict_of-verdict.ensures
    c.in_ok-text.ensures.text
