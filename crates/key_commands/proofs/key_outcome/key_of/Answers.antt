use Rattle.key_commands.proofs.Tells.{key_found, key_none}
use Rattle.key_commands.proofs.key_outcome.key_of.Goals as goal

pub returns-clause-found : goal.returns-clause-found
returns-clause-found c = key_found c.from_bytes.result c.args.word.now c.as_bytes.result.now c.as_bytes.ensures.value c.from_bytes.ensures

pub returns-clause-none : goal.returns-clause-none
returns-clause-none c = key_none c.from_bytes.result c.args.word.now c.as_bytes.result.now c.as_bytes.ensures.value c.from_bytes.ensures
