use Rattle.script_text.proofs.PlainCommands.{where_kept}
use Rattle.script_text.proofs.commands.CommandsEntries.keep_plain.Goals as goal

pub returns : goal.returns
returns c = where_kept _ _ _ c.keep_plain.result (λ behind kept. kept.keeps c.args._objects) c.keep_plain.ensures
