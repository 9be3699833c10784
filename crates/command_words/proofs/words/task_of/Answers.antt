use Rattle.std.proofs.Common.{List, subst}
use Rattle.std.specs.Prelude.{Option}
use Rattle.clap.specs.Walk.{Row}
use Rattle.command_words.specs.Program.{IsEntryOf}
use Rattle.command_words.specs.Words.{Text}
use Rattle.command_words.proofs.ParseLemmas.{entry_found}
use Rattle.command_words.proofs.words.task_of.Goals as goal

pub returns : goal.returns
returns c a asked =
    let found = entry_found c.args.matches.now c.subcommand.result c.unwrap.result c.unwrap.ensures c.subcommand.ensures.name c.subcommand.ensures.rows in
    c.command_task.ensures a (subst (λ (o : Option (Text × List Row)). IsEntryOf o a) found asked)
