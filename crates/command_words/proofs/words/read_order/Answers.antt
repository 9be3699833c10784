use Rattle.std.proofs.Common.{subst, sym}
use Rattle.clap.specs.Walk.{texts}
use Rattle.command_words.specs.Words.{AskFor}
use Rattle.command_words.proofs.ProgramLemmas.{error_asked, matches_asked}
use Rattle.command_words.proofs.ParseLemmas.{usage_of}
use Rattle.command_words.proofs.words.read_order.Goals as goal

pub task_of-requires : goal.task_of-requires
task_of-requires c =
    let given = matches_asked (texts c.args.words.now) c.in-Ok.matches c.in-Ok.ensures in
    (given.0, given.1)

pub returns-in-Ok-task_of-clause-taken : goal.returns-in-Ok-task_of-clause-taken
returns-in-Ok-task_of-clause-taken c =
    let given = matches_asked (texts c.args.words.now) c.in-Ok.matches c.in-Ok.ensures in
    subst (AskFor (texts c.args.words.now)) (sym (c.in-Ok-task_of.ensures given.0 given.1)) given.2

pub returns-clause-refused : goal.returns-clause-refused
returns-clause-refused c =
    usage_of c.fault_of.result _ _ (error_asked (texts c.args.words.now) c.requires c.in-Err.error c.in-Err.ensures) c.fault_of.ensures
