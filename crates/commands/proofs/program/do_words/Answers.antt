use Rattle.commands.proofs.Done.{no_words}
use Rattle.commands.proofs.program.do_words.Goals as goal

pub returns-in-Err-clause-no_words : goal.returns-in-Err-clause-no_words
returns-in-Err-clause-no_words g c =
    no_words _ c.in-Err.fault _ _ (g.E.Out.taken c.args.console.err) (g.E.Out.taken c.conclude.result.1.err) _ _ c.in-Err.is c.requires.nothing_taken c.requires.nothing_waits c.conclude.ensures
