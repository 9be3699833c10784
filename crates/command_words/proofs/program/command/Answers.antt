use Rattle.clap.specs.Simple.{new_app}
use Rattle.command_words.proofs.FormLemmas.{word_added}
use Rattle.command_words.proofs.program.command.Goals as goal

pub loop-word-preserved : goal.loop-word-preserved
loop-word-preserved c =
    word_added (new_app c.args.form.now.name.now) c.args.form.now.words.now c.loop-word.word-index _ _ _ _ c.loop-word-test.true c.loop-word.invariant c.arg.ensures c.in_ok-command.ensures
