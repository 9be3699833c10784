-- The command has the words so far.
use Rattle.std.proofs.Common.{take}
use Rattle.std.specs.Prelude.{fold}
use Rattle.clap.specs.Simple.{new_app}
use Rattle.command_words.specs.Program.{IsCommand, with_word}
use Rattle.command_words.proofs.program.command.Given as goal

abbrev pub invariant-loop-word : goal.invariant-loop-word
invariant-loop-word l = IsCommand (fold with_word (new_app l.form.name.now) (take l.word-index l.words)) l.command
