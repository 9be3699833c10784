-- The program has the commands so far.
use Rattle.std.proofs.Common.{◌≡◌, take}
use Rattle.std.specs.Prelude.{fold}
use Rattle.clap.specs.Simple.{app_of}
use Rattle.command_words.specs.Program.{bare_program, with_form}
use Rattle.command_words.proofs.program.program.Given as goal

abbrev pub invariant-loop-form : goal.invariant-loop-form
invariant-loop-form l = app_of l.program ≡ fold with_form bare_program (take l.form-index l.forms)
