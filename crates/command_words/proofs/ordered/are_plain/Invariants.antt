-- The words so far are plain.
use Rattle.std.proofs.Common.{All, take}
use Rattle.clap.specs.Walk.{texts}
use Rattle.command_words.specs.Lines.{IsPlain}
use Rattle.command_words.proofs.ordered.are_plain.Given as goal

abbrev pub invariant-loop-word : goal.invariant-loop-word
invariant-loop-word l = All IsPlain (take l.word-index (texts l.words))
