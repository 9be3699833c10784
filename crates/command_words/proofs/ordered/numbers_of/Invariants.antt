-- Some numbers were read, and the rest, which is a text, is left.
use denote.Shadow.{shadow}
use denote.Text.{Utf8}
use Rattle.std.proofs.Common.{length}
use Rattle.command_words.proofs.OrderedLemmas.{AreLeft}
use Rattle.command_words.proofs.ordered.numbers_of.Given as goal

abbrev pub invariant-numbers : goal.invariant-numbers
invariant-numbers l = record {
  text : shadow (Utf8 l.rest);
  left : AreLeft l.text l.rest l.numbers.items;
}

abbrev pub decreases-numbers : goal.decreases-numbers
decreases-numbers l = length l.rest
