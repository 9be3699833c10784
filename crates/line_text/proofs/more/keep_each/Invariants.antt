-- The lines before `rest` were kept, and the section goes on.
use Rattle.std.proofs.Common.{◌≡◌, Some, length}
use Rattle.line_text.specs.Plain.{plain_place}
use Rattle.line_text.specs.Steps.{IsKnown, ReadsLines}
use Rattle.line_text.proofs.PlainLines.{GoesOn}
use Rattle.line_text.proofs.more.keep_each.Given as goal

abbrev pub invariant-loop-so_far : goal.invariant-loop-so_far
invariant-loop-so_far g l =
    let rules = g.G.Grammar.rules l.grammar in
    let items = g.G.Grammar.kept l.so_far.kept in
    record {
      read : ReadsLines rules l.text l.rest l.count (g.G.Grammar.kept l.fn.so_far.kept) items;
      known : IsKnown rules items l.so_far.counts.items l.so_far.last l.so_far.clear;
      last : l.so_far.last ≡ Some (plain_place l.rank);
      goes_on : GoesOn rules items l.rank;
    }

abbrev pub decreases-loop-so_far : goal.decreases-loop-so_far
decreases-loop-so_far g l = length l.rest
