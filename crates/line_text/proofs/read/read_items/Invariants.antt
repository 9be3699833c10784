-- The lines before `rest` were read and passed, and their items are kept and known.
use Rattle.std.proofs.Common.{length}
use Rattle.line_text.specs.Steps.{HasRead, IsKnown}
use Rattle.line_text.proofs.read.read_items.Given as goal

abbrev pub invariant-loop-rest : goal.invariant-loop-rest
invariant-loop-rest g l =
    let rules = g.G.Grammar.rules l.grammar in
    let items = g.G.Grammar.kept l.so_far.kept in
    record {
      read : HasRead rules l.text l.rest l.line items;
      known : IsKnown rules items l.so_far.counts.items l.so_far.last l.so_far.clear;
    }

abbrev pub decreases-loop-rest : goal.decreases-loop-rest
decreases-loop-rest g l = length l.rest
