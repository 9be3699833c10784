use Rattle.std.proofs.Common.{inl, inr, sym}
use Rattle.std.proofs.lemmas.Bool.{eqb-true}
use Rattle.line_text.proofs.Lines.{lines_of-empty}
use Rattle.line_text.proofs.Reading.{IsReached-next, refused_next, unfinished_next, value_next}
use Rattle.line_text.proofs.Accepting.{IsAccepted-from_outcome}
use Rattle.line_text.proofs.read.read_items.Goals as goal

pub returns-in-Err-clause-exact : goal.returns-in-Err-clause-exact
returns-in-Err-clause-exact g c =
    let rules = g.G.Grammar.rules c.args.grammar.now in
    let text = c.args.text.now in
    let at = c.loop-rest in
    let items = g.G.Grammar.kept at.so_far.kept in
    let stopped = c.in-Err.ensures.read in
    elim stopped.refused [
      | inl e ↦ inl (refused_next rules text at.rest.now at.line items stopped.line stopped.after stopped.first at.invariant.read c.in-Err.kind e)
      | inr e ↦ inr (e, IsReached-next rules text at.rest.now at.line items stopped.line stopped.after stopped.first at.invariant.read)
    ]

pub loop-rest-preserved : goal.loop-rest-preserved
loop-rest-preserved g c =
    let at = c.loop-rest in
    let some = c.in-Ok-read_lines.ensures in
    record { read = some.read.goes_on c.args.text.now at.line at.invariant.read; known = some.known }

pub returns-then-not-has_ended-clause-exact : goal.returns-then-not-has_ended-clause-exact
returns-then-not-has_ended-clause-exact g c =
    let rules = g.G.Grammar.rules c.args.grammar.now in
    let at = c.loop-rest in
    let last = lines_of-empty at.rest.now (eqb-true _ _ (sym c.loop-rest-test.ensures)) in
    inl (unfinished_next rules c.args.text.now at.rest.now at.line (g.G.Grammar.kept at.so_far.kept) last at.invariant.read c.if-not-has_ended.ensures)

pub returns-clause-exact : goal.returns-clause-exact
returns-clause-exact g c =
    let rules = g.G.Grammar.rules c.args.grammar.now in
    let at = c.loop-rest in
    let last = lines_of-empty at.rest.now (eqb-true _ _ (sym c.loop-rest-test.ensures)) in
    value_next rules c.args.text.now at.rest.now at.line (g.G.Grammar.kept at.so_far.kept) last at.invariant.read c.if-not-has_ended.ensures

pub returns-clause-accepted : goal.returns-clause-accepted
returns-clause-accepted g c = IsAccepted-from_outcome (g.G.Grammar.rules c.args.grammar.now) c.args.text.now (g.G.Grammar.kept c.loop-rest.so_far.kept) (returns-clause-exact g c)
