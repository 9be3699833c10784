use Rattle.std.proofs.Common.{sym, ◌∙◌}
use Rattle.line_text.proofs.PlainLines.{last_counts}
use Rattle.line_text.proofs.more.takes_more.Goals as goal

pub returns-clause-takes : goal.returns-clause-takes
returns-clause-takes g c = λ passes. record {
  unended = sym c.if-has_ended.ensures;
  some = last_counts (g.G.Grammar.rules c.args.grammar.now) (g.G.Grammar.kept c.args.so_far.now.kept) c.args.last (sym c.requires.last ∙ c.requires.known.last_is);
  in_order = λ x at. sym (c.if-is_late.ensures x (c.plain_place-place.ensures ∙ at));
  lacks_none = sym c.if-lacks.ensures;
  has_room = sym c.if-is_full.ensures;
  ascending = λ x at. sym (c.ascends.ensures x (c.plain_place-place.ensures ∙ at)) ∙ passes;
}
