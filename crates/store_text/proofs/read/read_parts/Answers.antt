use Rattle.std.proofs.Common.{◌≡◌, ◌∙◌, Ok, ap, ap₂, subst}
use Rattle.std.specs.Prelude.{IfSome}
use Rattle.line_text.specs.Accepted.{IsAccepted}
use Rattle.line_text.specs.Outcome.{outcome_of}
use Rattle.store_text.specs.Body.{store_rules}
use Rattle.store_text.specs.Kept.{kept_store_lines}
use Rattle.store_text.specs.Size.{text_size, IsSize}
use Rattle.store_text.proofs.Keeping.{sizes_said}
use Rattle.store_text.proofs.Says.{size_is}
use Rattle.store_text.proofs.Accepted.{are_parts_of, are_fit}
use Rattle.store_text.proofs.read.read_parts.Goals as goal

pub returns-clause-exact : goal.returns-clause-exact
returns-clause-exact g c =
    let b = g.E.Entries.body c.args.entries in
    let text = c.args.text.now in
    let said = g.E.Entries.said in
    let k = c.in_ok-kept.kept in
    let lines = kept_store_lines said k in
    let rules_are = ap₂ store_rules (ap g.E.Entries.body c.new-grammar.ensures.entries) (c.new-grammar.ensures.size ∙ c.text_size.ensures.exact) in
    let order = c.accepted_in_order.ensures (store_rules b (text_size text)) lines (subst (λ rules. IsAccepted rules lines) rules_are c.in_ok-kept.ensures.accepted) in
    let are = c.into_parts.ensures in
    (lines, subst (λ rules. outcome_of rules text ≡ Ok lines) rules_are c.in_ok-kept.ensures.exact, are_parts_of b (text_size text) said k c.into_parts.result order are.size are.max are.objects are.entries)

pub returns-clause-size : goal.returns-clause-size
returns-clause-size g c =
    let b = g.E.Entries.body c.args.entries in
    let text = c.args.text.now in
    let said = g.E.Entries.said in
    let k = c.in_ok-kept.kept in
    let lines = kept_store_lines said k in
    let rules_are = ap₂ store_rules (ap g.E.Entries.body c.new-grammar.ensures.entries) (c.new-grammar.ensures.size ∙ c.text_size.ensures.exact) in
    let order = c.accepted_in_order.ensures (store_rules b (text_size text)) lines (subst (λ rules. IsAccepted rules lines) rules_are c.in_ok-kept.ensures.accepted) in
    let read = subst (λ rules. outcome_of rules text ≡ Ok lines) rules_are c.in_ok-kept.ensures.exact in
    let value = ((c.outcome_by_lines.ensures (store_rules b (text_size text)) text).value lines).0 read in
    c.into_parts.ensures.size ∙ size_is b text lines k.size value order (sizes_said k.objects.lines.items (said k.entries) k.has_ended k.size k.max)

pub returns-clause-fit : goal.returns-clause-fit
returns-clause-fit g c =
    let b = g.E.Entries.body c.args.entries in
    let says = text_size c.args.text.now in
    let said = g.E.Entries.said in
    let k = c.in_ok-kept.kept in
    let lines = kept_store_lines said k in
    let rules_are = ap₂ store_rules (ap g.E.Entries.body c.new-grammar.ensures.entries) (c.new-grammar.ensures.size ∙ c.text_size.ensures.exact) in
    let order = c.accepted_in_order.ensures (store_rules b says) lines (subst (λ rules. IsAccepted rules lines) rules_are c.in_ok-kept.ensures.accepted) in
    let are = c.into_parts.ensures in
    let parts = are_parts_of b says said k c.into_parts.result order are.size are.max are.objects are.entries in
    let read = subst (λ rules. outcome_of rules c.args.text.now ≡ Ok lines) rules_are c.in_ok-kept.ensures.exact in
    let value = ((c.outcome_by_lines.ensures (store_rules b says) c.args.text.now).value lines).0 read in
    let is = size_is b c.args.text.now lines c.into_parts.result.size value order parts.size in
    are_fit b says said lines c.into_parts.result (subst (λ s. IfSome s IsSize) c.text_size.ensures.exact c.text_size.ensures.fits) is order parts are.named
