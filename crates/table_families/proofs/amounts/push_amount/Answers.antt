use Rattle.std.proofs.Common.{append_assoc, refl, ◌∙◌}
use Rattle.table_families.proofs.amounts.push_amount.Goals as goal

pub returns : goal.returns
returns c =
    c.in_ok-push_outcomes-2.ensures
    ∙ rw (c.in_ok-push_outcomes.ensures, c.in_ok-numbered.ensures, c.in_ok-numbered-2.ensures, c.named.ensures, c.named-2.ensures, append_assoc) refl
