use Rattle.std.proofs.Common.{ap, sym, ◌∙◌}
use Rattle.std.specs.Prelude.{take}
use Rattle.type_table.proofs.Same.{same-members}
use Rattle.type_table.proofs.state_set.StateSet.is_same.Goals as goal

pub returns : goal.returns
returns c = λ same.
    let one = c.self.inside in
    let two = c.other.inside in
    sym c.self.view_is
    ∙ ap (λ members. take one.states members) (same-members one.members two.members c.eq.result c.eq.ensures same)
    ∙ ap (λ states. take states two.members) c.if-self-other.false
    ∙ c.other.view_is
