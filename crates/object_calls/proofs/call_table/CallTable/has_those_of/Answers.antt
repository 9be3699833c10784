use Rattle.std.proofs.Common.{sym, ap, ◌∙◌}
use Rattle.object_calls.proofs.call_table.CallTable.has_those_of.Goals as goal

pub returns : goal.returns
returns c = λ yes.
    sym c.self.view_is ∙ ap (λ v. v.items) (sym c.deref.ensures) ∙ sym c.as_slice.ensures.value ∙ c.are_same.ensures yes
    ∙ c.as_slice-2.ensures.value ∙ ap (λ v. v.items) c.deref-2.ensures ∙ c.other.view_is
