use Rattle.std.proofs.Common.{sym, ◌∙◌}
use Rattle.journal.proofs.Same.{same-contents}
use Rattle.journal.proofs.new_file.is_same.Goals as goal

pub returns : goal.returns
returns c = λ same.
    same-contents c.args.found.now c.args.said.now
    (sym c.deref.ensures.value ∙ c.are_none.ensures c.if-not-are_none.false ∙ c.deref-2.ensures.value)
    (c.is_same.ensures c.if-not-is_same.false)
    (sym c.deref-9.ensures.value ∙ c.are_same-3.ensures same ∙ c.deref-10.ensures.value)
    (sym c.deref-5.ensures.value ∙ c.are_same.ensures c.if-not-are_same.false ∙ c.deref-6.ensures.value)
    (sym c.deref-7.ensures.value ∙ c.are_same-2.ensures c.if-not-are_same-2.false ∙ c.deref-8.ensures.value)
    (sym c.deref-3.ensures.value ∙ c.are_none-2.ensures c.if-not-are_none-2.false ∙ c.deref-4.ensures.value)
