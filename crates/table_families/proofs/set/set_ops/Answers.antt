use Rattle.std.proofs.Common.{ℕ, ◌∙◌, ap, List, ◌++◌, take}
use Rattle.std.specs.List.{flat_map}
use Rattle.type_table.specs.declared.op.Op.{Op}
use Rattle.table_families.specs.Set.{element_ops}
use Rattle.table_families.proofs.Pieces.{pieces-more}
use Rattle.table_families.proofs.set.set_ops.Goals as goal

pub loop-element-preserved : goal.loop-element-preserved
loop-element-preserved c =
    let elements = c.args.elements.now in
    let i = c.loop-element.element-index in
    let element = c.element-item.result in
    c.in_ok-push_element.ensures ∙ (ap (λ (ops : List Op). ops ++ element_ops element) c.loop-element.invariant
    ∙ (ap (λ (e : List ℕ). flat_map element_ops (take i elements) ++ element_ops e) c.element-item.is ∙ pieces-more element_ops elements i element c.loop-element-test.true))
