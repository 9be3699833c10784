use Rattle.std.proofs.Common.{refl, sym, ◌∙◌}
use Rattle.type_table.proofs.Buffer.{named-from_copy, copied, some-if_true}
use Rattle.type_table.proofs.name.Name.from_bytes.Goals as goal

pub invariant_of-result : goal.invariant_of-result
invariant_of-result c =
    named-from_copy c.args.bytes.now c.copy_from_slice.new.self _ c.copy_from_slice.ensures.after refl (sym c.is_name.ensures.exact ∙ c.if-not-is_name.false)

pub returns : goal.returns
returns c =
    some-if_true _ _ _ (sym c.is_name.ensures.exact ∙ c.if-not-is_name.false) (copied c.args.bytes.now c.copy_from_slice.new.self _ c.copy_from_slice.ensures.after)
