use Rattle.std.proofs.Common.{refl, sym, ◌∙◌}
use Rattle.type_table.proofs.Buffer.{copied, some-if_true}
use Rattle.object_name.proofs.NameBuffers.{named-from_copy}
use Rattle.object_name.proofs.object_name.ObjectName.from_bytes.Goals as goal

pub invariant_of-result : goal.invariant_of-result
invariant_of-result c =
    named-from_copy c.args.bytes.now c.copy_from_slice.new.self _ c.copy_from_slice.ensures.after refl (sym c.is_object_name.ensures.exact ∙ c.if-not-is_object_name.false)

pub returns : goal.returns
returns c =
    some-if_true _ _ _ (sym c.is_object_name.ensures.exact ∙ c.if-not-is_object_name.false) (copied c.args.bytes.now c.copy_from_slice.new.self _ c.copy_from_slice.ensures.after)
