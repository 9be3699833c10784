use Rattle.std.proofs.Common.{ltb, rules, sym, ap, subst, ◌∙◌}
use Rattle.std.proofs.lemmas.List.Sorted.{IsPartitionPoint-from_clause}
use Rattle.escrow_manager.specs.Marks.{mark_owner, MarksAscend, mark_index}
use Rattle.escrow_laws.specs.declared.mark.OpenMark.{OpenMark}
use Rattle.object_trait.proofs.Rows.{parted, place-found}
use Rattle.escrow_manager.proofs.marks.place_of.Goals as goal

pub returns-in-None : goal.returns-in-None
returns-in-None c =
    let t = c.args.t in
    let marks = c.deref.result.now in
    let early = parted mark_owner t marks (subst (λ V. MarksAscend V) (sym c.deref.ensures.value) c.requires) in
    let point = IsPartitionPoint-from_clause (λ (v : OpenMark). ltb v.by t) _ _ c.partition_point.ensures.partitioned early (λ a r q k. search rules) in
    place-found mark_owner t marks c.partition_point.result c.partition_point.ensures.bound point ∙ ap (mark_index t) c.deref.ensures.value
