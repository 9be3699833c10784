use Rattle.std.proofs.Common.{◌≡◌, ltb, rules, sym, ap, subst, ◌∙◌}
use Rattle.std.proofs.lemmas.List.Sorted.{IsPartitionPoint-from_clause}
use Rattle.intentions_manager.specs.Views.{view_owner, ViewsAscend, view_index, IsViewAt}
use Rattle.intentions_manager.specs.declared.views.View.{View}
use Rattle.object_trait.proofs.Rows.{parted, place-found}
use Rattle.intentions_manager.proofs.views.searched_place.Goals as goal

pub returns : goal.returns
returns c =
    let t = c.args.t in
    let views = c.deref.result.now in
    let own = c.args.views.now.items in
    let early = parted view_owner t views (subst (λ V. ViewsAscend V) (sym c.deref.ensures.value) c.requires) in
    let point = IsPartitionPoint-from_clause (λ (v : View). ltb v.by t) _ _ c.partition_point-at.ensures.partitioned early (λ a r q k. search rules) in
    let index : c.partition_point-at.result ≡ view_index t own = place-found view_owner t views c.partition_point-at.result c.partition_point-at.ensures.bound point ∙ ap (view_index t) c.deref.ensures.value in
    record {
      index = index;
      there = λ taken. subst (λ n. IsViewAt t n own) index (c.is_at.ensures.there taken);
      elsewhere = λ free here. c.is_at.ensures.elsewhere free (subst (λ n. IsViewAt t n own) (sym index) here);
    }
