use Rattle.std.proofs.Common.{◌≡◌, ◌∙◌, ◌++◌, ap, map, subst, sym}
use Rattle.object_types.specs.Types.{AreTypesOf, value_of}
use Rattle.objects.specs.Object.{checked_types}
use Rattle.durable_store.specs.Growth.{AreAdded}
use Rattle.durable_store.specs.GrowthParts.{ArePlacesOf}
use Rattle.durable_store.proofs.Growths.{added-of, placed-of}
use Rattle.durable_store.proofs.growth.placed_growth.Goals as goal

pub returns-clause-growth : goal.returns-clause-growth
returns-clause-growth c =
    let texts = c.args.texts.now in
    let lines = c.args.lines.now in
    let declared = c.in_ok-declared.declared.items in
    let types = map value_of c.in_ok-types.types.items in
    let objects = c.in_ok-objects.objects.items in
    let placed = c.in_ok-placed.placed in
    let of : AreTypesOf declared lines types = subst (λ fs. AreTypesOf fs lines types) c.deref.ensures.value c.in_ok-types.ensures.accepted in
    let are : AreAdded texts lines types = added-of texts declared lines types c.in_ok-declared.ensures.read of in
    let same : checked_types objects ≡ types = c.in_ok-objects.ensures.types ∙ ap (map value_of) c.deref-2.ensures.value in
    let at : ArePlacesOf placed.places.items lines c.in_ok-lines.lines.items = subst (λ ps. ArePlacesOf ps lines c.in_ok-lines.lines.items) c.deref-3.ensures.value c.in_ok-lines.ensures.placed in
    record {
      few = c.in_ok-placed.ensures.few;
      unknown = c.in_ok-placed.ensures.unknown;
      placed = placed-of texts (c.args.known.now ++ placed.fresh.items) placed.places.items lines c.in_ok-lines.lines.items c.in_ok-placed.ensures.places at;
      fresh = c.in_ok-objects.ensures.fresh;
      are = subst (AreAdded texts lines) (sym same) are;
    }
