use Rattle.std.proofs.Common.{◌<◌, get_or, option_map, Some, ap, ◌∙◌, arith}
use Rattle.std.proofs.lemmas.List.{length-set}
use Rattle.std.proofs.lemmas.Option.{slice_get-get_or, slice_get-map}
use Rattle.type_table.proofs.Elements.{each-found}
use Rattle.history_audit.specs.Commits.{numbers}
use Rattle.history_judge.specs.declared.committed.Committed.{Committed}
use Rattle.history_audit.proofs.Ordered.{places-more}
use Rattle.history_audit.proofs.commits.places_of.Goals as goal

pub loop-place-preserved : goal.loop-place-preserved
loop-place-preserved c =
    let commits = c.args.commits.now in
    let n = c.loop-place.place in
    let item = get_or commits n c.index-commits-place.result in
    let here = slice_get-get_or commits n c.index-commits-place.result c.loop-place-test.true in
    let low = each-found (λ (d : Committed). d.number < c.args.above) commits n item c.requires here in
    let long = c.loop-place.invariant.long in
    record {
      long = length-set c.loop-place.places.items item.number (Some n) ∙ long;
      places = places-more (numbers commits) c.loop-place.places.items n item.number c.loop-place.invariant.places
          (slice_get-map (λ (d : Committed). d.number) commits n ∙ ap (option_map (λ (d : Committed). d.number)) here) (omega (arith, low, long));
    }
