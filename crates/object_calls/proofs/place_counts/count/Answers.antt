use Rattle.std.proofs.Common.{◌≡◌, ℕ, ◌<◌, length, get_or, refl, ◌∙◌, length-set, arith}
use Rattle.std.proofs.lemmas.List.{get_or_default}
use Rattle.object_calls.proofs.Counts.{counts_more, counts_fit, counts_all}
use Rattle.object_calls.proofs.place_counts.count.Goals as goal

pub loop-place-init : goal.loop-place-init
loop-place-init c = record { long = refl; counted = λ x low. c.requires.zero x 0 low }

pub overflow_add-counts : goal.overflow_add-counts
overflow_add-counts c =
    let i_in : c.loop-place.place-index < length c.args.places.now = omega arith in
    let low : get_or c.args.places.now c.loop-place.place-index 0 < length c.args.counts.now = c.requires.inside c.loop-place.place-index 0 i_in in
    let is : c.number-x.result ≡ get_or c.args.places.now c.loop-place.place-index 0 =
    c.number-x.ensures.exact ∙ c.place-item.is ∙ get_or_default c.args.places.now c.loop-place.place-index c.place-item.result 0 i_in in
    rw is
    (omega (
      arith,
      counts_fit (length c.args.counts.now) c.args.places.now c.loop-place.counts c.loop-place.place-index i_in c.loop-place.invariant.counted
          (get_or c.args.places.now c.loop-place.place-index 0) low,
    ))

pub loop-place-preserved : goal.loop-place-preserved
loop-place-preserved c =
    let i_in : c.loop-place.place-index < length c.args.places.now = omega arith in
    let low : get_or c.args.places.now c.loop-place.place-index 0 < length c.args.counts.now = c.requires.inside c.loop-place.place-index 0 i_in in
    let is : c.number-x.result ≡ get_or c.args.places.now c.loop-place.place-index 0 =
    c.number-x.ensures.exact ∙ c.place-item.is ∙ get_or_default c.args.places.now c.loop-place.place-index c.place-item.result 0 i_in in
    record {
      long = omega (arith, length-set {A = ℕ}, c.loop-place.invariant.long);
      counted =
          rw is
          (counts_more (length c.args.counts.now) c.args.places.now c.loop-place.counts c.loop-place.place-index i_in c.loop-place.invariant.counted (omega (arith, low, c.loop-place.invariant.long)));
    }

pub returns : goal.returns
returns c =
    let all : c.loop-place.place-index ≡ length c.args.places.now = omega arith in
    record {
      room = c.loop-place.invariant.long;
      exact = counts_all (length c.args.counts.now) c.args.places.now c.loop-place.counts c.loop-place.invariant.long (rw all at c.loop-place.invariant.counted);
    }
