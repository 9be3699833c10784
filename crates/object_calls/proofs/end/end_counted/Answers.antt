use Rattle.std.proofs.Common.{◌≡◌, ◌<◌, length, get_or, take, ◌∙◌, arith}
use Rattle.std.proofs.lemmas.List.{take_all, get_or_default}
use Rattle.object_calls.specs.Ends.{EndsObject}
use Rattle.object_calls.proofs.Counts.{left_none}
use Rattle.object_calls.proofs.Visited.{visited_none, visited_now, visited_again}
use Rattle.object_calls.proofs.end.end_counted.Goals as goal
use Rattle.object_calls.proofs.end.end_counted.Goals.{then-counts-x-gt0, else-counts-x-gt0}

pub count-requires : goal.count-requires
count-requires g c = record {
  zero = c.requires.zero;
  inside = λ i d i_in. omega (arith, c.requires.inside i d i_in, c.requires.room);
  few = c.requires.few;
}

pub loop-place-init : goal.loop-place-init
loop-place-init g c =
    visited_none g.R.Recovery.meaning (λ x m n. EndsObject c.args.how m c.args.t n) (length c.args.counts.now) c.args.places.now c.args.objects.now.items c.count.new.counts
    c.count.ensures.room c.count.ensures.exact

pub loop-place-preserved : goal.loop-place-preserved
loop-place-preserved g c =
    let i_in : c.loop-place.place-index < length c.args.places.now = omega arith in
    let low : get_or c.args.places.now c.loop-place.place-index 0 < length c.args.counts.now = omega (arith, c.requires.inside c.loop-place.place-index 0 i_in, c.requires.room) in
    let is : c.number-x.result ≡ get_or c.args.places.now c.loop-place.place-index 0 =
    c.number-x.ensures.exact ∙ c.place-item.is ∙ get_or_default c.args.places.now c.loop-place.place-index c.place-item.result 0 i_in in
    elim c.if-counts-x-gt0.branch [
      | then-counts-x-gt0 w ↦
          rw (w.objects-is, w.counts-is, is)
          (visited_now g.R.Recovery.meaning (λ x m n. EndsObject c.args.how m c.args.t n) (length c.args.counts.now) c.args.places.now c.loop-place.place-index i_in
          c.args.objects.now.items c.loop-place.objects.items c.loop-place.counts c.loop-place.invariant c.requires.inside low
          (rw is at w.if-counts-x-gt0.true)
          w.index_mut.result.now w.end_one.new.object (rw is at w.index_mut.ensures.value) w.end_one.ensures)
      | else-counts-x-gt0 w ↦
          rw (w.objects-is, w.counts-is)
          (visited_again g.R.Recovery.meaning (λ x m n. EndsObject c.args.how m c.args.t n) (length c.args.counts.now) c.args.places.now c.loop-place.place-index i_in
          c.args.objects.now.items c.loop-place.objects.items c.loop-place.counts c.loop-place.invariant c.requires.inside low
          (omega (arith, rw is at w.if-counts-x-gt0.false)))
    ]

pub returns : goal.returns
returns g c =
    let at_end : c.loop-place.place-index ≡ length c.args.places.now = omega arith in
    let all : take c.loop-place.place-index c.args.places.now ≡ c.args.places.now = take_all _ _ (omega arith) in
    record {
      changes = rw all at c.loop-place.invariant.objects;
      zero = left_none (length c.args.counts.now) c.args.places.now c.loop-place.counts c.loop-place.invariant.long (rw at_end at c.loop-place.invariant.left);
      room = c.loop-place.invariant.long;
    }
