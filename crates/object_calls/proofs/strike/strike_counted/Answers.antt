use Rattle.std.proofs.Common.{◌≡◌, ◌<◌, length, get_or, take, ◌∙◌, arith}
use Rattle.std.proofs.lemmas.List.{take_all, get_or_default}
use Rattle.object_trait.specs.Steps.{IsStrike}
use Rattle.object_calls.specs.Ends.{times_in}
use Rattle.object_calls.proofs.Counts.{left_none}
use Rattle.object_calls.proofs.Visited.{visited_none, visited_now, visited_again, whole_count, enough_entries}
use Rattle.object_calls.proofs.strike.strike_counted.Goals as goal
use Rattle.object_calls.proofs.strike.strike_counted.Goals.{then-count-gt0, else-count-gt0}

pub count-requires : goal.count-requires
count-requires g c = record {
  zero = c.requires.zero;
  inside = λ i d i_in. omega (arith, c.requires.inside i d i_in, c.requires.room);
  few = c.requires.few;
}

pub loop-place-init : goal.loop-place-init
loop-place-init g c =
    visited_none g.R.Recovery.meaning (λ x m n. IsStrike m c.args.t (times_in x c.args.places.now) n) (length c.args.counts.now) c.args.places.now c.args.objects.now.items c.count.new.counts
    c.count.ensures.room c.count.ensures.exact

pub strike-requires : goal.strike-requires
strike-requires g c =
    let i_in : c.loop-place.place-index < length c.args.places.now = omega arith in
    let low : get_or c.args.places.now c.loop-place.place-index 0 < length c.args.counts.now = omega (arith, c.requires.inside c.loop-place.place-index 0 i_in, c.requires.room) in
    let is : c.number-x.result ≡ get_or c.args.places.now c.loop-place.place-index 0 =
    c.number-x.ensures.exact ∙ c.place-item.is ∙ get_or_default c.args.places.now c.loop-place.place-index c.place-item.result 0 i_in in
    rw is
    (enough_entries g.R.Recovery.meaning (λ x m n. IsStrike m c.args.t (times_in x c.args.places.now) n) (length c.args.counts.now) c.args.places.now c.loop-place.place-index i_in
    c.args.objects.now.items c.loop-place.objects.items c.loop-place.counts c.loop-place.invariant c.requires.inside low
    (rw is at c.if-count-gt0.true) c.index_mut.result.now (rw is at c.index_mut.ensures.value) c.args.t c.requires.last)

pub loop-place-preserved : goal.loop-place-preserved
loop-place-preserved g c =
    let i_in : c.loop-place.place-index < length c.args.places.now = omega arith in
    let low : get_or c.args.places.now c.loop-place.place-index 0 < length c.args.counts.now = omega (arith, c.requires.inside c.loop-place.place-index 0 i_in, c.requires.room) in
    let is : c.number-x.result ≡ get_or c.args.places.now c.loop-place.place-index 0 =
    c.number-x.ensures.exact ∙ c.place-item.is ∙ get_or_default c.args.places.now c.loop-place.place-index c.place-item.result 0 i_in in
    elim c.if-count-gt0.branch [
      | then-count-gt0 w ↦
          let some : 0 < get_or c.loop-place.counts (get_or c.args.places.now c.loop-place.place-index 0) 0 = rw is at w.if-count-gt0.true in
          let whole : get_or c.loop-place.counts (get_or c.args.places.now c.loop-place.place-index 0) 0 ≡ times_in (get_or c.args.places.now c.loop-place.place-index 0) c.args.places.now =
          whole_count g.R.Recovery.meaning (λ x m n. IsStrike m c.args.t (times_in x c.args.places.now) n) (length c.args.counts.now) c.args.places.now c.loop-place.place-index i_in
          c.args.objects.now.items c.loop-place.objects.items c.loop-place.counts c.loop-place.invariant c.requires.inside low some in
          rw (w.objects-is, w.counts-is, is)
          (visited_now g.R.Recovery.meaning (λ x m n. IsStrike m c.args.t (times_in x c.args.places.now) n) (length c.args.counts.now) c.args.places.now c.loop-place.place-index i_in
          c.args.objects.now.items c.loop-place.objects.items c.loop-place.counts c.loop-place.invariant c.requires.inside low
          some
          w.index_mut.result.now w.strike.new.self (rw is at w.index_mut.ensures.value)
          (rw whole at (rw is at w.strike.ensures)))
      | else-count-gt0 w ↦
          rw (w.objects-is, w.counts-is)
          (visited_again g.R.Recovery.meaning (λ x m n. IsStrike m c.args.t (times_in x c.args.places.now) n) (length c.args.counts.now) c.args.places.now c.loop-place.place-index i_in
          c.args.objects.now.items c.loop-place.objects.items c.loop-place.counts c.loop-place.invariant c.requires.inside low
          (omega (arith, rw is at w.if-count-gt0.false)))
    ]

pub returns : goal.returns
returns g c =
    let at_end : c.loop-place.place-index ≡ length c.args.places.now = omega arith in
    let all : take c.loop-place.place-index c.args.places.now ≡ c.args.places.now = take_all _ _ (omega arith) in
    record {
      changes = rw all at c.loop-place.invariant.objects;
      zero = left_none (length c.args.counts.now) c.args.places.now c.loop-place.counts c.loop-place.invariant.long (rw at_end at c.loop-place.invariant.left);
      room = c.loop-place.invariant.long;
    }
