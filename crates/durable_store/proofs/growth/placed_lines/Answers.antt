use Rattle.std.proofs.Common.{◌∙◌, ap, length, refl, sym, arith}
use Rattle.std.specs.Prelude.{slice_get}
use Rattle.std.proofs.lemmas.List.{length-append}
use Rattle.std.proofs.lemmas.Option.{slice_get_read}
use Rattle.durable_store.proofs.Begun.{each-more}
use Rattle.durable_store.proofs.Growths.{IsPlacedAt}
use Rattle.durable_store.proofs.growth.placed_lines.Goals as goal

pub loop-x-preserved : goal.loop-x-preserved
loop-x-preserved c =
    let lines = c.args.lines.now in
    let before = c.loop-x.placed.items in
    let line = c.index-lines-x.result in
    let places = c.args.places.now in
    let found = c.in-Some.ensures.lookup in
    let place = ap (λ k. slice_get places k) (sym c.from.ensures) ∙ slice_get_read places (length places) c.from.result c.in-Some.file.now refl found.3.0 found.1 in
    let long = ap length c.in_ok-push.ensures.items ∙ length-append before _ in
    record {
      count = omega (arith, long, c.loop-x.invariant.count);
      each = each-more (IsPlacedAt c.args.places.now) lines before c.push.new.self.items c.loop-x.x line _ c.loop-x.invariant.count
          (slice_get_read lines (length lines) c.loop-x.x line refl c.loop-x-test.true c.index-lines-x.is) (refl, refl, place) c.loop-x.invariant.each c.in_ok-push.ensures.items;
    }
