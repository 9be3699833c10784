use Rattle.std.proofs.Common.{◌≡◌, ◌∙◌, ◌++◌, [], ◌∷◌, ap, length, refl, sym, subst, arith}
use Rattle.std.proofs.lemmas.List.{append_assoc, length-append}
use Rattle.std.proofs.lemmas.Option.{slice_get_read}
use Rattle.object_types.proofs.Pairs.{Each}
use Rattle.durable_store.proofs.Begun.{each-more}
use Rattle.durable_store.proofs.Growths.{IsAmongAt, among-more}
use Rattle.durable_store.proofs.growth.place_texts.Goals as goal

pub loop-text-preserved : goal.loop-text-preserved
loop-text-preserved c =
    let known = c.args.known.now in
    let texts = c.args.texts.now in
    let i = c.loop-text.text-index in
    let before = c.loop-text.places.items in
    let fresh = c.place_text.new.fresh.items in
    let (more, is) = c.in_ok-place.ensures.behind in
    let whole : (known ++ c.loop-text.fresh.items) ++ more ≡ known ++ fresh = append_assoc known c.loop-text.fresh.items more ∙ ap (λ ts. known ++ ts) (sym is) in
    let each : Each (IsAmongAt (known ++ fresh)) texts before =
    subst (λ all. Each (IsAmongAt all) texts before) whole (among-more (known ++ c.loop-text.fresh.items) more texts before c.loop-text.invariant.each) in
    let long = ap length c.in_ok-push.ensures.items ∙ length-append before (c.in_ok-place.place ∷ []) in
    record {
      few = c.in_ok-place.ensures.few;
      unknown = c.in_ok-place.ensures.unknown;
      count = omega (arith, long, c.loop-text.invariant.count);
      each = each-more (IsAmongAt (known ++ fresh)) texts before c.push.new.self.items i c.text-item.result c.in_ok-place.place c.loop-text.invariant.count
          (slice_get_read texts (length texts) i c.text-item.result refl c.loop-text-test.true c.text-item.is) c.in_ok-place.ensures.at each c.in_ok-push.ensures.items;
    }
