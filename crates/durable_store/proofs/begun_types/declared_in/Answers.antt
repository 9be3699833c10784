use Rattle.std.proofs.Common.{◌∙◌, [], ◌∷◌, ap, length, refl, arith}
use Rattle.std.proofs.lemmas.List.{length-append}
use Rattle.std.proofs.lemmas.Option.{slice_get_read}
use Rattle.declared_text.specs.Declared.{Declares}
use Rattle.durable_store.proofs.Begun.{each-more}
use Rattle.durable_store.proofs.begun_types.declared_in.Goals as goal

pub loop-position-preserved : goal.loop-position-preserved
loop-position-preserved c =
    let texts = c.args.texts.now in
    let position = c.loop-position.position in
    let long = ap length c.in_ok-push.ensures.items ∙ length-append c.loop-position.declared.items (c.in_ok-found.found ∷ []) in
    record {
      count = omega (arith, long, c.loop-position.invariant.count);
      each = each-more Declares texts c.loop-position.declared.items c.push.new.self.items position c.index-texts-position.result c.in_ok-found.found c.loop-position.invariant.count
          (slice_get_read texts (length texts) position c.index-texts-position.result refl c.loop-position-test.true c.index-texts-position.is) c.in_ok-found.ensures.declares c.loop-position.invariant.each
          c.in_ok-push.ensures.items;
    }
