use Rattle.std.proofs.Common.{◌∙◌, ◌++◌, ◌∷◌, List, [], length, sym, ap, arith}
use Rattle.std.proofs.lemmas.List.{length-append}
use Rattle.serving.specs.declared.names.Carried.{Carried}
use Rattle.serving.specs.Names.{carried_given}
use Rattle.serving.proofs.GivenNames.{given-more}
use Rattle.serving.proofs.names.all_given.Goals as goal

pub loop-p-preserved : goal.loop-p-preserved
loop-p-preserved c = record {
  room = omega (arith, c.push_reserved.ensures.capacity, c.loop-p.invariant.room);
  count = omega (arith, ap length c.push_reserved.ensures.items, length-append c.loop-p.carried.items (carried_given c.p-item.result ∷ []), c.loop-p.invariant.count);
  exact = c.push_reserved.ensures.items ∙ ap (λ (front : List Carried). front ++ carried_given c.p-item.result ∷ []) c.loop-p.invariant.exact ∙ sym (given-more c.args.prepared.now c.loop-p.p-index c.p-item.result c.p-item.is c.loop-p-test.true);
}
