use Rattle.std.proofs.Common.{◌≡◌, ◌∙◌, List, ◌++◌, ◌∷◌, [], length, get_or, sym, ap, arith}
use Rattle.std.proofs.lemmas.List.{length-append}
use Rattle.request_text.specs.declared.request.TransactionName.{TransactionName}
use Rattle.serving.specs.declared.names.Carried.{Carried}
use Rattle.serving.specs.Names.{carried_as, known_name}
use Rattle.serving.proofs.GivenNames.{over-more, place-within}
use Rattle.serving.proofs.names.Names.carried_over.Goals as goal

pub overflow_cast-place : goal.overflow_cast-place
overflow_cast-place c =
    let low = place-within c.args.those.now c.requires c.loop-place.place c.loop-place-test.true in
    omega (arith, low, c.type_inv.those c.loop-place.place)

pub loop-place-preserved : goal.loop-place-preserved
loop-place-preserved c =
    let names = c.args.self.now in
    let those = c.args.those.now in
    let i = c.loop-place.place in
    let known : c.name_of-name.result ≡ known_name names (get_or those i 0) = c.name_of-name.ensures in
    let one : Carried = record { name = c.name_of-name.result; number = i } in
    let is : one ≡ record (carried_as names those (get_or those i 0)) { number = i } = ap (λ (t : TransactionName). let it : Carried = record { name = t; number = i } in it) known in
    record {
      room = omega (arith, c.push_reserved.ensures.capacity, c.loop-place.invariant.room);
      count = omega (arith, ap length c.push_reserved.ensures.items, length-append c.loop-place.carried.items (one ∷ []), c.loop-place.invariant.count);
      exact = c.push_reserved.ensures.items ∙ ap (λ (front : List Carried). front ++ one ∷ []) c.loop-place.invariant.exact ∙ sym (over-more names those i one c.requires c.loop-place-test.true is);
    }
