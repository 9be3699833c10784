use Rattle.std.proofs.Common.{◌∙◌, ◌<◌, ◌≤◌, [], ◌∷◌, ◌++◌, length, ap, sym, arith}
use Rattle.std.proofs.lemmas.List.{length-map, take_all}
use Rattle.object_trait.specs.Object.{object_of}
use Rattle.durable_store.specs.Epochs.{firsts}
use Rattle.durable_store.proofs.Firsts.{firsts-next}
use Rattle.durable_store.proofs.durable.first_states.Goals as goal

pub loop-x-preserved : goal.loop-x-preserved
loop-x-preserved c =
    let types = c.args.store.now.types in
    let low : c.loop-x.x < length types = omega (arith, c.loop-x-test.true, c.object_count-x-end.ensures, length-map types object_of) in
    c.in_ok-push.ensures.items
    ∙ ap (λ states. states ++ c.first_state.result ∷ []) c.loop-x.invariant
    ∙ sym (firsts-next types c.loop-x.x c.first_state.result low c.first_state.ensures)

pub returns : goal.returns
returns c =
    let types = c.args.store.now.types in
    let many : length types ≤ c.loop-x.x = omega (arith, c.loop-x-test.false, c.object_count-x-end.ensures, length-map types object_of) in
    c.loop-x.invariant ∙ ap firsts (take_all c.loop-x.x types many)
