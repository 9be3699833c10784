use Rattle.std.proofs.Common.{◌∙◌, ap, rules, tests}
use Rattle.std.specs.Prelude.{◌==◌}
use Rattle.std.proofs.lemmas.Iterator.{YieldsList-from_slice}
use Rattle.std.proofs.lemmas.Iterator.Search.{find_from_yields_List}
use Rattle.transaction_key.specs.TransactionKey.{key_place}
use Rattle.journal.specs.declared.prepared_row.Prepared.{Prepared}
use Rattle.durable_store.specs.Held.{first_passing}
use Rattle.durable_store.proofs.HeldLists.{finds}
use Rattle.durable_store.proofs.held_list.at_place.Goals as goal

pub returns : goal.returns
returns c =
    find_from_yields_List (λ (p : Prepared). key_place p.key == c.place-place.result) _ _ c.find.result c.find.ensures.ran (YieldsList-from_slice c.args.prepared.now cc) (λ x b q k. search (rules, tests))
    ∙ finds (λ (p : Prepared). key_place p.key == c.place-place.result) c.args.prepared.now
    ∙ ap (λ n. first_passing (λ (p : Prepared). key_place p.key == n) c.args.prepared.now) c.place-place.ensures.exact
