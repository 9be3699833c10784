use Rattle.std.proofs.Common.{◌∙◌, rules, tests}
use Rattle.std.proofs.lemmas.Iterator.{YieldsList-from_slice}
use Rattle.std.proofs.lemmas.Iterator.Search.{find_from_yields_List}
use Rattle.durable_store.specs.Held.{has_number}
use Rattle.durable_store.proofs.HeldLists.{finds}
use Rattle.durable_store.proofs.held_list.of_transaction.Goals as goal

pub returns : goal.returns
returns c =
    find_from_yields_List (has_number c.args.t) _ _ c.find.result c.find.ensures.ran (YieldsList-from_slice c.args.prepared.now cc) (λ x b q k. search (rules, tests)) ∙ finds (has_number c.args.t) c.args.prepared.now
