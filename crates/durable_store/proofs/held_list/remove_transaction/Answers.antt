use Rattle.std.proofs.Common.{not, rules}
use Rattle.std.proofs.lemmas.Fn.{filter_same}
use Rattle.journal.specs.declared.prepared_row.Prepared.{Prepared}
use Rattle.durable_store.specs.Held.{has_number}
use Rattle.durable_store.proofs.held_list.remove_transaction.Goals as goal

pub returns : goal.returns
returns c =
    filter_same _ (λ (p : Prepared). not (has_number c.args.t p)) _ (λ x b f' k. search rules) c.args.prepared.now.items c.retain.new.self.items c.retain.ensures.filtered
