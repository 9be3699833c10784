use Rattle.std.proofs.Common.{◌∙◌, cond, Some, sym, ap}
use Rattle.std.specs.Str.{bytes_eq}
use Rattle.durable_store.specs.Names.{indexed}
use Rattle.durable_store.proofs.NameIndexes.{index_known, index_put, none_found}
use Rattle.durable_store.proofs.object_names.ObjectNames.put.Goals as goal

pub returns-in_ok-insert : goal.returns-in_ok-insert
returns-in_ok-insert c = λ others long are.
    index_put others c.args.object.now c.in-Some.name c.args.self.now (record { numbers = c.insert.new.self }) c.in-Some.is
    (none_found (indexed c.args.self.now c.in-Some.name) (sym c.contains_key.ensures ∙ c.if-not-contains_key.true))
    (λ w. c.in_ok-insert.ensures.updates.0 w ∙ ap (λ n. cond (bytes_eq c.in-Some.name w) (Some n) (indexed c.args.self.now w)) (sym long)) are

pub returns-else-not-contains_key : goal.returns-else-not-contains_key
returns-else-not-contains_key c = λ others long are.
    index_known others c.args.object.now c.in-Some.name c.args.self.now c.in-Some.is (sym c.contains_key.ensures ∙ c.if-not-contains_key.false) are
