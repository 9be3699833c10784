use Rattle.std.proofs.Common.{Some, slice_get, ap, ◌∙◌}
use Rattle.type_table.specs.Table.{call_of}
use Rattle.store_laws.specs.Stored.{objects}
use Rattle.store.proofs.Known.{numbered-there}
use Rattle.store.proofs.store.Store.would_op.Goals as goal

pub returns-clause-unnumbered : goal.returns-clause-unnumbered
returns-clause-unnumbered g c =
    let its = c.in_ok-call.ensures.call in
    let call = c.in_ok-call.call in
    let named = numbered-there (slice_get (objects c.args.self.now) c.args.x) its.1.0 its.1.1 call its.1.2 in
    λ none. absurd (none (call_of its.1.0.table call.first) (named ∙ ap (λ n. Some n) its.0))
