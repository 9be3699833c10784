use Rattle.std.proofs.Common.{length, ap, sym, ◌∙◌}
use Rattle.std.proofs.lemmas.Bool.{lt-ltb}
use Rattle.declared_types.proofs.TableOps.{name_length}
use Rattle.object_calls.specs.Collected.{call_index}
use Rattle.object_calls.proofs.CollectedCalls.{known_is_added, first_is_added}
use Rattle.object_calls.proofs.call_table.add_operation.Goals as goal

pub returns-in-Some : goal.returns-in-Some
returns-in-Some c = λ names is_k h.
    let found = ap (λ calls. call_index calls c.args.name) (sym c.deref.ensures.value) ∙ sym c.in-Some.ensures in
    known_is_added names c.args.calls.now.items h c.args.name c.in-Some.place found c.index_mut.result.now c.index_mut.ensures.value c.args.k is_k c.requires

pub returns-in_ok-push-in-None : goal.returns-in_ok-push-in-None
returns-in_ok-push-in-None c = λ names is_k h.
    let none = ap (λ calls. call_index calls c.args.name) (sym c.deref.ensures.value) ∙ sym c.in-None.ensures in
    let named = lt-ltb 0 (length c.args.name) (name_length c.args.name c.as_bytes-bytes.ensures.name) in
    rw (c.in_ok-push-in-None.ensures.items, c.listed.ensures) (first_is_added names c.args.calls.now.items h c.args.name none named c.args.k is_k c.requires)
