use Rattle.std.proofs.Common.{refl}
use Rattle.std.proofs.lemmas.Result.{IfOk-weaker}
use Rattle.object_types.proofs.Objects.{refused_at, shared_type}
use Rattle.object_types.proofs.LookUps.{found, not_found}
use Rattle.object_types.proofs.accept.accept.Goals as goal

pub returns-in-Some-clause-accepted : goal.returns-in-Some-clause-accepted
returns-in-Some-clause-accepted c =
    shared_type c.args.declared.now c.args.before.now c.args.types.now.items c.in-Some.other c.args.object.now c.index.result.now c.in_ok-clone.field-0 c.requires.known c.in-Some.ensures
    c.index.ensures c.in_ok-clone.ensures.cases

pub returns-in-Some-get-clause-accepted : goal.returns-in-Some-get-clause-accepted
returns-in-Some-get-clause-accepted c =
    let lookup = c.in-Some-get.ensures.lookup in
    let there = found c.args.declared.now c.args.object.now.file c.in-Some-get.found.now lookup.0 lookup.1 in
    IfOk-weaker c.check_copy.result _ _ (λ a checked. record { declaration = c.in-Some-get.found.now; there = there; checked = checked }) c.check_copy.ensures.accepted

pub returns-in-Some-get-clause-refused : goal.returns-in-Some-get-clause-refused
returns-in-Some-get-clause-refused c =
    let lookup = c.in-Some-get.ensures.lookup in
    let there = found c.args.declared.now c.args.object.now.file c.in-Some-get.found.now lookup.0 lookup.1 in
    refused_at c.args.declared.now c.args.x c.args.object.now c.in-Some-get.found.now c.check_copy.result there c.check_copy.ensures.refused

pub returns-in-None-clause-refused : goal.returns-in-None-clause-refused
returns-in-None-clause-refused c = (refl, refl, not_found c.args.declared.now c.args.object.now.file c.in-None.ensures.lookup.0)
