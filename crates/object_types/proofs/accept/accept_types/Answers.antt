use Rattle.std.proofs.Common.{length, refl, ap, map, ◌∙◌}
use Rattle.std.proofs.lemmas.List.{map_push}
use Rattle.std.proofs.lemmas.Option.{slice_get_read}
use Rattle.object_types.specs.Types.{HasAcceptedType, IsFirstObjectFault, value_of}
use Rattle.object_types.proofs.Objects.{first_fault, types_push}
use Rattle.object_types.proofs.LookUps.{err_exit}
use Rattle.object_types.proofs.accept.accept_types.Goals as goal

pub returns-in_err-accepted-clause-refused : goal.returns-in_err-accepted-clause-refused
returns-in_err-accepted-clause-refused c =
    let objects = c.args.objects.now in
    let o = c.index-objects-x.result in
    let there = slice_get_read objects (length objects) c.loop-x.x o refl c.loop-x-test.true c.index-objects-x.is in
    err_exit (IsFirstObjectFault HasAcceptedType c.args.declared.now c.args.objects.now) c.from_residual.result c.in_err-accepted.field-0.0 c.from_residual.ensures.1
    (first_fault c.args.declared.now c.args.objects.now c.loop-x.x _ _ c.in_err-accepted.field-0.0 there c.loop-x.invariant c.in_err-accepted.ensures.refused)

pub loop-x-preserved : goal.loop-x-preserved
loop-x-preserved c =
    let objects = c.args.objects.now in
    let o = c.index-objects-x.result in
    let there = slice_get_read objects (length objects) c.loop-x.x o refl c.loop-x-test.true c.index-objects-x.is in
    types_push c.args.declared.now c.args.objects.now _ _ c.loop-x.x _ (value_of c.in_ok-accepted.accepted) there c.loop-x.invariant c.in_ok-accepted.ensures.accepted
    (ap (map value_of) c.in_ok-push.ensures.items ∙ map_push value_of c.loop-x.types.items c.in_ok-accepted.accepted)
