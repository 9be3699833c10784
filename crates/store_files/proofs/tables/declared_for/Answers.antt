use Rattle.std.proofs.Common.{ap, length, map, refl, ◌∙◌}
use Rattle.std.proofs.lemmas.List.{map_push}
use Rattle.std.proofs.lemmas.Option.{slice_get_read}
use Rattle.declared_types.specs.Declarations.{table_of}
use Rattle.object_types.proofs.LookUps.{found, not_found}
use Rattle.store_files.proofs.Objects.{first_without, tables_push}
use Rattle.store_files.proofs.tables.declared_for.Goals as goal

pub returns-in-None-clause-refused : goal.returns-in-None-clause-refused
returns-in-None-clause-refused c =
    let declared = c.args.declared.now in
    let objects = c.args.objects.now in
    let o = c.index-objects-x.result in
    let there = slice_get_read objects (length objects) c.loop-x.x o refl c.loop-x-test.true c.index-objects-x.is in
    (c.loop-x.x, _, first_without declared objects c.loop-x.x o _ there c.loop-x.invariant (not_found declared _ c.in-None.ensures.lookup.0))

pub loop-x-preserved : goal.loop-x-preserved
loop-x-preserved c =
    let declared = c.args.declared.now in
    let objects = c.args.objects.now in
    let o = c.index-objects-x.result in
    let there = slice_get_read objects (length objects) c.loop-x.x o refl c.loop-x-test.true c.index-objects-x.is in
    let lookup = c.in-Some.ensures.lookup in
    let one = found declared _ c.in-Some.found.now lookup.0 lookup.1 in
    tables_push declared objects _ _ c.loop-x.x o (table_of c.in-Some.found.now) there c.loop-x.invariant
    (record { declaration = c.in-Some.found.now; there = one; is = refl })
    (ap (map (λ t. table_of t.now)) c.in_ok-push-in-Some.ensures.items ∙ map_push (λ t. table_of t.now) c.loop-x.types.items _)
