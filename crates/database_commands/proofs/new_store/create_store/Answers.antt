use Rattle.std.proofs.Common.{◌∙◌, List, map, Ok, Err, subst}
use Rattle.declared_types.specs.declared.declared_type.Declaration.{Declaration}
use Rattle.store_text.specs.declared.line.ObjectLine.{ObjectLine}
use Rattle.object_types.specs.Types.{value_of}
use Rattle.command_files.proofs.Comes.{comes}
use Rattle.store_files.specs.declared.found_types.ObjectTypes.{ObjectTypes}
use Rattle.database_commands.specs.Created.{FindsAmong, CreatesDatabase}
use Rattle.store_commands.proofs.Exits.{exits_early}
use Rattle.database_commands.proofs.NewStores.{created, refused, type_fault, untyped}
use Rattle.database_commands.proofs.new_store.create_store.Goals as goal

pub returns-in_err-declared-clause-comes : goal.returns-in_err-declared-clause-comes
returns-in_err-declared-clause-comes g c =
    let words = map (λ p. p.now) c.args.asked.types.now in
    exits_early _ _ _ _ _ c.from_residual-in_err-declared.result c.in_err-declared.field-0.0 _ c.from_residual-in_err-declared.ensures.1
    (type_fault (g.S.Source.holds c.args.source.now) (g.S.Source.holds c.read_objects.new.source) c.in_ok-objects.ensures.kept c.args.asked.objects.now words c.in_ok-objects.objects.items
    c.in_ok-objects.ensures.read)
    c.in_err-declared.ensures.refused

pub returns-in_err-found-clause-comes : goal.returns-in_err-found-clause-comes
returns-in_err-found-clause-comes g c =
    let words = map (λ p. p.now) c.args.asked.types.now in
    let e = c.in_err-found.field-0.0 in
    exits_early _ _ _ _ _ c.from_residual-in_err-found.result e _ c.from_residual-in_err-found.ensures.1
    (untyped (g.S.Source.holds c.args.source.now) (g.S.Source.holds c.read_objects.new.source) c.in_ok-objects.ensures.kept c.args.asked.objects.now words c.in_ok-objects.objects.items
    c.in_ok-objects.ensures.read c.in_ok-declared.declared.items c.in_ok-declared.ensures.read)
    (subst (λ (ds : List Declaration). FindsAmong ds c.in_ok-objects.objects.items (Err e)) c.deref.ensures.value
    (subst (λ (os : List ObjectLine). FindsAmong c.deref.result.now os (Err e)) c.deref-2.ensures.value c.in_err-found.ensures))

pub returns-in-Accepted-clause-comes : goal.returns-in-Accepted-clause-comes
returns-in-Accepted-clause-comes g c =
    let words = map (λ p. p.now) c.args.asked.types.now in
    let objects = c.in_ok-objects.objects.items in
    let declared = c.in_ok-declared.declared.items in
    let found = subst (λ (ds : List Declaration). FindsAmong ds objects (Ok c.in_ok-found.found)) c.deref.ensures.value
    (subst (λ (os : List ObjectLine). FindsAmong c.deref.result.now os (Ok c.in_ok-found.found)) c.deref-2.ensures.value c.in_ok-found.ensures) in
    let are = subst (λ (t : ObjectTypes). FindsAmong declared objects (Ok t)) c.in-Accepted.is found in
    let clean = g.D.Databases.is_clean c.make_at.new.databases in
    let made = g.D.Databases.holds c.make_at.new.databases c.args.asked.database.now in
    comes _ _ _ _ c.make_at.result _ _
    (λ v text makes. created (g.S.Source.holds c.args.source.now) (g.S.Source.holds c.read_objects.new.source) c.in_ok-objects.ensures.kept c.args.asked.objects.now words objects
    c.in_ok-objects.ensures.read declared c.in_ok-declared.ensures.read clean made (map value_of c.in-Accepted.field-0.items) are v text
    (subst (λ (ds : List Declaration). CreatesDatabase clean made ds objects v text) c.deref-in-Accepted.ensures.value makes))
    (λ none. absurd none) c.make_at.ensures.comes

pub returns-clause-comes : goal.returns-clause-comes
returns-clause-comes g c =
    let words = map (λ p. p.now) c.args.asked.types.now in
    let objects = c.in_ok-objects.objects.items in
    let declared = c.in_ok-declared.declared.items in
    let found = subst (λ (ds : List Declaration). FindsAmong ds objects (Ok c.in_ok-found.found)) c.deref.ensures.value
    (subst (λ (os : List ObjectLine). FindsAmong c.deref.result.now os (Ok c.in_ok-found.found)) c.deref-2.ensures.value c.in_ok-found.ensures) in
    let first = subst (λ (t : ObjectTypes). FindsAmong declared objects (Ok t)) c.in-Refused.is found in
    comes _ _ _ _ c.put_answer.result _ _
    (refused (g.S.Source.holds c.args.source.now) (g.S.Source.holds c.read_objects.new.source) c.in_ok-objects.ensures.kept c.args.asked.objects.now words objects c.in_ok-objects.ensures.read
    declared c.in_ok-declared.ensures.read _ _ c.in-Refused.x c.in-Refused.refusal c.as_bytes.result.now first (c.as_bytes.ensures.value ∙ c.in_ok-line-in-Refused.ensures))
    (λ none. absurd none) c.put_answer.ensures.comes
