use Rattle.std.proofs.Common.{inl, inr, subst, ◌⊎◌, List}
use Rattle.declared_types.specs.declared.declared_type.Declaration.{Declaration}
use Rattle.command_files.proofs.Comes.{comes}
use Rattle.object_types.specs.Types.{IsUnplaced}
use Rattle.store_commands.specs.Ordered.{AuditsOrderedRead, IsOrderAmiss}
use Rattle.store_commands.proofs.Exits.{exits_early}
use Rattle.store_commands.proofs.Kept.{faulty_kept}
use Rattle.store_commands.proofs.OrderedAudits.{one_read}
use Rattle.store_commands.proofs.ordered.audit_ordered.Goals as goal

pub returns-in_err-declared : goal.returns-in_err-declared
returns-in_err-declared g c =
    let holds = g.S.Source.holds c.args.source.now in
    exits_early _ _ _ _ _ c.from_residual-in_err-declared.result c.in_err-declared.field-0.0 _ c.from_residual-in_err-declared.ensures.1
    (λ faulty. inr (inl (faulty_kept holds _ c.in_ok-file.ensures.kept _ faulty))) c.in_err-declared.ensures.refused

pub returns : goal.returns
returns g c =
    let holds = g.S.Source.holds c.args.source.now in
    let file = c.in_ok-file.file in
    let declared = c.in_ok-declared.declared.items in
    let read = one_read holds _ c.in_ok-file.ensures.kept c.args.history.now _ file declared c.in_ok-file.ensures.reads c.in_ok-declared.ensures.read in
    comes _ _ _ _ c.audit_read.result _ _
    (λ v text says. (file, declared, read, subst (λ (ds : List Declaration). AuditsOrderedRead file c.args.order.now ds v text) c.deref.ensures.value says))
    (λ amiss. inr (inr (file, declared, read, subst (λ (ds : List Declaration). IsUnplaced ds file.objects.items ⊎ IsOrderAmiss file c.args.order.now ds) c.deref.ensures.value amiss)))
    c.audit_read.ensures
