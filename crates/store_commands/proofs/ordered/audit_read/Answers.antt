use Rattle.std.proofs.Common.{ap, inr, map}
use Rattle.declared_types.specs.Declarations.{table_of}
use Rattle.command_files.proofs.Comes.{comes}
use Rattle.store_commands.proofs.Exits.{exits_early}
use Rattle.store_commands.proofs.OrderedAudits.{ordered_amiss, ordered_says}
use Rattle.store_commands.proofs.ordered.audit_read.Goals as goal

pub returns-in_err-said : goal.returns-in_err-said
returns-in_err-said g c =
    exits_early _ _ _ _ _ c.from_residual-in_err-said.result c.in_err-said.field-0.0 _ c.from_residual-in_err-said.ensures.1
    (λ why. inr (ordered_amiss c.args.history.now c.args.order.now c.args.declared.now (map (λ t. table_of t.now) c.in_ok-types.types.items) (map (λ t. table_of t.now) c.deref-3.result.now) c.deref.result.now c.deref-2.result.now
    c.audit_in_order-outcome.result c.deref.ensures.value c.deref-2.ensures.value (ap (map (λ t. table_of t.now)) c.deref-3.ensures.value) c.in_ok-types.ensures.tables c.audit_in_order-outcome.ensures.audits why))
    c.in_err-said.ensures.amiss

pub returns : goal.returns
returns g c =
    comes _ _ _ _ c.put_audit.result _ _
    (ordered_says c.args.history.now c.args.order.now c.args.declared.now (map (λ t. table_of t.now) c.in_ok-types.types.items) (map (λ t. table_of t.now) c.deref-3.result.now) c.deref.result.now c.deref-2.result.now
    c.audit_in_order-outcome.result c.deref.ensures.value c.deref-2.ensures.value (ap (map (λ t. table_of t.now)) c.deref-3.ensures.value) c.in_ok-types.ensures.tables c.audit_in_order-outcome.ensures.audits
    c.in_ok-said.said c.in_ok-said.ensures.said)
    (λ none. absurd none) c.put_audit.ensures
