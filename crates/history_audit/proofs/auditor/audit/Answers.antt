use Rattle.std.proofs.Common.{map}
use Rattle.std.proofs.lemmas.List.{take_all}
use Rattle.history_audit.proofs.Audited.{outcome-audited, outcome-ready}
use Rattle.declared_types.specs.Declarations.{table_of}
use Rattle.history_audit.proofs.auditor.audit.Goals as goal

pub returns-clause-audits : goal.returns-clause-audits
returns-clause-audits c =
    let all = take_all c.loop-at.at c.args.events.now c.loop-at-test.false in
    outcome-audited (map (λ t. table_of t.now) c.args.types.now) c.args.events.now c.loop-at.auditor c.outcome.result (rw all at c.loop-at.invariant) c.outcome.ensures

pub returns-clause-states : goal.returns-clause-states
returns-clause-states c =
    outcome-ready (map (λ t. table_of t.now) c.args.types.now) c.loop-at.auditor.serial c.outcome.result c.loop-at.invariant.serial.ready c.outcome.ensures
