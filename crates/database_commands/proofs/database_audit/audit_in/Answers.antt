use Rattle.std.proofs.Common.{subst}
use Rattle.sqlite_trees.specs.View.{IsClean}
use Rattle.journal.specs.Journal.{Clean, durable}
use Rattle.database_commands.proofs.Told.{told_beside}
use Rattle.database_commands.proofs.database_audit.audit_in.Goals as goal

pub returns-in-Ok-clause-told : goal.returns-in-Ok-clause-told
returns-in-Ok-clause-told g c =
    let closes : IsClean (g.S.Store.view c.into_store.result) → Clean g.S.Store c.in-Ok.journal = subst (λ (s : g.row.S.Denot). IsClean (g.S.Store.view s)) c.into_store.ensures in
    told_beside c.audit_of.result _ _ (durable g.S.Store c.in-Ok.journal) c.in-Ok.said (λ audited. audited.verdict) (λ audited. audited.text.items) (λ now. c.in-Ok.ensures.said (closes now)) (λ now. c.in-Ok.ensures.same (closes now)) c.audit_of.ensures.told
