use Rattle.std.proofs.Common.{sym, ap, subst, ◌∙◌}
use Rattle.table_checker.specs.Checked.{Checked}
use Rattle.declared_types.specs.Declarations.{IsByTable}
use Rattle.intentions_manager.proofs.manager.IntentionsManager.fresh.Goals as goal

pub file-requires : goal.file-requires
file-requires c = subst IsByTable (sym (ap (λ (x : Checked). x.kind) c.deref.ensures ∙ c.requires)) tt
