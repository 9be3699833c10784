use Rattle.std.proofs.Common.{sym, ap, ◌∙◌}
use Rattle.object_trait.specs.Meaning.{Meaning}
use Rattle.undo_manager.proofs.recovery.UndoManagerRenew.renewed.Goals as goal

pub fresh-requires : goal.fresh-requires
fresh-requires c = c.requires ∙ ap (λ (m : Meaning). m.checked.kind) (sym c.self.view_is) ∙ c.self.invariant.0.in_place
