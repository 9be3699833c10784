use Rattle.std.proofs.Common.{◌≡◌, ◌↔◌, true, sym, ap, subst, ◌∙◌}
use Rattle.declared_types.specs.declared.type_file.TypeFile.{TypeFile}
use Rattle.table_checker.specs.Checked.{Checked}
use Rattle.table_checker.specs.Condition.{PassesEverywhere}
use Rattle.table_checker.specs.declared.condition.Condition.TheVariants.{BackwardBothWays}
use Rattle.table_checker.proofs.Failures.{strong-undo}
use Rattle.table_checker.proofs.checked_type.CheckedType.is_strong.Goals as goal

pub returns-in-Undo : goal.returns-in-Undo
returns-in-Undo c =
    strong-undo c.args.self.now c.passes_everywhere.result (ap (λ (k : Checked). k.kind) (sym c.self.view_is) ∙ c.in-Undo.is)
    (subst (λ (f : TypeFile). (c.passes_everywhere.result ≡ true) ↔ PassesEverywhere BackwardBothWays f f.undo) c.file-file.ensures.exact c.passes_everywhere.ensures)
