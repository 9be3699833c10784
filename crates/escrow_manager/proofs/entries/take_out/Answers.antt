use Rattle.std.proofs.Common.{◌≡◌, false, not, eqb, rules, ◌∙◌}
use Rattle.std.proofs.lemmas.Fn.{filter_same}
use Rattle.std.proofs.lemmas.List.Elements.{recursion_from_All}
use Rattle.object_trait.specs.declared.log_entry.LogEntry.{LogEntry}
use Rattle.escrow_manager.proofs.Passing.{others-by}
use Rattle.escrow_manager.proofs.entries.take_out.Goals as goal

pub returns : goal.returns
returns c =
    let log = c.args.log.now.items in
    filter_same _ (λ (e : LogEntry). not (eqb e.by c.args.t)) _ (λ x b f' k. search rules) log c.retain.new.self.items c.retain.ensures.filtered
    ∙ others-by c.args.t log (recursion_from_All (λ (e : LogEntry). e.done ≡ false) log c.requires)
