use Rattle.std.proofs.Common.{◌≡◌, false, eqb, length, rules, tests, ap, ◌∙◌}
use Rattle.std.proofs.lemmas.Iterator.{YieldsList-from_slice}
use Rattle.std.proofs.lemmas.Iterator.Consumers.{count_from_yields_List, YieldsList-from_filter}
use Rattle.std.proofs.lemmas.List.Elements.{recursion_from_All}
use Rattle.object_trait.specs.declared.log_entry.LogEntry.{LogEntry}
use Rattle.escrow_manager.proofs.Passing.{open-by}
use Rattle.escrow_manager.proofs.entries.count_of.Goals as goal

pub returns : goal.returns
returns c =
    let log = c.args.log.now.items in
    count_from_yields_List c.filter.result c.count.result c.count.ensures.ran
    (YieldsList-from_filter _ (λ (e : LogEntry). eqb e.by c.args.t) (YieldsList-from_slice log (cc)) c.filter.ensures.closure (λ x r q k. search (rules, tests)))
    ∙ ap length (open-by c.args.t log (recursion_from_All (λ (e : LogEntry). e.done ≡ false) log c.requires))
