use Rattle.std.proofs.lemmas.List.Elements.{All-replicate}
use Rattle.script_text.specs.Fronts.{FindsName}
use Rattle.script_text.proofs.names.Names.new.Goals as goal

pub invariant_of-result : goal.invariant_of-result
invariant_of-result c = All-replicate (FindsName c.new.result.items) 256 c.nowhere.result (c.nowhere.ensures c.new.result.items)
