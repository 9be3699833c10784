use Rattle.std.proofs.Common.{◌∙◌, [], ◌∷◌, ◌++◌, ap}
use Rattle.script_text.proofs.CommandsKept.{is_behind, named_behind}
use Rattle.script_text.proofs.command_list.CommandList.put.Goals as goal

pub invariant_of-self-2 : goal.invariant_of-self-2
invariant_of-self-2 c = rw c.push_reserved.ensures.items (named_behind c.in-Ok.ensures c.self.inside.kept.items c.self.invariant)

pub returns : goal.returns
returns c = rw c.push_reserved.ensures.items (is_behind c.in-Ok.ensures c.self.inside.kept.items c.self.invariant ∙ ap (λ before. before ++ c.args.command ∷ []) c.self.view_is)
