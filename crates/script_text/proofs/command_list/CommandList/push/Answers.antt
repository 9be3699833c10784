use Rattle.std.proofs.Common.{◌∙◌, [], ◌∷◌, ◌++◌, ap}
use Rattle.script_text.proofs.CommandsKept.{as_before, is_behind, named_behind}
use Rattle.script_text.proofs.command_list.CommandList.push.Goals as goal

pub returns-in_default : goal.returns-in_default
returns-in_default c = rw c.in_default.ensures.items (as_before c.in_ok-kept.ensures c.self.inside.kept.items c.self.invariant ∙ c.self.view_is)

pub invariant_of-self-2 : goal.invariant_of-self-2
invariant_of-self-2 c = rw c.in-Ok.ensures.items (named_behind c.in_ok-kept.ensures c.self.inside.kept.items c.self.invariant)

pub returns : goal.returns
returns c = rw c.in-Ok.ensures.items (is_behind c.in_ok-kept.ensures c.self.inside.kept.items c.self.invariant ∙ ap (λ before. before ++ c.args.command ∷ []) c.self.view_is)
