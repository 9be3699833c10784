use Rattle.std.proofs.Common.{◌∙◌, [], ◌∷◌, ◌++◌, ap}
use Rattle.script_text.specs.Kept.{command_said}
use Rattle.script_text.proofs.CommandsKept.{keeps_nameless, is_behind, named_behind}
use Rattle.script_text.proofs.command_list.CommandList.put_nameless.Goals as goal

pub invariant_of-self : goal.invariant_of-self
invariant_of-self c = rw c.push_reserved.ensures.items (named_behind (keeps_nameless c.self.inside.names c.args.kept c.requires) c.self.inside.kept.items c.self.invariant)

pub returns : goal.returns
returns c = rw c.push_reserved.ensures.items (is_behind (keeps_nameless c.self.inside.names c.args.kept c.requires) c.self.inside.kept.items c.self.invariant ∙ ap (λ before. before ++ command_said [] c.args.kept ∷ []) c.self.view_is)
