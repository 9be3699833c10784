use Rattle.std.proofs.Common.{◌∙◌, [], ◌∷◌, ◌++◌, ap}
use Rattle.serial_order.specs.declared.command.Command.TheVariants.{Call}
use Rattle.script_text.proofs.CommandsKept.{keeps_call, is_behind}
use Rattle.script_text.proofs.command_list.CommandList.put_call.Goals as goal

pub returns-in-Some : goal.returns-in-Some
returns-in-Some c =
    let keeps = keeps_call c.self.inside.names c.args.t c.args.x c.in-Some.name c.args.bytes.now c.in-Some.ensures.there in
    (c.in-Some.ensures.name, rw c.push_reserved.ensures.items (is_behind keeps c.self.inside.kept.items c.self.invariant ∙ ap (λ before. before ++ Call c.args.t c.args.x c.args.bytes.now ∷ []) c.self.view_is))
