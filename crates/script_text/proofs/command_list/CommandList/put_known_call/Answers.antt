use Rattle.std.proofs.Common.{◌∙◌, [], ◌∷◌, ◌++◌, ap}
use Rattle.serial_order.specs.declared.command.Command.TheVariants.{Call}
use Rattle.script_text.proofs.CommandsKept.{keeps_call, is_behind}
use Rattle.script_text.proofs.command_list.CommandList.put_known_call.Goals as goal

pub returns : goal.returns
returns c =
    let its = c.in_ok-name.ensures in
    let keeps = keeps_call c.self.inside.names c.args.t c.args.x c.in_ok-name.name its.word its.there in
    record {
      word = its.word;
      is_name = its.is_name;
      front = its.front;
      kept = rw c.push_reserved.ensures.items (is_behind keeps c.self.inside.kept.items c.self.invariant ∙ ap (λ before. before ++ Call c.args.t c.args.x its.word ∷ []) c.self.view_is);
    }
