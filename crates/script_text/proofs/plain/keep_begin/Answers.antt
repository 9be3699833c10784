use Rattle.std.proofs.Common.{refl}
use Rattle.serial_order.specs.declared.command.Command.TheVariants.{Begin}
use Rattle.script_text.proofs.PlainCommands.{begin_plainly}
use Rattle.script_text.proofs.plain.keep_begin.Goals as goal

pub returns : goal.returns
returns c = record {
  keeps = λ objects. record {
    entry = Begin;
    says = λ size. begin_plainly size c.args.behind.now;
    in_range = refl;
    kept = c.in_ok-put_nameless.ensures;
  };
}
