use Rattle.std.proofs.Common.{refl}
use Rattle.serial_order.specs.declared.command.Command.TheVariants.{Abort}
use Rattle.script_text.proofs.PlainCommands.{abort_plainly}
use Rattle.script_text.proofs.plain.keep_abort.Goals as goal

pub returns : goal.returns
returns c = record {
  keeps = λ objects. record {
    entry = Abort c.in_ok-t.t;
    says = λ size. abort_plainly size c.in_ok-t.t c.args.rest.now c.in_ok-t.behind.now c.in_ok-t.ensures;
    in_range = refl;
    kept = c.in_ok-put_nameless.ensures;
  };
}
