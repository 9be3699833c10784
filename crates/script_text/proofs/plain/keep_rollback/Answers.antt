use Rattle.std.proofs.Common.{refl}
use Rattle.serial_order.specs.declared.command.Command.TheVariants.{Rollback}
use Rattle.script_text.proofs.PlainCommands.{rollback_plainly}
use Rattle.script_text.proofs.plain.keep_rollback.Goals as goal

pub returns : goal.returns
returns c = record {
  keeps = λ objects. record {
    entry = Rollback c.in_ok-t.t c.in_ok-n.n;
    says = λ size. rollback_plainly size c.in_ok-t.t c.in_ok-n.n c.args.rest.now c.in_ok-t.rest.now c.in_ok-n.behind.now c.in_ok-t.ensures c.in_ok-n.ensures;
    in_range = refl;
    kept = c.in_ok-put_nameless.ensures;
  };
}
