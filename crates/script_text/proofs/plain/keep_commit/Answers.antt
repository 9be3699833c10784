use Rattle.std.proofs.Common.{refl}
use Rattle.serial_order.specs.declared.command.Command.TheVariants.{Commit}
use Rattle.script_text.proofs.PlainCommands.{commit_plainly}
use Rattle.script_text.proofs.plain.keep_commit.Goals as goal

pub returns : goal.returns
returns c = record {
  keeps = λ objects. record {
    entry = Commit c.in_ok-t.t;
    says = λ size. commit_plainly size c.in_ok-t.t c.args.rest.now c.in_ok-t.behind.now c.in_ok-t.ensures;
    in_range = refl;
    kept = c.in_ok-put_nameless.ensures;
  };
}
