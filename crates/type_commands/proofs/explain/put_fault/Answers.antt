use Rattle.std.proofs.Common.{refl}
use Rattle.type_commands.proofs.explain.put_fault.Goals as goal

pub returns : goal.returns
returns g c = (_, (c.args.k, c.args.s, c.why_not-why.result, c.requires.first, c.why_not-why.ensures, refl), c.in_ok-write_why_not.ensures.whole)
