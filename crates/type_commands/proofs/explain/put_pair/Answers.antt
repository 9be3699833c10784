use Rattle.std.proofs.Common.{sym, refl, subst}
use Rattle.pair_needs.specs.Leads.{IsLedSet}
use Rattle.type_commands.proofs.explain.put_pair.Goals as goal

pub returns : goal.returns
returns g c =
    let led : IsLedSet c.args.file.now.table c.led-led.result = subst (IsLedSet c.args.file.now.table) (sym c.led-led.ensures) c.requires.known.led in
    (_, (c.led-led.result, c.in_ok-pair.pair, led, c.in_ok-pair.ensures, refl), c.in_ok-write_pair.ensures.whole)
