use Rattle.std.proofs.Common.{sym, refl, subst}
use Rattle.pair_needs.specs.Leads.{IsLedSet}
use Rattle.type_commands.proofs.explain.put_rows.Goals as goal

pub returns : goal.returns
returns g c =
    let led : IsLedSet c.args.file.now.table c.led-led.result = subst (IsLedSet c.args.file.now.table) (sym c.led-led.ensures) c.requires.known.led in
    (_, (c.led-led.result, c.in_ok-rows.rows.items, led, c.in_ok-rows.ensures, refl), rw c.deref.ensures.value at c.in_ok-write_rows.ensures.whole)
