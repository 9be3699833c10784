use Rattle.std.proofs.Common.{◌^◌, ◌<◌, ◌≤◌, length, arith}
use Rattle.std.specs.Fmt.{decimal}
use Rattle.std.proofs.lemmas.Fmt.{decimal_nonempty, length-decimal-le}
use Rattle.table_maker.proofs.NameBytes.{name_bytes-decimal}
use Rattle.table_maker.proofs.names.numbered.Goals as goal

pub named_of-requires-clause-what : goal.named_of-requires-clause-what
named_of-requires-clause-what c = rw (c.as_bytes.ensures.value, c.in_ok-digits.ensures.ok) (name_bytes-decimal c.args.number (omega arith))

pub named_of-requires-clause-some : goal.named_of-requires-clause-some
named_of-requires-clause-some c = rw (c.as_bytes.ensures.value, c.in_ok-digits.ensures.ok) (decimal_nonempty c.args.number (omega arith))

pub named_of-requires-clause-short : goal.named_of-requires-clause-short
named_of-requires-clause-short c =
    let number : c.args.number < 10 ^ 5 = omega arith in
    let digits : length (decimal c.args.number) ≤ 5 = length-decimal-le 5 c.args.number (omega arith) number (omega arith) in
    rw (c.as_bytes.ensures.value, c.in_ok-digits.ensures.ok) (omega arith)
