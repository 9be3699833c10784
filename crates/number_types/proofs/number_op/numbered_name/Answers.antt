use Rattle.std.proofs.Common.{arith}
use Rattle.decimals.proofs.Decimals.{read_long}
use Rattle.number_types.proofs.NumberedNames.{numbered_name}
use Rattle.number_types.proofs.number_op.numbered_name.Goals as goal

pub joined-requires-clause-name : goal.joined-requires-clause-name
joined-requires-clause-name c = rw (c.as_bytes.ensures.value, c.format.ensures.text) (numbered_name c.args.word.now c.args.number c.requires.word c.requires.short (omega (arith, c.ranges.number.fits)))

pub joined-requires-clause-short : goal.joined-requires-clause-short
joined-requires-clause-short c =
    let digits = (read_long c.args.number (omega (arith, c.ranges.number.fits))).short in
    let word = c.requires.short in
    rw (c.as_bytes.ensures.value, c.format.ensures.text) (omega (arith, digits, word))
