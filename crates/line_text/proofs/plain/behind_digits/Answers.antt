use Rattle.std.proofs.Common.{sym, arith}
use Rattle.std.proofs.lemmas.List.{take_rest}
use Rattle.line_text.proofs.PlainLines.{IsNumberBefore-digits}
use Rattle.line_text.proofs.plain.behind_digits.Goals as goal

pub returns-then-not-has_leading_zero : goal.returns-then-not-has_leading_zero
returns-then-not-has_leading_zero c =
    let text = c.args.text.now in
    rw take_rest (IsNumberBefore-digits text c.args.count c.args.number c.args.stop c.requires.within (omega arith) c.requires.short c.requires.digits (sym c.if-not-has_leading_zero.ensures) c.if-text-count.true c.requires.value)
