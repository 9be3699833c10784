use Rattle.std.proofs.Common.{get_or, eqb, sym}
use Rattle.std.proofs.lemmas.Bool.{eqb-true}
use Rattle.std.proofs.lemmas.List.{take_rest}
use Rattle.std.proofs.lemmas.List.Quantifiers.{position-Some}
use Rattle.line_text.proofs.PlainLines.{front_at}
use Rattle.line_text.proofs.plain.bytes_before.Goals as goal

pub returns : goal.returns
returns c =
    let text = c.args.text.now in
    let end = c.in_ok-end.end in
    let found = position-Some (λ b. eqb b c.args.stop) text end 0 (sym c.in_ok-end.ensures.place) in
    rw take_rest (front_at text end c.args.stop c.in_ok-end.ensures.within (eqb-true (get_or text end 0) c.args.stop found.1))
