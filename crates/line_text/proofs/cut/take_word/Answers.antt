use Rattle.std.proofs.Common.{◌&&◌, not, leb, get_or, sym, arith}
use Rattle.std.proofs.lemmas.Bool.{leb-true, and_parts, not-false}
use Rattle.std.proofs.lemmas.List.Quantifiers.{position-Some}
use Rattle.line_text.proofs.Cutting.{front_in_word}
use Rattle.line_text.proofs.cut.take_word.Goals as goal

pub returns-clause-word : goal.returns-clause-word
returns-clause-word c =
    let text = c.args.text.now in
    let end = c.in_ok-end.end in
    let found = position-Some (λ b. not (leb 33 b && leb b 126)) text end 0 (sym c.in_ok-end.ensures.place) in
    front_in_word text end (omega (arith, found.0)) (λ k below.
    let p = and_parts (leb 33 (get_or text k 0)) (leb (get_or text k 0) 126) (not-false (leb 33 (get_or text k 0) && leb (get_or text k 0) 126) (found.2 k below)) in
    (leb-true 33 (get_or text k 0) p.0, leb-true (get_or text k 0) 126 p.1))
