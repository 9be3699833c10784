use Rattle.std.proofs.Common.{◌≡◌, ap, arith, sym, ◌∙◌}
use Rattle.event_text.specs.EventText.{event_word, numerals_line}
use Rattle.event_text.proofs.Numerals.{put-line, same-line}
use Rattle.event_text.proofs.write.push_line.Goals as goal

pub returns-clause-line : goal.returns-clause-line
returns-clause-line c =
    let word : c.as_bytes.result.now ≡ event_word c.args.word = c.as_bytes.ensures.value ∙ c.text.ensures in
    put-line c.extend_from_slice.result c.args.text.now.items c.extend_from_slice.new.self.items _ _ c.extend_from_slice.ensures.items
    (c.spell_line-end.ensures.line
    ∙ same-line c.as_bytes.result.now c.args.numbers.now (λ i. omega (arith, c.type_inv.numbers i))
    ∙ ap (λ w. numerals_line w c.args.numbers.now) word)
