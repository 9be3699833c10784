use Rattle.std.proofs.Common.{◌≤◌, length, take, ap, ◌∙◌, arith}
use Rattle.std.specs.Int.{w64, from_le_bytes}
use Rattle.script_text.proofs.FrontWords.{BeginsWithWords-read}
use Rattle.script_text.proofs.fronts.words_of.Goals as goal

pub returns : goal.returns
returns c =
    let text = c.args.text.now in
    let front = c.in_ok-first.ensures.cases in
    let next = c.in_ok-last.ensures.cases in
    let long : 16 ≤ length text = omega (arith, front.2, next.enough) in
    BeginsWithWords-read text (record { first = c.from_le_bytes.result; last = c.from_le_bytes-2.result }) long (λ i. (c.type_inv.text i).fits)
    (c.from_le_bytes.ensures ∙ ap (from_le_bytes w64) front.0)
    (c.from_le_bytes-2.ensures ∙ ap (from_le_bytes w64) (next.same ∙ ap (take 8) front.1))
