use Rattle.std.proofs.Common.{◌≡◌, ℕ, ◌+◌, List, ◌++◌, length, take, drop, sym, ap, ◌∙◌, subst, arith}
use Rattle.std.specs.Fmt.{decimal}
use Rattle.outputs.proofs.Numbers.{spelled}
use Rattle.outputs.proofs.number_line.spell_digits.Goals as goal

pub write_digits-requires : goal.write_digits-requires
write_digits-requires c =
    let same : length (decimal c.from.result) ≡ c.digit_count.result = ap (λ (i : ℕ). length (decimal i)) c.from.ensures ∙ sym c.digit_count.ensures.exact in
    (omega arith, omega arith)

pub returns-clause-digits : goal.returns-clause-digits
returns-clause-digits c =
    let start = c.args.start in
    let end = c.args.start + c.digit_count.result in
    let old = c.args.buffer.now in
    let new = c.write_digits.new.buf in
    let text = ap decimal c.from.ensures in
    let same : length (decimal c.from.result) ≡ c.digit_count.result = ap (λ (i : ℕ). length (decimal i)) c.from.ensures ∙ sym c.digit_count.ensures.exact in
    let place : c.write_digits.result ≡ start = omega (arith, c.write_digits.ensures.start) in
    let before : take start new ≡ take start old = subst (λ (i : ℕ). take i new ≡ take i old) place c.write_digits.ensures.before in
    let behind : drop start new ≡ decimal c.args.n ++ drop end old =
    subst (λ (i : ℕ). drop i new ≡ decimal c.args.n ++ drop end old) place (c.write_digits.ensures.written ∙ ap (λ (l : List ℕ). l ++ drop end old) text) in
    spelled old new (decimal c.args.n) (drop end old) start end before behind (ap (λ (i : ℕ). start + i) (sym c.digit_count.ensures.exact))
