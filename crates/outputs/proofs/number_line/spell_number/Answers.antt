use Rattle.std.proofs.Common.{List, ℕ, ◌+◌, ◌∷◌, ◌++◌, take, sym, ap, ◌∙◌, arith}
use Rattle.std.proofs.lemmas.Fmt.{decimal_digit}
use Rattle.outputs.proofs.Numbers.{two_set}
use Rattle.outputs.proofs.number_line.spell_number.Goals as goal

pub returns-then-n-lt10-clause-number : goal.returns-then-n-lt10-clause-number
returns-then-n-lt10-clause-number c =
    two_set c.args.buffer.now c.args.start 32 (48 + c.args.n) (omega arith)
    ∙ ap (λ (l : List ℕ). take c.args.start c.args.buffer.now ++ 32 ∷ l) (sym (decimal_digit c.args.n c.if-n-lt10.true))
