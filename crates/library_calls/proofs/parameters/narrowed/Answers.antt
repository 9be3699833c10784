use Rattle.std.proofs.Common.{◌≡◌, true, false, refl, sym, ◌∙◌, inr, arith}
use Rattle.library_calls.proofs.parameters.narrowed.Goals as goal

pub returns-then-cap-ge65536-clause-refused : goal.returns-then-cap-ge65536-clause-refused
returns-then-cap-ge65536-clause-refused c = inr (refl, λ good. let most = good.cap_fits in absurd (omega arith))

pub returns-then-not-are_small-clause-refused : goal.returns-then-not-are_small-clause-refused
returns-then-not-are_small-clause-refused c = inr (
  refl,
  λ good.
      let small : c.are_small.result ≡ true = c.are_small.ensures.1 (λ k inside. let here = (good.each k inside).1 in let most = good.cap_fits in omega (arith, here, most)) in
      let clash : true ≡ false = sym small ∙ c.if-not-are_small.true in cc,
)
