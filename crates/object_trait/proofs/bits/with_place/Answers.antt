use Rattle.std.proofs.Common.{◌<◌, w64, ◌∙◌, inl, inr, arith}
use Rattle.std.proofs.lemmas.Bool.{cases_eq}
use Rattle.std.proofs.lemmas.Nat.Bits.{bit_at_set_same, bit_at_set_other}
use Rattle.object_trait.proofs.bits.with_place.Goals as goal

pub returns-then-place-ge64-clause-added : goal.returns-then-place-ge64-clause-added
returns-then-place-ge64-clause-added c = λ low. absurd (omega (arith, low))

pub returns-clause-added : goal.returns-clause-added
returns-clause-added c = λ low. bit_at_set_same w64 c.args.word c.args.place low

pub returns-clause-kept : goal.returns-clause-kept
returns-clause-kept c = λ q set.
    let low : c.args.place < 64 = omega arith in
    elim (cases_eq q c.args.place) [
      | inl same ↦ rw same (bit_at_set_same w64 c.args.word c.args.place low)
      | inr other ↦ bit_at_set_other w64 c.args.word c.args.place low q other ∙ set
    ]
