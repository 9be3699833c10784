-- Two transactions at the counter from 0 to 5: 1 took 2, and 3 gave 1 and then took 2. A number that lists amounts. And one up to 100, at 10.
use Rattle.std.specs.Prelude.{ℕ, List, [], ◌∷◌, codes}
use Rattle.escrow_laws.specs.Marks.{mark_of}
use Rattle.escrow_laws.specs.Examples.{five_ops}
use Rattle.escrow_laws.specs.declared.bounded.Bounded.{Bounded}
use Rattle.escrow_laws.specs.declared.mark.Mark.{Mark}
use Rattle.escrow_laws.specs.declared.mark.OpenMark.{OpenMark}
use Rattle.number_types.specs.declared.number_call.NumberCall.TheVariants.{Take, TakeAny, GiveAny}
use Rattle.number_types.specs.Number.{Number}
use Rattle.number_types.specs.Operations.{taking, giving}

-- the mark of t, who did this
abbrev pub mark_by : ℕ → List ℕ → OpenMark
mark_by t ks = record { by = t; mark = mark_of 5 five_ops ks }

abbrev pub taker : OpenMark
taker = mark_by 1 (1 ∷ [])

abbrev pub giver : OpenMark
giver = mark_by 3 (0 ∷ 1 ∷ [])

abbrev pub both_marks : List OpenMark
both_marks = taker ∷ giver ∷ []

-- numbers from 0 to 5 that list takes of 3 and of 4, and have calls of any amount
abbrev pub listing_both : Number
listing_both = record { name = codes "both"; max = 5; initial = 0; calls = Take 3 ∷ Take 4 ∷ TakeAny ∷ GiveAny ∷ [] }

-- numbers from 0 to 100 with a give of 80, and takes of 85, 1 and 9
abbrev pub hundred_ops : List Bounded
hundred_ops = giving 0 20 80 ∷ taking 85 100 85 ∷ taking 1 100 1 ∷ taking 9 100 9 ∷ []

-- who gave 80 and asks for 85
abbrev pub asker : Mark
asker = mark_of 100 hundred_ops (0 ∷ 1 ∷ [])

-- who took 1, and who took 9
abbrev pub took_one : Mark
took_one = mark_of 100 hundred_ops (2 ∷ [])

abbrev pub took_nine : Mark
took_nine = mark_of 100 hundred_ops (3 ∷ [])
