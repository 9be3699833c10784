use Rattle.std.proofs.Common.{◌<◌, ◌≤◌, refl, arith, inr}
use Rattle.number_types.specs.Examples.{credit}
use Rattle.number_types.specs.Number.{IsNumber}
use Rattle.declared_types.specs.declared.declared_type.Declaration.TheVariants.{Number as Numbers}
use Rattle.type_commands.proofs.worked.the_credit_is_for_escrow.Goals as goal

-- what is known of each number is so of the credit
is_number : IsNumber credit
is_number =
    let some : 1 ≤ 4294967295 = omega arith in
    let most : 4294967295 ≤ 4294967295 = omega arith in
    let initial : 0 ≤ 4294967295 = omega arith in
    let any : 0 < 4 = omega arith in
    let few : 4 ≤ 32 = omega arith in
    record { some_max = some; max_fits = most; initial_inside = initial; amounts = refl; ascending = refl; some_call = any; calls_fit = few }

pub returns-clause-escrow : goal.returns-clause-escrow
returns-clause-escrow c = (Numbers credit, c.a_text_declares_the_credit.ensures.declared, refl, c.numbers_are_strong.ensures.strong credit is_number)

pub returns-clause-amiss : goal.returns-clause-amiss
returns-clause-amiss c = inr (Numbers credit, c.a_text_declares_the_credit.ensures.declared, λ same. let clash = same in cc)
