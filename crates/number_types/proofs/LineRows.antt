-- How many rows the lines of a number have.
use Rattle.std.proofs.Common.{◌*◌, ◌≤◌, List, [], ◌∷◌, length, arith}
use Rattle.std.specs.List.{flat_map}
use Rattle.std.proofs.lemmas.List.{length-append}
use Rattle.number_types.specs.declared.number_call.NumberCall.{NumberCall}
use Rattle.number_types.specs.declared.number_call.NumberCall.TheVariants.{Take, TakeAny, Give, GiveAny, AtLeast, Value}
use Rattle.number_types.specs.Operations.{rows_of_call}

few_rows_of_call : (c : NumberCall) → length (rows_of_call c) ≤ 2
few_rows_of_call (Take k) = omega arith
few_rows_of_call TakeAny = omega arith
few_rows_of_call (Give k) = omega arith
few_rows_of_call GiveAny = omega arith
few_rows_of_call (AtLeast k) = omega arith
few_rows_of_call Value = omega arith

pub few_rows : (cs : List NumberCall) → length (flat_map rows_of_call cs) ≤ 2 * length cs
few_rows [] = omega arith
few_rows (c ∷ cs) = omega (arith, few_rows_of_call c, few_rows cs, length-append (rows_of_call c) (flat_map rows_of_call cs))
