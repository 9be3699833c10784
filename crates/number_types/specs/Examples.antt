-- Numbers for worked examples.
use Rattle.std.specs.Prelude.{◌∷◌, [], codes}
use Rattle.number_types.specs.declared.number_call.NumberCall.TheVariants.{Take, TakeAny, Give, GiveAny, AtLeast, Value}
use Rattle.number_types.specs.Number.{Number}

-- a credit in cents, with each kind of call whose amount is listed
abbrev pub credit : Number
credit = record {
  name = codes "credit";
  max = 4294967295;
  initial = 0;
  calls = Take 5 ∷ Take 4294967295 ∷ Give 5 ∷ AtLeast 1000000000 ∷ [];
}

-- a stock of 0 to 5, all of whose amounts are listed
abbrev pub five : Number
five = record {
  name = codes "five";
  max = 5;
  initial = 3;
  calls = Take 2 ∷ Give 1 ∷ AtLeast 5 ∷ [];
}

-- a purse of 0 to 9, of which any amount may be taken and given, 3 by a line of its own
abbrev pub purse : Number
purse = record {
  name = codes "purse";
  max = 9;
  initial = 0;
  calls = Take 3 ∷ TakeAny ∷ GiveAny ∷ Value ∷ [];
}
