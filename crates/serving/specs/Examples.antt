-- Names, worked by hand.
use Rattle.std.specs.Prelude.{[], ◌∷◌}
use Rattle.serving.specs.Names.{KnownNames, named}

-- in life 4 the transactions that life 3 began as 2 and 5 have the numbers 0 and 1
abbrev pub two_carried : KnownNames
two_carried = record { life = 4; carried = record { name = named 3 2; number = 0 } ∷ record { name = named 3 5; number = 1 } ∷ []; begun_with = 2 }
