-- Three transactions, worked by hand.
use Rattle.std.specs.Prelude.{List, [], ◌∷◌, Option, None, Some}
use Rattle.open_transactions.specs.Transactions.{Row}

-- the first has operations at two places, the second ended, the third has none
abbrev pub three : List (Option Row)
three = Some (record { worker = 4; places = 7 ∷ 2 ∷ [] }) ∷ None ∷ Some (record { worker = 1; places = [] }) ∷ []
