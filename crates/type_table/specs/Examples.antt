-- Small types, worked by hand.
use Rattle.std.specs.Prelude.{ℕ, Bool, true, false, List, [], ◌∷◌, Some, None, nat_lt, ◌==◌, codes}
use Rattle.type_table.specs.Table.{Table}
use Rattle.type_table.specs.declared.op.Op.{Op}

-- an operation that replies `ok`
abbrev pub ok_op : List ℕ → Op
ok_op call = record { call = call; reply = codes "ok" }

-- a counter of 0, 1 or 2, by which operation 0 counts up and operation 1 down
abbrev pub counter_table : Table
counter_table = record {
  name = codes "counter";
  states = 3;
  initial = 0;
  ops = ok_op (codes "inc:1") ∷ ok_op (codes "dec:1") ∷ [];
  steps = Some 1 ∷ None ∷ Some 2 ∷ Some 0 ∷ None ∷ Some 1 ∷ [];
}

-- all of three states
abbrev pub three_states : ℕ → Bool
three_states s = nat_lt s 3

-- rows of which each operation conflicts with itself: what the counter's operations need where they are to commute forward
abbrev pub forward_pairs : List (List Bool)
forward_pairs = (true ∷ false ∷ []) ∷ (false ∷ true ∷ []) ∷ []

-- rows of which each operation conflicts with the other: what they need where they are to commute backward
abbrev pub backward_pairs : List (List Bool)
backward_pairs = (false ∷ true ∷ []) ∷ (true ∷ false ∷ []) ∷ []

-- operations that commute at state 0, where they idle, and not at state 1
abbrev pub idle : Table
idle = record {
  name = codes "idle";
  states = 3;
  initial = 0;
  ops = ok_op (codes "p") ∷ ok_op (codes "q") ∷ [];
  steps = Some 0 ∷ Some 0 ∷ Some 2 ∷ Some 1 ∷ None ∷ None ∷ [];
}

-- state 0 alone
abbrev pub only_initial : ℕ → Bool
only_initial s = s == 0

-- where operation 0 and then 1 ends looks like where 1 and then 0 does, and not the other way round
abbrev pub one_way : Table
one_way = record {
  name = codes "oneway";
  states = 5;
  initial = 0;
  ops = ok_op (codes "p") ∷ ok_op (codes "q") ∷ ok_op (codes "r") ∷ [];
  steps = Some 2 ∷ Some 1 ∷ None ∷ Some 3 ∷ None ∷ None ∷ None ∷ Some 4 ∷ None ∷ None ∷ None ∷ None ∷ None ∷ None ∷ Some 4 ∷ [];
}

-- all of five states
abbrev pub five_states : ℕ → Bool
five_states s = nat_lt s 5
