-- Types worked by hand.
use Rattle.std.specs.Prelude.{[], ◌∷◌, Some, None, codes}
use Rattle.type_table.specs.Table.{Table}

-- a semiqueue of at most two items of two elements: a state for each number of items of a and of b, in lexicographic order
abbrev pub two_items : Table
two_items = record {
  name = codes "semiqueue";
  states = 6;
  initial = 0;
  ops = record { call = codes "enq:a"; reply = codes "ok" } ∷ record { call = codes "enq:b"; reply = codes "ok" } ∷ record { call = codes "deq"; reply = codes "a" } ∷ record { call = codes "deq"; reply = codes "b" } ∷ [];
  steps = Some 3 ∷ Some 1 ∷ None ∷ None
      ∷ Some 4 ∷ Some 2 ∷ None ∷ Some 0
      ∷ None ∷ None ∷ None ∷ Some 1
      ∷ Some 5 ∷ Some 4 ∷ Some 0 ∷ None
      ∷ None ∷ None ∷ Some 1 ∷ Some 3
      ∷ None ∷ None ∷ Some 3 ∷ None ∷ [];
}
