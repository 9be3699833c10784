-- Small types of numbers, types that aren't numeric, and what transactions did, worked by hand.
use Rattle.std.specs.Prelude.{ℕ, ◌==◌, cond, List, [], ◌∷◌, Some, None, codes}
use Rattle.type_table.specs.Table.{Table}
use Rattle.type_table.specs.declared.op.Op.{Op}
use Rattle.type_table.specs.Examples.{ok_op}
use Rattle.escrow_laws.specs.Bounds.{steps_of}
use Rattle.escrow_laws.specs.Escrow.{Happening, Does, Commits, Strikes}
use Rattle.escrow_laws.specs.Marks.{mark_of}
use Rattle.escrow_laws.specs.declared.bounded.Bounded.{Bounded}
use Rattle.escrow_laws.specs.declared.mark.Mark.{Mark}
use Rattle.escrow_laws.specs.declared.mark.OpenMark.{OpenMark}

-- an operation that is legal from low to high, and then gives, or takes, an amount
abbrev pub giving : ℕ → ℕ → ℕ → Bounded
giving low high amount = record { low = low; high = high; gives = amount; takes = 0 }

abbrev pub taking : ℕ → ℕ → ℕ → Bounded
taking low high amount = record { low = low; high = high; gives = 0; takes = amount }

-- one that moves nothing
abbrev pub reading : ℕ → ℕ → Bounded
reading low high = record { low = low; high = high; gives = 0; takes = 0 }

-- an operation of a call with this reply
abbrev pub op_with : List ℕ → List ℕ → Op
op_with call reply = record { call = call; reply = reply }

-- ---- a counter from 0 to 5

-- operation 0 gives 1, operation 1 takes 2, and operation 2 says that there aren't 2
abbrev pub five_table : Table
five_table = record {
  name = codes "five";
  states = 6;
  initial = 3;
  ops = ok_op (codes "give:1") ∷ ok_op (codes "take:2") ∷ op_with (codes "take:2") (codes "short") ∷ [];
  steps =
      Some 1 ∷ None ∷ Some 0
      ∷ Some 2 ∷ None ∷ Some 1
      ∷ Some 3 ∷ Some 0 ∷ None
      ∷ Some 4 ∷ Some 1 ∷ None
      ∷ Some 5 ∷ Some 2 ∷ None
      ∷ None ∷ Some 3 ∷ None
      ∷ [];
}

abbrev pub five_ops : List Bounded
five_ops = giving 0 4 1 ∷ taking 2 5 2 ∷ reading 0 1 ∷ []

-- what transactions 0 and 1 did, where no other did anything
abbrev pub two_did : List ℕ → List ℕ → ℕ → List ℕ
two_did first second u = cond (u == 0) first (cond (u == 1) second [])

-- 0 takes 2, and 1 gives 1 and commits; then 0 gives 1, takes 2 again and takes that back, and commits
abbrev pub one_course : List Happening
one_course = Does 0 1 ∷ Does 1 0 ∷ Commits 1 ∷ Does 0 0 ∷ Does 0 1 ∷ Strikes 0 2 ∷ Commits 0 ∷ []

-- the marks of both, where each took 2
abbrev pub two_marks : List OpenMark
two_marks = (record { by = 0; mark = mark_of 5 five_ops (1 ∷ []) }) ∷ (record { by = 1; mark = mark_of 5 five_ops (1 ∷ []) }) ∷ []

-- ---- a stock of 0 to 1,000

-- operation 0 takes 1, operation 1 gives 9
abbrev pub stock_ops : List Bounded
stock_ops = taking 1 1000 1 ∷ giving 0 991 9 ∷ []

abbrev pub stock_table : Table
stock_table = record {
  name = codes "stock";
  states = 1001;
  initial = 500;
  ops = ok_op (codes "take:1") ∷ ok_op (codes "give:9") ∷ [];
  steps = steps_of 1000 stock_ops;
}

-- the mark of who took 1, and of who gave 9
abbrev pub one_taken : Mark
one_taken = mark_of 1000 stock_ops (0 ∷ [])

abbrev pub nine_given : Mark
nine_given = mark_of 1000 stock_ops (1 ∷ [])

-- ---- of the families

-- an account of 0, 1 or 2
abbrev pub account_of_two : Table
account_of_two = record {
  name = codes "account";
  states = 3;
  initial = 0;
  ops =
      ok_op (codes "deposit:1") ∷ op_with (codes "deposit:1") (codes "full")
      ∷ ok_op (codes "withdraw:1") ∷ op_with (codes "withdraw:1") (codes "short")
      ∷ op_with (codes "balance") (codes "0") ∷ op_with (codes "balance") (codes "1") ∷ op_with (codes "balance") (codes "2")
      ∷ [];
  steps =
      Some 1 ∷ None ∷ None ∷ Some 0 ∷ Some 0 ∷ None ∷ None
      ∷ Some 2 ∷ None ∷ Some 0 ∷ None ∷ None ∷ Some 1 ∷ None
      ∷ None ∷ Some 2 ∷ Some 1 ∷ None ∷ None ∷ None ∷ Some 2
      ∷ [];
}

abbrev pub account_ops : List Bounded
account_ops = giving 0 1 1 ∷ reading 2 2 ∷ taking 1 2 1 ∷ reading 0 0 ∷ reading 0 0 ∷ reading 1 1 ∷ reading 2 2 ∷ []

-- a semiqueue of at most two items of one element: the state is how many are held
abbrev pub one_element : Table
one_element = record {
  name = codes "semiqueue";
  states = 3;
  initial = 0;
  ops = ok_op (codes "enq:a") ∷ op_with (codes "deq") (codes "a") ∷ [];
  steps = Some 1 ∷ None ∷ Some 2 ∷ Some 0 ∷ None ∷ Some 1 ∷ [];
}

abbrev pub one_element_ops : List Bounded
one_element_ops = giving 0 1 1 ∷ taking 1 2 1 ∷ []

-- a semiqueue of at most two items of two elements: nothing, b, two of b, a, both, two of a
abbrev pub two_elements : Table
two_elements = record {
  name = codes "semiqueue";
  states = 6;
  initial = 0;
  ops = ok_op (codes "enq:a") ∷ ok_op (codes "enq:b") ∷ op_with (codes "deq") (codes "a") ∷ op_with (codes "deq") (codes "b") ∷ [];
  steps =
      Some 3 ∷ Some 1 ∷ None ∷ None
      ∷ Some 4 ∷ Some 2 ∷ None ∷ Some 0
      ∷ None ∷ None ∷ None ∷ Some 1
      ∷ Some 5 ∷ Some 4 ∷ Some 0 ∷ None
      ∷ None ∷ None ∷ Some 1 ∷ Some 3
      ∷ None ∷ None ∷ Some 3 ∷ None
      ∷ [];
}

-- a set of one element: it is out, or in
abbrev pub set_of_one : Table
set_of_one = record {
  name = codes "set";
  states = 2;
  initial = 0;
  ops =
      ok_op (codes "insert:a") ∷ ok_op (codes "delete:a")
      ∷ op_with (codes "member:a") (codes "true") ∷ op_with (codes "member:a") (codes "false")
      ∷ [];
  steps =
      Some 1 ∷ Some 0 ∷ None ∷ Some 0
      ∷ Some 1 ∷ Some 0 ∷ Some 1 ∷ None
      ∷ [];
}

-- an operation that is legal nowhere, and one that is legal in state 1 alone
abbrev pub rarely : Table
rarely = record {
  name = codes "rarely";
  states = 2;
  initial = 0;
  ops = ok_op (codes "never") ∷ ok_op (codes "once") ∷ [];
  steps = None ∷ None ∷ None ∷ Some 0 ∷ [];
}

abbrev pub rarely_ops : List Bounded
rarely_ops = reading 1 0 ∷ taking 1 1 1 ∷ []
