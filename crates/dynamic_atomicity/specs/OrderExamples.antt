-- Orders of transactions, of small histories, worked by hand.
use Rattle.std.specs.Prelude.{ℕ, true, false, List, [], ◌∷◌, Some, None, nat_lt, codes, refl, unwrap_or}
use Rattle.std.proofs.Common.{ap, sym}
use Rattle.type_table.specs.Table.{Table}
use Rattle.type_table.specs.ConflictTable.{conflicts}
use Rattle.type_table.specs.Examples.{ok_op}
use Rattle.type_table.specs.declared.kind.Kind.TheVariants.{Undo, Intentions}
use Rattle.table_checker.specs.Checked.{Checked}
use Rattle.table_checker.specs.Examples.{counter_file, no_pairs}
use Rattle.object_trait.specs.Object.{Object}
use Rattle.object_trait.specs.declared.event.Event.{Event}
use Rattle.object_trait.specs.declared.event.EventKind.{EventKind}
use Rattle.object_trait.specs.declared.event.EventKind.TheVariants.{Begin, Op, Commit, Rollback}
use Rattle.serial_order.specs.Examples.{events, no_amounts, small_account}
use Rattle.dynamic_atomicity.specs.Dynamic.{Dated}
use Rattle.dynamic_atomicity.specs.Joined.{At, Names}
use Rattle.serial_order.specs.declared.entry.Entry.{Entry}

-- an operation, and those that had committed when it was executed
abbrev pub with_date : Entry → List ℕ → Dated
with_date e C = record { entry = e; after = C }

-- ---- objects

-- p and q are legal together in either order, and their ends part: r is legal after p and then q alone
abbrev pub parting : Table
parting = record {
  name = codes "parting";
  states = 5;
  initial = 0;
  ops = ok_op (codes "p") ∷ ok_op (codes "q") ∷ ok_op (codes "r") ∷ [];
  steps = Some 1 ∷ Some 2 ∷ None ∷ None ∷ Some 3 ∷ None ∷ Some 4 ∷ None ∷ None ∷ None ∷ None ∷ Some 3 ∷ None ∷ None ∷ None ∷ [];
}

-- deferred update, where p and q don't conflict with each other, and each with itself
abbrev pub deferred_parting : Object
deferred_parting = record {
  kind = Intentions;
  table = parting;
  set = λ s. nat_lt s 5;
  conflicts = conflicts ((true ∷ false ∷ false ∷ []) ∷ (false ∷ true ∷ false ∷ []) ∷ (false ∷ false ∷ false ∷ []) ∷ []);
  amounts = no_amounts;
}

-- the account, update in place, where to pay in doesn't conflict with a balance of 0
abbrev pub loose_account : Object
loose_account = record {
  kind = Undo;
  table = small_account;
  set = λ s. nat_lt s 2;
  conflicts = conflicts ((false ∷ false ∷ false ∷ []) ∷ (false ∷ false ∷ false ∷ []) ∷ (true ∷ false ∷ false ∷ []) ∷ []);
  amounts = no_amounts;
}

-- ---- histories

-- q by transaction 0 and p by transaction 1, and the first commits first
abbrev pub one_way_other : List Event
one_way_other = events (Begin 0 ∷ Begin 1 ∷ Op 1 0 0 ∷ Op 0 1 0 ∷ Commit 0 ∷ Commit 1 ∷ [])

-- q by 0 and p by 1, both open; 1 commits first, and 2 runs r
abbrev pub parting_history : List Event
parting_history = events (Begin 0 ∷ Begin 1 ∷ Op 1 0 0 ∷ Op 0 1 0 ∷ Commit 1 ∷ Commit 0 ∷ Begin 2 ∷ Op 2 2 0 ∷ Commit 2 ∷ [])

-- one takes 5 and another gives 5, which are both open, and the second commits first; then a third takes 5
abbrev pub fives_history : List Event
fives_history = events (Begin 0 ∷ Begin 1 ∷ Op 0 0 0 ∷ Op 2 1 0 ∷ Commit 1 ∷ Commit 0 ∷ Begin 2 ∷ Op 0 2 0 ∷ Commit 2 ∷ [])

-- ---- several stores

-- the same numbers at each store
abbrev pub same_names : Names
same_names = record { whole = λ i t. t; part = λ i T. Some T; there = λ i t. refl; back = λ i T t is. sym (ap (λ found. unwrap_or found T) is) }

abbrev pub at_store : ℕ → EventKind → At
at_store i happened = record { store = i; event = record { worker = 0; kind = happened } }

-- two transactions count up at each of two stores, and commit in the one order at one and in the other at the other
abbrev pub two_stores : List At
two_stores =
    at_store 0 (Begin 0) ∷ at_store 1 (Begin 0) ∷ at_store 0 (Begin 1) ∷ at_store 1 (Begin 1)
    ∷ at_store 0 (Op 0 0 0) ∷ at_store 1 (Op 0 1 0) ∷ at_store 0 (Op 0 1 0) ∷ at_store 1 (Op 0 0 0)
    ∷ at_store 0 (Commit 0) ∷ at_store 1 (Commit 1) ∷ at_store 0 (Commit 1) ∷ at_store 1 (Commit 0) ∷ []

-- at the first store transaction 0 commits before 1 counts down there, which takes that back; at the second 1 commits before 0 counts down
abbrev pub struck_stores : List At
struck_stores =
    at_store 0 (Begin 0) ∷ at_store 1 (Begin 0) ∷ at_store 0 (Begin 1) ∷ at_store 1 (Begin 1)
    ∷ at_store 0 (Op 0 0 0) ∷ at_store 1 (Op 0 1 0) ∷ at_store 0 (Commit 0) ∷ at_store 1 (Commit 1)
    ∷ at_store 0 (Op 1 1 0) ∷ at_store 0 (Rollback 1 1) ∷ at_store 1 (Op 1 0 0) ∷ at_store 0 (Commit 1) ∷ at_store 1 (Commit 0) ∷ []

-- ---- files

-- the counter, accepted for deferred update, and without its pairs, which isn't
abbrev pub paired_counter : Checked
paired_counter = record { kind = Intentions; file = counter_file }

abbrev pub loose_counter : Checked
loose_counter = record { kind = Intentions; file = record counter_file { intentions = no_pairs; intentions_fits = refl } }
