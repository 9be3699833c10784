-- Small histories, worked by hand.
use Rattle.std.specs.Prelude.{ℕ, Bool, true, false, List, [], ◌∷◌, map, take, Some, None, nat_lt, codes}
use Rattle.type_table.specs.Table.{Table}
use Rattle.type_table.specs.ConflictTable.{conflicts}
use Rattle.type_table.specs.Examples.{ok_op}
use Rattle.type_table.specs.declared.kind.Kind.TheVariants.{Undo, Intentions, Escrow}
use Rattle.table_checker.specs.Examples.{counter_file, one_way_file}
use Rattle.object_trait.specs.Object.{Object, object_of}
use Rattle.escrow_laws.specs.Amounts.{Amounts}
use Rattle.escrow_laws.specs.declared.bounded.Bounded.{Bounded}
use Rattle.escrow_laws.specs.Bounds.{amounts_of, steps_of}
use Rattle.object_trait.specs.declared.event.Event.{Event}
use Rattle.object_trait.specs.declared.event.EventKind.{EventKind}
use Rattle.object_trait.specs.declared.event.EventKind.TheVariants as kind
use Rattle.object_trait.specs.declared.event.EventKind.TheVariants.{Begin, Op, Commit, Abort, Rollback}
use Rattle.store_limits.specs.declared.limits.Limits.{Limits}
use Rattle.serial_order.specs.History.{Summary, summary}
use Rattle.serial_order.specs.declared.command.Command.{Command}
use Rattle.serial_order.specs.declared.command.Command.TheVariants as command
use Rattle.serial_order.specs.declared.entry.Entry.{Entry}

-- ---- how examples are written

-- these events, all by worker 0
abbrev pub events : List EventKind → List Event
events kinds = map (λ k. record { worker = 0; kind = k }) kinds

-- the limits of a store in which one transaction is open at a time
abbrev pub one_open : Limits
one_open = record { events = 1000; «open» = 1; objects = 256 }

-- an operation of a transaction at an object
abbrev pub entry : ℕ → ℕ → ℕ → Entry
entry t x k = record { by = t; at = x; op = k }

-- what the first n of some events say
abbrev pub seen_first : ℕ → List Event → Summary
seen_first n H = summary (take n H)

-- ---- objects

-- what nothing gives or takes
abbrev pub no_amounts : Amounts
no_amounts = record { gives = λ k. 0; takes = λ k. 0 }

-- the one-way type, update in place: q, requested, conflicts with p, held, and r with q
abbrev pub undo_one_way : Object
undo_one_way = object_of (record { kind = Undo; file = one_way_file })

-- the counter, update in place: counting up and counting down conflict
abbrev pub undo_counter : Object
undo_counter = object_of (record { kind = Undo; file = counter_file })

-- the counter, deferred update: each operation conflicts with itself
abbrev pub deferred_counter : Object
deferred_counter = object_of (record { kind = Intentions; file = counter_file })

-- up to two items, a or b, in no order. A state is two counts: (0,0), (0,1), (0,2), (1,0), (1,1) and (2,0). The operations put a, put
-- b, take a and take b, and the last two are one call
abbrev pub semiqueue_of_two : Table
semiqueue_of_two = record {
  name = codes "semiqueue";
  states = 6;
  initial = 0;
  ops = ok_op (codes "enq:a") ∷ ok_op (codes "enq:b") ∷ (record { call = codes "deq"; reply = codes "a" }) ∷ (record { call = codes "deq"; reply = codes "b" }) ∷ [];
  steps = Some 3 ∷ Some 1 ∷ None ∷ None ∷ Some 4 ∷ Some 2 ∷ None ∷ Some 0 ∷ None ∷ None ∷ None ∷ Some 1
      ∷ Some 5 ∷ Some 4 ∷ Some 0 ∷ None ∷ None ∷ None ∷ Some 1 ∷ Some 3 ∷ None ∷ None ∷ Some 3 ∷ None ∷ [];
}

-- what its operations need where they are to commute backward
abbrev pub semiqueue_pairs : List (List Bool)
semiqueue_pairs =
    (false ∷ false ∷ true ∷ true ∷ []) ∷ (false ∷ false ∷ true ∷ true ∷ [])
    ∷ (true ∷ false ∷ false ∷ false ∷ []) ∷ (false ∷ true ∷ false ∷ false ∷ []) ∷ []

-- the semiqueue, update in place
abbrev pub undo_semiqueue : Object
undo_semiqueue = record { kind = Undo; table = semiqueue_of_two; set = λ s. nat_lt s 6; conflicts = conflicts semiqueue_pairs; amounts = no_amounts }

-- an account of 0 or 1: operation 0 pays in, and operations 1 and 2 are one call, whose replies are the balances
abbrev pub small_account : Table
small_account = record {
  name = codes "account";
  states = 2;
  initial = 0;
  ops = ok_op (codes "deposit:1") ∷ (record { call = codes "balance"; reply = codes "0" }) ∷ (record { call = codes "balance"; reply = codes "1" }) ∷ [];
  steps = Some 1 ∷ Some 0 ∷ None ∷ None ∷ None ∷ Some 1 ∷ [];
}

-- what its operations need where they are to commute backward: to pay in conflicts with a balance of 0, and a balance of 1 with to
-- pay in
abbrev pub account_pairs : List (List Bool)
account_pairs = (false ∷ true ∷ false ∷ []) ∷ (false ∷ false ∷ false ∷ []) ∷ (true ∷ false ∷ false ∷ []) ∷ []

-- the account, update in place
abbrev pub undo_account : Object
undo_account = record { kind = Undo; table = small_account; set = λ s. nat_lt s 2; conflicts = conflicts account_pairs; amounts = no_amounts }

-- a number up to 10, from 5: operations 0 and 1 take 5 and are answered ok and short, operations 2 and 3 give 5 and are answered ok and full
abbrev pub fives : List Bounded
fives =
    (record { low = 5; high = 10; gives = 0; takes = 5 }) ∷ (record { low = 0; high = 4; gives = 0; takes = 0 })
    ∷ (record { low = 0; high = 5; gives = 5; takes = 0 }) ∷ (record { low = 6; high = 10; gives = 0; takes = 0 }) ∷ []

abbrev pub number_object : Object
number_object = record {
  kind = Escrow;
  table = record {
    name = codes "number";
    states = 11;
    initial = 5;
    ops = ok_op (codes "take:5") ∷ (record { call = codes "take:5"; reply = codes "short" }) ∷ ok_op (codes "give:5") ∷ (record { call = codes "give:5"; reply = codes "full" }) ∷ [];
    steps = steps_of 10 fives;
  };
  set = λ s. true;
  conflicts = λ p q. false;
  amounts = amounts_of fives;
}

-- a number up to 5, from 3: its operations take 1, take 2 and take 4, and give 2
abbrev pub some_amounts : List Bounded
some_amounts =
    (record { low = 1; high = 5; gives = 0; takes = 1 }) ∷ (record { low = 2; high = 5; gives = 0; takes = 2 })
    ∷ (record { low = 4; high = 5; gives = 0; takes = 4 }) ∷ (record { low = 0; high = 3; gives = 2; takes = 0 }) ∷ []

abbrev pub three_of_five : Object
three_of_five = record {
  kind = Escrow;
  table = record {
    name = codes "number";
    states = 6;
    initial = 3;
    ops = ok_op (codes "take:1") ∷ ok_op (codes "take:2") ∷ ok_op (codes "take:4") ∷ ok_op (codes "give:2") ∷ [];
    steps = steps_of 5 some_amounts;
  };
  set = λ s. true;
  conflicts = λ p q. false;
  amounts = amounts_of some_amounts;
}

-- ---- histories

-- of 3, one takes 1 and another takes 2, and a third gives 2; then the second aborts
abbrev pub takers_history : List Event
takers_history = events (Begin 0 ∷ Begin 1 ∷ Begin 2 ∷ Op 0 0 0 ∷ Op 1 1 0 ∷ Op 3 2 0 ∷ Abort 1 ∷ [])

-- one takes 5 and another gives 5, which are both open; the first commits, the second aborts, and a third finds nothing to take
abbrev pub number_history : List Event
number_history = events (Begin 0 ∷ Begin 1 ∷ Begin 2 ∷ Op 0 0 0 ∷ Op 2 1 0 ∷ Commit 0 ∷ Abort 1 ∷ Op 1 2 0 ∷ Commit 2 ∷ [])

-- one finds nothing to take, of 5 that it took itself, and another asks to give
abbrev pub short_history : List Event
short_history = events (Begin 0 ∷ Begin 1 ∷ Op 0 0 0 ∷ Op 1 0 0 ∷ [])

-- q by transaction 0 and p by transaction 1, which commits first
abbrev pub one_way_history : List Event
one_way_history = events (Begin 0 ∷ Begin 1 ∷ Op 1 0 0 ∷ Op 0 1 0 ∷ Commit 1 ∷ Commit 0 ∷ [])

-- a and b are put by a committed transaction, and taken by two that are open together
abbrev pub semiqueue_history : List Event
semiqueue_history =
    events (Begin 0 ∷ Op 0 0 0 ∷ Op 1 0 0 ∷ Commit 0 ∷ Begin 1 ∷ Begin 2 ∷ Op 2 1 0 ∷ Op 3 2 0 ∷ Commit 2 ∷ Commit 1 ∷ [])

-- two count up, one of them takes it back, and the other can count down
abbrev pub lock_history : List Event
lock_history = events (Begin 0 ∷ Begin 1 ∷ Op 0 0 0 ∷ Op 0 1 0 ∷ Rollback 0 1 ∷ Op 1 1 0 ∷ Commit 1 ∷ Commit 0 ∷ [])

-- one counts up, and another can count down once the first committed
abbrev pub deferred_history : List Event
deferred_history = events (Begin 0 ∷ Begin 1 ∷ Op 0 1 0 ∷ kind.None 0 0 1 ∷ Commit 1 ∷ Op 1 0 0 ∷ Commit 0 ∷ [])

-- one counts up at an object, at another and at the first again, and takes the last two back
abbrev pub two_objects_history : List Event
two_objects_history = events (Begin 0 ∷ Op 0 0 0 ∷ Op 0 0 1 ∷ Op 0 0 0 ∷ Rollback 0 2 ∷ Commit 0 ∷ [])

-- one counts up, and before it ends another counts down, which the locks don't admit
abbrev pub unlocked_history : List Event
unlocked_history = events (Begin 0 ∷ Begin 1 ∷ Op 0 0 0 ∷ Op 1 1 0 ∷ Commit 1 ∷ Commit 0 ∷ [])

-- one asks to count down and is answered `None`, and another counts up and commits before it
abbrev pub refused_history : List Event
refused_history = events (Begin 0 ∷ Begin 1 ∷ kind.None 0 0 1 ∷ Op 0 1 0 ∷ Commit 1 ∷ Commit 0 ∷ [])

-- one reads the balance and takes that back, and another pays in and commits before it
abbrev pub reader_history : List Event
reader_history = events (Begin 0 ∷ Begin 1 ∷ Op 1 0 0 ∷ Rollback 0 1 ∷ Op 0 1 0 ∷ Commit 1 ∷ Commit 0 ∷ [])

-- two count up, and the first commits
abbrev pub half_history : List Event
half_history = events (Begin 0 ∷ Begin 1 ∷ Op 0 0 0 ∷ Op 0 1 0 ∷ Commit 0 ∷ [])

-- one counts up and commits, and then another counts down
abbrev pub half_deferred_history : List Event
half_deferred_history = events (Begin 0 ∷ Begin 1 ∷ Op 0 1 0 ∷ Commit 1 ∷ Op 1 0 0 ∷ [])

-- ---- commands

-- one counts up, and takes it back, and commits, all by worker 0
abbrev pub up_and_back : List (ℕ × Command)
up_and_back = (0, command.Begin) ∷ (0, command.Call 0 0 (codes "inc:1")) ∷ (0, command.Rollback 0 1) ∷ (0, command.Commit 0) ∷ []
