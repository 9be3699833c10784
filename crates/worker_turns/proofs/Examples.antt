-- Small jobs and workers: replies and tries.
use Rattle.std.proofs.Common.{ℕ, ◌<◌, [], ◌∷◌, ◌++◌, inl, inr, refl, arith}
use Rattle.std.specs.Prelude.{codes}
use Rattle.object_trait.specs.Object.{object_of}
use Rattle.object_trait.specs.declared.event.EventKind.TheVariants.{Op, Busy}
use Rattle.store_laws.specs.Examples.{undo_counter_type, deferred_counter_type}
use Rattle.serial_order.specs.declared.refusal.Refusal.{Refusal}
use Rattle.worker_turns.specs.Parts.{IsReply, IsBrokenTry, IsWholeTry, IsCutTry, IsRefusedTry, IsCallRefusal, BreaksBefore}
use Rattle.worker_turns.specs.Examples.{counters, up_and_down_calls, up_and_away, in_the_way, both_made, first_made}

-- ---- replies

-- counting up at the first counter, and at the second; and counting down
pub up : (t : ℕ) → IsReply counters t (0, codes "inc:1") (Op 0 t 0)
up t = record { o = object_of undo_counter_type; there = refl; c = 0; number = refl; k = 0; of_call = refl; is = refl }

pub up-second : (t : ℕ) → IsReply counters t (1, codes "inc:1") (Op 0 t 1)
up-second t = record { o = object_of deferred_counter_type; there = refl; c = 0; number = refl; k = 0; of_call = refl; is = refl }

down : (t : ℕ) → IsReply counters t (0, codes "dec:1") (Op 1 t 0)
down t = record { o = object_of undo_counter_type; there = refl; c = 1; number = refl; k = 1; of_call = refl; is = refl }

-- ---- tries

pub in_the_way-broken : IsBrokenTry counters up_and_down_calls in_the_way
in_the_way-broken = record {
  t = 2;
  done = 1;
  call = (0, codes "dec:1");
  next = refl;
  replies = Op 0 2 0 ∷ [];
  are_replies = (up 2, tt);
  answer = Busy 1 2 0 1;
  no_reply = record { c = 1; number = refl; is = inl (1, refl) };
  is = refl;
}

both_made-whole : IsWholeTry counters up_and_down_calls 3 both_made
both_made-whole = record { replies = Op 0 3 0 ∷ Op 1 3 0 ∷ []; are_replies = (up 3, (down 3, tt)); is = refl }

first_made-cut : IsCutTry counters up_and_away (9, codes "inc:1") first_made
first_made-cut = record { t = 4; done = 1; next = refl; replies = Op 0 4 0 ∷ []; are_replies = (up 4, tt); is = refl }

-- ---- parts

pub second-commits : BreaksBefore counters 2 up_and_down_calls (IsWholeTry counters up_and_down_calls 3) (in_the_way ++ both_made)
second-commits = record {
  count = 1;
  fewer = omega arith;
  broken = in_the_way;
  are_broken = ([], in_the_way, refl, refl, in_the_way-broken);
  last = both_made;
  is_last = both_made-whole;
  is = refl;
}

pub first-refused : (tries : ℕ) (r : Refusal) → 0 < tries → IsCallRefusal counters (9, codes "inc:1") r
    → BreaksBefore counters tries up_and_away (IsRefusedTry counters up_and_away r) first_made
first-refused tries r some refused = record {
  count = 0;
  fewer = some;
  broken = [];
  are_broken = refl;
  last = first_made;
  is_last = inr ((9, codes "inc:1"), first_made-cut, refused);
  is = refl;
}
