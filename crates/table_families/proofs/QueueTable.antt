-- The table of a semiqueue.
use Rattle.std.proofs.Common.{◌≡◌, ℕ, ◌-◌, ◌*◌, ◌<◌, ◌≤◌, Bool, true, false, cond, nat_lt, List, ◌++◌, length, map, Some, arith, length-append}
use Rattle.std.proofs.lemmas.List.{length-map}
use Rattle.table_families.specs.Counts.{counts_within, number_within}
use Rattle.table_maker.specs.Made.{HasTable}
use Rattle.table_families.specs.Semiqueue.{semiqueue, enq_op, deq_op, semiqueue_enq, semiqueue_deq, AreSemiqueueParameters, SemiqueueFits}
use Rattle.table_families.proofs.Numbers.{length-some}
use Rattle.table_families.proofs.QueueStates.{enq_step-below, deq_step-below}
use Rattle.table_families.proofs.QueueOps.{no_twin-queue}

-- two operations for each element
pub length-ops : (elements : List (List ℕ)) → length (map enq_op elements ++ map deq_op elements) ≡ 2 * length elements
length-ops elements = omega (arith, length-append (map enq_op elements) (map deq_op elements), length-map elements enq_op, length-map elements deq_op)

-- a step leads to a state
step-below : (elements : List (List ℕ)) (capacity s k t : ℕ) → (semiqueue elements capacity).step s k ≡ Some t → t < (semiqueue elements capacity).states
step-below elements capacity s k t e = chosen (nat_lt k (length elements)) e
  where
    lists : List (List ℕ)
    lists = counts_within (length elements) capacity

    chosen : (b : Bool) → cond b (semiqueue_enq lists capacity k s) (semiqueue_deq lists (k - length elements) s) ≡ Some t → t < length lists
    chosen true e = enq_step-below lists capacity k s t e
    chosen false e = deq_step-below lists (k - length elements) s t e

-- a semiqueue that isn't too large has a table
pub has_table : (elements : List (List ℕ)) (capacity : ℕ) → AreSemiqueueParameters elements capacity → SemiqueueFits elements capacity → HasTable (semiqueue elements capacity)
has_table elements capacity good fits = record {
  some_states = length-some (length elements) capacity;
  states_fit = fits.states;
  some_ops = omega (arith, length-ops elements, good.distinct_names.some);
  ops_fit = omega (arith, length-ops elements, fits.ops);
  no_twin = no_twin-queue elements good.distinct_names.distinct;
  steps_inside = λ s k t s_below k_below e. step-below elements capacity s k t e;
}

-- the program's tests of the size say that it isn't too large
pub fits-tested : (elements : List (List ℕ)) (capacity : ℕ) → length elements ≤ 32 → number_within (length elements) capacity ≤ 1024 → SemiqueueFits elements capacity
fits-tested elements capacity few states = record { ops = omega arith; states = omega arith }
