-- Queues have tables.
use Rattle.std.proofs.Common.{◌≡◌, ℕ, suc, ◌+◌, ◌*◌, ◌-◌, ◌<◌, ◌≤◌, Bool, true, false, cond, min, nat_lt, eqb, ltb, List, [], ◌∷◌, length, Some, refl, sym, ◌∙◌, arith}
use Rattle.std.proofs.lemmas.Bool.{ltb-true}
use Rattle.table_maker.specs.Made.{HasTable}
use Rattle.table_families.specs.Semiqueue.{AreSemiqueueParameters}
use Rattle.table_families.proofs.AmountFacts.{legal-Some}
use Rattle.table_families.proofs.QueueOps.{no_twin-queue}
use Rattle.table_families.proofs.QueueTable.{length-ops}
use Rattle.table_families.specs.Queue.{queue, shorter, queue_state, list_at, enq_step, deq_step, without_head, QueueFits, IsList}
use Rattle.table_families.proofs.Bases.{digits-rest}
use Rattle.table_families.proofs.QueueLists.{shorter-more, numbered}
use Rattle.table_families.proofs.QueueSteps.{enqueued}

-- an enqueue leads to a state
enq-inside : (n capacity e s t : ℕ) → e < n → s < shorter n (suc capacity) → enq_step n capacity e s ≡ Some t → t < shorter n (suc capacity)
enq-inside n capacity e s t element state h =
    let states = shorter n (suc capacity) in
    let both = legal-Some (ltb (s * n + 1 + e) states) (s * n + 1 + e) t (enqueued n capacity e s element state ∙ h) in
    omega (arith, both.1, ltb-true (s * n + 1 + e) states both.0)

-- and so does a dequeue: what comes after a head is a list
rest-inside : (n capacity e t : ℕ) (list : List ℕ) → IsList n capacity list → without_head n e list ≡ Some t → t < shorter n (suc capacity)
rest-inside n capacity e t [] good h = cc
rest-inside n capacity e t (head ∷ rest) good h =
    let both = legal-Some (eqb head e) (queue_state n rest) t h in
    let short : IsList n capacity rest = record { short = omega (arith, good.short); places = digits-rest n head rest good.places } in
    omega (arith, both.1, ((numbered n capacity).each_list rest short).0)

-- so does each step
step-inside : (n capacity s k t : ℕ) (is_enqueue : Bool) → is_enqueue ≡ nat_lt k n → s < shorter n (suc capacity) → cond is_enqueue (enq_step n capacity k s) (deq_step n capacity (k - n) s) ≡ Some t → t < shorter n (suc capacity)
step-inside n capacity s k t true is state h = enq-inside n capacity k s t (ltb-true k n (sym is)) state h
step-inside n capacity s k t false is state h = rest-inside n capacity (k - n) t (list_at n capacity s) ((numbered n capacity).each_state s state).0 h

-- a queue that fits has a table
pub queue-table : (elements : List (List ℕ)) (capacity : ℕ) → AreSemiqueueParameters elements capacity → QueueFits elements capacity → HasTable (queue elements capacity)
queue-table elements capacity good fits =
    let n = length elements in
    let some : 0 < shorter n (suc capacity) = omega (arith, shorter-more n capacity) in
    record {
      some_states = some;
      states_fit = fits.states;
      some_ops = omega (arith, length-ops elements, good.distinct_names.some);
      ops_fit = omega (arith, length-ops elements, fits.ops);
      no_twin = no_twin-queue elements good.distinct_names.distinct;
      steps_inside = λ s k t s_below k_below h. step-inside n capacity s k t (nat_lt k n) refl s_below h;
    }

-- the program's tests of the size say that it isn't too large
pub fits-tested : (elements : List (List ℕ)) (capacity states : ℕ) → length elements ≤ 32 → states ≡ min (shorter (length elements) (suc capacity)) 1025 → states ≤ 1024 → QueueFits elements capacity × (states ≡ shorter (length elements) (suc capacity))
fits-tested elements capacity states few is small = (record { ops = omega arith; states = omega (arith, is) }, omega (arith, is))
