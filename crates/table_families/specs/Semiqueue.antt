-- Semiqueues: items of several elements, of which a dequeue gives any that is held.
use Rattle.std.specs.Prelude.{ℕ, ◌+◌, ◌*◌, ◌-◌, ◌≤◌, List, [], ◌++◌, length, map, nat_lt, nat_le, if◌then◌else◌, Option, codes, slice_index_or, slice_set, sum, None}
use Rattle.std.specs.Str.{bytes_eq}
use Rattle.std.specs.List.{position}
use Rattle.type_table.specs.declared.op.Op.{Op}
use Rattle.table_maker.specs.Made.{Family, op_named}
use Rattle.table_families.specs.Counts.{counts_within}
use Rattle.table_families.specs.Elements.{AreElements}

-- an enqueue of an element
abbrev pub enq_op : List ℕ → Op
enq_op e = op_named (codes "enq:" ++ e) (codes "ok")

-- a dequeue that gives it
abbrev pub deq_op : List ℕ → Op
deq_op e = op_named (codes "deq") e

-- the states, by their lists of counts
abbrev pub semiqueue_states : List (List ℕ) → ℕ → List (List ℕ)
semiqueue_states elements capacity = counts_within (length elements) capacity

-- how many of each element a state holds
abbrev pub counts_at : List (List ℕ) → ℕ → List ℕ
counts_at states s = slice_index_or states s []

-- how many of element i
abbrev pub element_count : List ℕ → ℕ → ℕ
element_count counts i = slice_index_or counts i 0

-- the state that holds this many
abbrev pub semiqueue_state : List (List ℕ) → List ℕ → Option ℕ
semiqueue_state states counts = position (λ other. bytes_eq other counts) states

-- element i is put in, where there is room
abbrev pub semiqueue_enq : List (List ℕ) → ℕ → ℕ → ℕ → Option ℕ
semiqueue_enq states capacity i s =
    let counts = counts_at states s in
    if nat_lt (sum counts) capacity then semiqueue_state states (slice_set counts i (element_count counts i + 1)) else None

-- element i is taken out, where one is held
abbrev pub semiqueue_deq : List (List ℕ) → ℕ → ℕ → Option ℕ
semiqueue_deq states i s =
    let counts = counts_at states s in
    if nat_le 1 (element_count counts i) then semiqueue_state states (slice_set counts i (element_count counts i - 1)) else None

-- the states are the lists of counts with a sum of at most the capacity, in lexicographic order; first come the enqueues, then the dequeues
abbrev pub semiqueue : List (List ℕ) → ℕ → Family
semiqueue elements capacity =
    let states = semiqueue_states elements capacity in
    record {
      name = codes "semiqueue";
      states = length states;
      ops = map enq_op elements ++ map deq_op elements;
      step = λ s k. if nat_lt k (length elements) then semiqueue_enq states capacity k s else semiqueue_deq states (k - length elements) s;
    }

-- distinct names of at most 28 bytes, at least one, and a capacity from 1 to 1,023
pub record AreSemiqueueParameters (elements : List (List ℕ)) (capacity : ℕ) : Type 0 where
  pub distinct_names : AreElements 28 elements
  pub some_room : 1 ≤ capacity
  pub room_fits : capacity ≤ 1023

-- at most 64 operations and 1,024 states
pub record SemiqueueFits (elements : List (List ℕ)) (capacity : ℕ) : Type 0 where
  pub ops : 2 * length elements ≤ 64
  pub states : length (semiqueue_states elements capacity) ≤ 1024
