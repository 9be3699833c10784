-- Queues: items of several elements, of which a dequeue gives the one that is longest there.
use Rattle.std.specs.Prelude.{◌≡◌, ◌⊎◌, ℕ, zero, suc, ◌+◌, ◌*◌, ◌-◌, ◌/◌, ◌%◌, ◌^◌, ◌<◌, ◌≤◌, List, [], ◌∷◌, ◌++◌, length, map, nat_lt, nat_le, ◌==◌, if◌then◌else◌, Option, Some, None, codes, slice_index_or}
use Rattle.table_families.specs.Counts.{CountsPrecede}
use Rattle.table_maker.specs.Made.{Family, where_legal}
use Rattle.table_families.specs.Semiqueue.{enq_op, deq_op}

-- ---- the number of a list of elements, by their places among n; the head comes first

-- how many lists have fewer than `len` elements
abbrev pub shorter : ℕ → ℕ → ℕ
shorter n zero = 0
shorter n (suc len) = shorter n len + n ^ len

-- the number whose digits in base n are the elements
abbrev pub number_in_base : ℕ → List ℕ → ℕ
number_in_base n [] = 0
number_in_base n (e ∷ list) = e * n ^ length list + number_in_base n list

-- the state that a list has: after those of shorter ones, by that number
abbrev pub queue_state : ℕ → List ℕ → ℕ
queue_state n list = shorter n (length list) + number_in_base n list

-- `len` digits of a number in base n
abbrev pub digits : ℕ → ℕ → ℕ → List ℕ
digits n zero number = []
digits n (suc len) number = number / n ^ len ∷ digits n len (number % n ^ len)

-- the greatest length up to `most` for which a state isn't that of a shorter list
abbrev pub length_at : ℕ → ℕ → ℕ → ℕ
length_at n zero s = 0
length_at n (suc most) s = if nat_le (shorter n (suc most)) s then suc most else length_at n most s

-- the list of a state, of at most `most` elements
abbrev pub list_at : ℕ → ℕ → ℕ → List ℕ
list_at n most s = digits n (length_at n most s) (s - shorter n (length_at n most s))

-- ---- what these numbers are

-- a list of at most `most` places below n
pub record IsList (n most : ℕ) (list : List ℕ) : Type 0 where
  pub short : length list ≤ most
  pub places : (i : ℕ) → i < length list → slice_index_or list i 0 < n

-- shorter, or as long and earlier in lexicographic order
abbrev pub IsEarlier : List ℕ → List ℕ → Type 0
IsEarlier a b = (length a < length b) ⊎ ((length a ≡ length b) × CountsPrecede a b)

-- the law: each state has one list and each list one state, and states are in the order of their lists
pub record AreNumbered (n most : ℕ) : Type 0 where
  pub each_state : (s : ℕ) → s < shorter n (suc most) → IsList n most (list_at n most s) × (queue_state n (list_at n most s) ≡ s)
  pub each_list : (list : List ℕ) → IsList n most list → (queue_state n list < shorter n (suc most)) × (list_at n most (queue_state n list) ≡ list)
  pub ascending : (a b : List ℕ) → IsList n most a → IsList n most b → IsEarlier a b → queue_state n a < queue_state n b

abbrev pub ListsInOrder : Type 0
ListsInOrder = (n most : ℕ) → AreNumbered n most

-- ---- the family

-- element e is put in after the others, where there is room
abbrev pub enq_step : ℕ → ℕ → ℕ → ℕ → Option ℕ
enq_step n capacity e s =
    let list = list_at n capacity s in
    if nat_lt (length list) capacity then Some (queue_state n (list ++ e ∷ [])) else None

-- element e is taken off a list, where it is the head
abbrev pub without_head : ℕ → ℕ → List ℕ → Option ℕ
without_head n e [] = None
without_head n e (head ∷ rest) = where_legal (head == e) (queue_state n rest)

abbrev pub deq_step : ℕ → ℕ → ℕ → ℕ → Option ℕ
deq_step n capacity e s = without_head n e (list_at n capacity s)

-- the states are the lists of at most `capacity` elements; first come the enqueues, then the dequeues
abbrev pub queue : List (List ℕ) → ℕ → Family
queue elements capacity =
    let n = length elements in
    record {
      name = codes "queue";
      states = shorter n (suc capacity);
      ops = map enq_op elements ++ map deq_op elements;
      step = λ s k. if nat_lt k n then enq_step n capacity k s else deq_step n capacity (k - n) s;
    }

-- at most 64 operations and 1,024 states
pub record QueueFits (elements : List (List ℕ)) (capacity : ℕ) : Type 0 where
  pub ops : 2 * length elements ≤ 64
  pub states : shorter (length elements) (suc capacity) ≤ 1024
