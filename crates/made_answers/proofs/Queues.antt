-- No state of a queue looks like another: what comes out of one tells its list, and what still goes in tells how long it is.
use Rattle.std.proofs.Common.{◌≡◌, ℕ, zero, suc, ◌+◌, ◌-◌, ◌<◌, ◌≤◌, cond, eqb, ltb, List, [], ◌∷◌, ◌++◌, length, Some, None, inl, inr, refl, sym, ap, subst, ◌∙◌, arith, length-append}
use Rattle.std.proofs.Math.Seq.{get_or-append_seam}
use Rattle.std.proofs.lemmas.Bool.{cases_lt, eq-eqb, eqb-true, le-ltb, lt-ltb}
use Rattle.std.proofs.lemmas.List.{get_or_append_left}
use Rattle.std.proofs.lemmas.Option.{none-some, same_Some}
use Rattle.type_table.specs.Laws.{StepsWithin}
use Rattle.type_table.specs.Table.{Table}
use Rattle.table_families.specs.Queue.{IsList, list_at, queue, queue_state, without_head}
use Rattle.table_families.proofs.AmountFacts.{legal-Some}
use Rattle.table_families.proofs.Bases.{digits-rest}
use Rattle.table_families.proofs.QueueLists.{numbered}
use Rattle.table_families.proofs.QueueTable.{length-ops}
use Rattle.made_answers.specs.Laws.{QueuesHaveLoneStates}
use Rattle.made_answers.proofs.Alone.{IsLike, like_after}

-- ---- lists

-- a list with one element more
list_more : (n capacity e : ℕ) (list : List ℕ) → IsList n capacity list → e < n → length list < capacity → IsList n capacity (list ++ e ∷ [])
list_more n capacity e list good e_in room = record {
  short = omega (arith, room, length-append list (e ∷ []));
  places = λ i i_in. elim (cases_lt i (length list)) [
    | inl before ↦ rw (get_or_append_left list (e ∷ []) 0 i before) (good.places i before)
    | inr past ↦
        let last : i ≡ length list = omega (arith, i_in, past, length-append list (e ∷ [])) in
        rw (last, get_or-append_seam list e [] 0) e_in
  ];
}

-- and without its head
list_rest : (n capacity head : ℕ) (rest : List ℕ) → IsList n capacity (head ∷ rest) → IsList n capacity rest
list_rest n capacity head rest good = record { short = omega (arith, good.short); places = digits-rest n head rest good.places }

-- ---- steps

module _ (elements : List (List ℕ)) (capacity : ℕ) where
  -- the state of a list
  abbrev state : List ℕ → ℕ
  state list = queue_state (length elements) list

  abbrev IsHeld : List ℕ → Type 0
  IsHeld list = IsList (length elements) capacity list

  step_in : (e : ℕ) (list : List ℕ) → IsHeld list → e < length elements
      → (queue elements capacity).step (state list) e ≡ cond (ltb (length list) capacity) (Some (state (list ++ e ∷ []))) None
  step_in e list good e_in = rw (lt-ltb e (length elements) e_in, ((numbered (length elements) capacity).each_list list good).1) refl

  step_out : (e : ℕ) (list : List ℕ) → IsHeld list → (queue elements capacity).step (state list) (length elements + e) ≡ without_head (length elements) e list
  step_out e list good =
      let place : length elements + e - length elements ≡ e = omega arith in
      rw (le-ltb (length elements + e) (length elements) (omega arith), place, ((numbered (length elements) capacity).each_list list good).1) refl

  -- one list's state looks like another's
  abbrev AreLike : Table → List ℕ → List ℕ → Type 0
  AreLike T l m = IsLike (queue elements capacity) T (state l) (state m)

  -- what has room for k elements looks like what has room for them
  room_there : StepsWithin → (T : Table) → 0 < length elements → (k : ℕ) (l m : List ℕ) → IsHeld l → IsHeld m → AreLike T l m → length l + k ≤ capacity → length m + k ≤ capacity
  room_there within T some zero l m l_good m_good like fits = omega (arith, m_good.short)
  room_there within T some (suc k) l m l_good m_good like fits =
      let room : length l < capacity = omega (arith, fits) in
      let here : (queue elements capacity).step (state l) 0 ≡ Some (state (l ++ 0 ∷ [])) = step_in 0 l l_good some ∙ rw (lt-ltb (length l) capacity room) refl in
      let after = like_after within (queue elements capacity) T (state l) (state m) 0 (state (l ++ 0 ∷ [])) like (omega (arith, some, length-ops elements)) here in
      elim (cases_lt (length m) capacity) [
        | inl free ↦
            let there : (queue elements capacity).step (state m) 0 ≡ Some (state (m ++ 0 ∷ [])) = step_in 0 m m_good some ∙ rw (lt-ltb (length m) capacity free) refl in
            let same : after.0 ≡ state (m ++ 0 ∷ []) = same_Some after.0 (state (m ++ 0 ∷ [])) (sym after.1 ∙ there) in
            let rest = room_there within T some k (l ++ 0 ∷ []) (m ++ 0 ∷ []) (list_more (length elements) capacity 0 l l_good some room) (list_more (length elements) capacity 0 m m_good some free)
            (subst (λ t. IsLike (queue elements capacity) T (state (l ++ 0 ∷ [])) t) same after.2) (omega (arith, fits, length-append l (0 ∷ []))) in
            omega (arith, rest, length-append m (0 ∷ []))
        | inr full ↦
            let none : (queue elements capacity).step (state m) 0 ≡ None = step_in 0 m m_good some ∙ rw (le-ltb (length m) capacity full) refl in
            absurd (none-some after.0 (sym none ∙ after.1))
      ]

  -- so its list is that one
  same_list : StepsWithin → (T : Table) → 0 < length elements → (l m : List ℕ) → IsHeld l → IsHeld m → AreLike T l m → l ≡ m
  same_list within T some [] [] l_good m_good like = refl
  same_list within T some [] (y ∷ m) l_good m_good like = absurd (omega (arith, room_there within T some capacity [] (y ∷ m) l_good m_good like (omega arith)))
  same_list within T some (x ∷ l) m l_good m_good like =
      let head : x < length elements = l_good.places 0 (omega arith) in
      let here : (queue elements capacity).step (state (x ∷ l)) (length elements + x) ≡ Some (state l) = step_out x (x ∷ l) l_good ∙ rw (eq-eqb x x refl) refl in
      let after = like_after within (queue elements capacity) T (state (x ∷ l)) (state m) (length elements + x) (state l) like (omega (arith, head, length-ops elements)) here in
      headed (λ m rest_good rest_like. same_list within T some l m (list_rest (length elements) capacity x l l_good) rest_good rest_like) m m_good after.0 after.1 after.2
    where
      headed : ((m : List ℕ) → IsHeld m → AreLike T l m → l ≡ m) → (m : List ℕ) → IsHeld m → (t : ℕ)
          → (queue elements capacity).step (state m) (length elements + x) ≡ Some t → IsLike (queue elements capacity) T (state l) t → x ∷ l ≡ m
      headed rest [] m_good t step rest_like = absurd (none-some t (sym (step_out x [] m_good) ∙ step))
      headed rest (y ∷ m) m_good t step rest_like =
          let both = legal-Some (eqb y x) (state m) t (sym (step_out x (y ∷ m) m_good) ∙ step) in
          let first : y ≡ x = eqb-true y x both.0 in
          let after : l ≡ m = rest m (list_rest (length elements) capacity y m m_good) (subst (λ u. IsLike (queue elements capacity) T (state l) u) (sym both.1) rest_like) in
          rw (first, after) refl

pub queues_have_lone_states : StepsWithin → QueuesHaveLoneStates
queues_have_lone_states within = λ elements capacity file is s t s_in t_in looks.
    let n = length elements in
    let some : 0 < n = omega (arith, is.made.table.some_ops, ap length is.table.ops, length-ops elements) in
    let first : s < (queue elements capacity).states = omega (arith, s_in, is.table.states) in
    let second : t < (queue elements capacity).states = omega (arith, t_in, is.table.states) in
    let like : IsLike (queue elements capacity) file.table s t = record { table = is.made.table; of_family = is.table; first = first; second = second; looks = looks } in
    let l = (numbered n capacity).each_state s first in
    let m = (numbered n capacity).each_state t second in
    let lists_like : IsLike (queue elements capacity) file.table (queue_state n (list_at n capacity s)) (queue_state n (list_at n capacity t)) = rw (l.1, m.1) like in
    let same = same_list elements capacity within file.table some (list_at n capacity s) (list_at n capacity t) l.0 m.0 lists_like in
    sym l.1 ∙ ap (queue_state n) same ∙ m.1
