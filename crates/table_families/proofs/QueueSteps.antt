-- The steps of a queue, by formulas over the numbers of states.
use Rattle.std.proofs.Common.{◌≡◌, ◌≢◌, ℕ, zero, suc, ◌+◌, ◌*◌, ◌-◌, ◌/◌, ◌%◌, ◌^◌, ◌<◌, ◌≤◌, min, eqb, ltb, List, [], ◌∷◌, ◌++◌, length, None, inl, inr, refl, sym, ◌∙◌, ap, arith, length-append, mod-lt, mul-add, mul_comm, mul-le-mul_left, suc-le-suc, pow-suc, mul-div_cancel, le-mul_of_pos_right}
use Rattle.std.proofs.Math.Nat.{min-eq_right, one-le-pow}
use Rattle.std.proofs.lemmas.Bool.{cases_lt, lt-ltb, le-ltb}
use Rattle.table_maker.specs.Made.{where_legal}
use Rattle.table_families.specs.Queue.{shorter, number_in_base, queue_state, digits, length_at, list_at, enq_step, deq_step, without_head}
use Rattle.table_families.proofs.Bases.{length-digits, number-append, number-digits, some-power}
use Rattle.table_families.proofs.QueueLists.{IsAmong, among-number, length_at-fits, shorter-more, shorter-up, numbered}

-- ---- how many states

-- one length more, where no number above 1,025 is kept
pub capped-more : (n len next count : ℕ) → 0 < n → next ≡ suc len → count ≡ min (shorter n len) 1025 → min (count * n + 1) 1025 ≡ min (shorter n next) 1025
capped-more n len next count some is h = rw is (elim (cases_lt 1025 (shorter n len)) [
  | inl many ↦
      let capped : count ≡ 1025 = omega (arith, h) in
      let least : 1025 ≤ count * n = omega (arith, capped, le-mul_of_pos_right count some) in
      min-eq_right (omega (arith, least)) ∙ sym (min-eq_right (omega (arith, shorter-up n len (suc len) (omega arith))))
  | inr few ↦
      let exact : count ≡ shorter n len = omega (arith, h) in
      let more : count * n + 1 ≡ shorter n (suc len) = rw exact (omega (arith, shorter-more n len, mul_comm n (shorter n len))) in
      ap (λ (x : ℕ). min x 1025) more
])

-- ---- enqueues

-- a list with one element more
state-append : (n : ℕ) (list : List ℕ) (e : ℕ) → queue_state n (list ++ e ∷ []) ≡ queue_state n list * n + 1 + e
state-append n list e =
    let len : length (list ++ e ∷ []) ≡ suc (length list) = omega (arith, length-append list (e ∷ [])) in
    let product = mul-add n (shorter n (length list)) (number_in_base n list) in
    let turned = mul_comm n (number_in_base n list) in
    let whole = mul_comm n (shorter n (length list) + number_in_base n list) in
    rw (len, number-append n list e) (omega (arith, shorter-more n (length list), product, turned, whole))

-- its state, between those of lists of that length
append-among : (n len e s : ℕ) → e < n → IsAmong n len s → IsAmong n (suc len) (s * n + 1 + e)
append-among n len e s element among =
    let low : n * shorter n len ≤ n * s = mul-le-mul_left n among.low in
    let high : n * suc s ≤ n * shorter n (suc len) = mul-le-mul_left n among.high in
    let one : n * suc s ≡ n * s + n = omega (arith, mul-add n s 1) in
    record {
      low = omega (arith, low, shorter-more n len, mul_comm n s);
      high = omega (arith, high, one, shorter-more n (suc len), mul_comm n s);
    }

pub enqueued : (n capacity e s : ℕ) → e < n → s < shorter n (suc capacity) →
    where_legal (ltb (s * n + 1 + e) (shorter n (suc capacity))) (s * n + 1 + e) ≡ enq_step n capacity e s
enqueued n capacity e s element state =
    let list = list_at n capacity s in
    let len = length_at n capacity s in
    let known = length_at-fits n capacity s state in
    let same : queue_state n list ≡ s = ((numbered n capacity).each_state s state).1 in
    let longer : queue_state n (list ++ e ∷ []) ≡ s * n + 1 + e = state-append n list e ∙ ap (λ (x : ℕ). x * n + 1 + e) same in
    let among = append-among n len e s element known.1 in
    let whole : length list ≡ len = length-digits n len (s - shorter n len) in
    rw (whole, longer) (elim (cases_lt len capacity) [
      | inl room ↦
          let below : s * n + 1 + e < shorter n (suc capacity) = omega (arith, among.high, shorter-up n (suc (suc len)) (suc capacity) (suc-le-suc room)) in
          rw (lt-ltb len capacity room, lt-ltb (s * n + 1 + e) (shorter n (suc capacity)) below) refl
      | inr full ↦
          let above : shorter n (suc capacity) ≤ s * n + 1 + e = omega (arith, among.low, shorter-up n (suc capacity) (suc len) (suc-le-suc full)) in
          rw (le-ltb len capacity full, le-ltb (s * n + 1 + e) (shorter n (suc capacity)) above) refl
    ])

-- ---- dequeues

-- how many of them have one head
pub of-head : (n len count : ℕ) → 0 < n → count ≡ n ^ suc len → count / n ≡ n ^ len
of-head n len count some h = rw (h, pow-suc n len) (mul-div_cancel (n ^ len) some)

-- the head of such a list, and the state of what comes after it
without-first : (n len e number : ℕ) → number < n ^ suc len →
    without_head n e (digits n (suc len) number) ≡ where_legal (eqb (number / n ^ len) e) (shorter n len + number % n ^ len)
without-first n len e number h =
    rw (length-digits n len (number % n ^ len), number-digits n len (number % n ^ len) (mod-lt number (some-power n len number h))) refl

dequeued : (n capacity e s first count len : ℕ) → 0 < n → s < shorter n (suc capacity) → length_at n capacity s ≡ suc len → first ≡ shorter n (suc len) → count ≡ n ^ suc len →
    where_legal (eqb ((s - first) / (count / n)) e) (first - count / n + (s - first) % (count / n)) ≡ deq_step n capacity e s
dequeued n capacity e s first count len some state long begin power =
    let known : IsAmong n (suc len) s = rw long at ((length_at-fits n capacity s state).1) in
    let rest : first - n ^ len ≡ shorter n len = omega (arith, begin) in
    rw (of-head n len count some power, rest, begin, long) (sym (without-first n len e (s - shorter n (suc len)) (among-number n (suc len) s known)))

-- the same where the first list of that length isn't state 0
taken-of : (n capacity e s first count len : ℕ) → 0 < n → s < shorter n (suc capacity) → length_at n capacity s ≡ len → first ≡ shorter n len → count ≡ n ^ len → first ≢ 0 →
    where_legal (eqb ((s - first) / (count / n)) e) (first - count / n + (s - first) % (count / n)) ≡ deq_step n capacity e s
taken-of n capacity e s first count zero some state long begin power there = absurd (there begin)
taken-of n capacity e s first count (suc len) some state long begin power there = dequeued n capacity e s first count len some state long begin power

pub taken-off : (n capacity e s first count : ℕ) → 0 < n → s < shorter n (suc capacity) → first ≡ shorter n (length_at n capacity s) → count ≡ n ^ length_at n capacity s → first ≢ 0 →
    where_legal (eqb ((s - first) / (count / n)) e) (first - count / n + (s - first) % (count / n)) ≡ deq_step n capacity e s
taken-off n capacity e s first count some state begin power there = taken-of n capacity e s first count (length_at n capacity s) some state refl begin power there

-- nothing is taken off where it is: the list is empty
none-of : (n capacity e s first len : ℕ) → length_at n capacity s ≡ len → first ≡ shorter n len → first ≡ 0 → deq_step n capacity e s ≡ None
none-of n capacity e s first zero long begin empty = rw long refl
none-of n capacity e s first (suc len) long begin empty = absurd (omega (arith, begin, empty, shorter-more n len))

pub none-there : (n capacity e s first : ℕ) → first ≡ shorter n (length_at n capacity s) → first ≡ 0 → deq_step n capacity e s ≡ None
none-there n capacity e s first begin empty = none-of n capacity e s first (length_at n capacity s) refl begin empty

-- some lists have each head, and no more than are shorter
pub record HeadsFit (n first count : ℕ) : Type 0 where
  pub some : 0 < count / n
  pub fewer : count / n ≤ first

heads-of : (n first count len : ℕ) → 0 < n → first ≡ shorter n len → count ≡ n ^ len → first ≢ 0 → HeadsFit n first count
heads-of n first count zero some begin power there = absurd (there begin)
heads-of n first count (suc len) some begin power there =
    let heads : count / n ≡ n ^ len = of-head n len count some power in
    record { some = omega (arith, heads, one-le-pow len n some); fewer = omega (arith, heads, begin) }

pub first-below : (n capacity s first : ℕ) → s < shorter n (suc capacity) → first ≡ shorter n (length_at n capacity s) → first ≤ s
first-below n capacity s first state begin = omega (arith, begin, (length_at-fits n capacity s state).1.low)

pub heads-fit : (n capacity s first count : ℕ) → 0 < n → first ≡ shorter n (length_at n capacity s) → count ≡ n ^ length_at n capacity s → first ≢ 0 → HeadsFit n first count
heads-fit n capacity s first count some begin power there = heads-of n first count (length_at n capacity s) some begin power there
