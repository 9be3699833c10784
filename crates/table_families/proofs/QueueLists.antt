-- The lists of a queue, and their numbers.
use Rattle.std.proofs.Common.{◌≡◌, ℕ, zero, suc, ◌+◌, ◌*◌, ◌-◌, ◌^◌, ◌<◌, ◌≤◌, List, length, inl, inr, sym, subst, arith, le_refl, suc-le-suc, mul-add, pow-suc, mul_comm}
use Rattle.std.proofs.Math.Nat.{pow-zero}
use Rattle.std.proofs.lemmas.Bool.{cases_eq, cases_lt, le-leb, lt-leb}
use Rattle.table_families.specs.Counts.{CountsPrecede}
use Rattle.table_families.specs.Queue.{shorter, number_in_base, queue_state, length_at, list_at, IsList, IsEarlier, AreNumbered}
use Rattle.table_families.proofs.Bases.{AreDigits, number-below, digits-number, length-digits, number-digits, digits-below, number-before}

-- ---- how many lists are shorter

-- of one element more there are n for each, and the empty one
pub shorter-more : (n len : ℕ) → shorter n (suc len) ≡ n * shorter n len + 1
shorter-more n zero = omega (arith, pow-zero n)
shorter-more n (suc len) = omega (arith, shorter-more n len, mul-add n (shorter n len) (n ^ len), pow-suc n len, mul_comm n (n ^ len))

pub shorter-up : (n a b : ℕ) → a ≤ b → shorter n a ≤ shorter n b
shorter-up n a zero h = let none : a ≡ 0 = omega arith in rw none (le_refl 0)
shorter-up n a (suc b) h = elim (cases_eq a (suc b)) [
  | inl same ↦ rw same (le_refl (shorter n (suc b)))
  | inr other ↦ omega (arith, shorter-up n a b (omega arith))
]

-- ---- the length of a state's list

-- the states of one length
pub record IsAmong (n len s : ℕ) : Type 0 where
  pub low : shorter n len ≤ s
  pub high : s < shorter n (suc len)

pub length_at-fits : (n most s : ℕ) → s < shorter n (suc most) → (length_at n most s ≤ most) × IsAmong n (length_at n most s) s
length_at-fits n zero s h = (omega arith, record { low = omega arith; high = h })
length_at-fits n (suc most) s h = elim (cases_lt s (shorter n (suc most))) [
  | inl less ↦ rw (lt-leb (shorter n (suc most)) s less) (let known = length_at-fits n most s less in (omega (arith, known.0), known.1))
  | inr more ↦ rw (le-leb (shorter n (suc most)) s more) (omega arith, record { low = more; high = h })
]

pub length_at-only : (n most s len : ℕ) → len ≤ most → IsAmong n len s → length_at n most s ≡ len
length_at-only n zero s len fits among = omega arith
length_at-only n (suc most) s len fits among = elim (cases_eq len (suc most)) [
  | inl same ↦
      let low : shorter n (suc most) ≤ s = subst (λ (x : ℕ). shorter n x ≤ s) same among.low in
      rw (le-leb (shorter n (suc most)) s low) (sym same)
  | inr other ↦
      let high : s < shorter n (suc most) = omega (arith, among.high, shorter-up n (suc len) (suc most) (omega arith)) in
      rw (lt-leb (shorter n (suc most)) s high) (length_at-only n most s len (omega arith) among)
]

-- the length at which a count of the lists of each length comes to the state
pub length_at-counted : (n most s len first count : ℕ) → len ≤ most → first ≡ shorter n len → count ≡ n ^ len → first ≤ s → s < first + count → length_at n most s ≡ len
length_at-counted n most s len first count fits begin power low high = length_at-only n most s len fits (record { low = omega (arith, begin, low); high = omega (arith, begin, power, high) })

-- what such a state is above the first of them
pub among-number : (n len s : ℕ) → IsAmong n len s → s - shorter n len < n ^ len
among-number n len s among = omega (arith, among.low, among.high)

-- ---- lists and states

pub state-among : (n : ℕ) (list : List ℕ) → AreDigits n list → IsAmong n (length list) (queue_state n list)
state-among n list h = record { low = omega arith; high = omega (arith, number-below n list h) }

each-state : (n most s : ℕ) → s < shorter n (suc most) → IsList n most (list_at n most s) × (queue_state n (list_at n most s) ≡ s)
each-state n most s h =
    let known = length_at-fits n most s h in
    let len = length_at n most s in
    let below = among-number n len s known.1 in
    let whole = length-digits n len (s - shorter n len) in (
      record { short = omega (arith, whole, known.0); places = digits-below n len (s - shorter n len) below },
      rw (whole, number-digits n len (s - shorter n len) below) (omega (arith, known.1.low)),
    )

each-list : (n most : ℕ) (list : List ℕ) → IsList n most list → (queue_state n list < shorter n (suc most)) × (list_at n most (queue_state n list) ≡ list)
each-list n most list good =
    let among = state-among n list good.places in
    let len : length_at n most (queue_state n list) ≡ length list = length_at-only n most (queue_state n list) (length list) good.short among in
    let number : shorter n (length list) + number_in_base n list - shorter n (length list) ≡ number_in_base n list = omega arith in (
      omega (arith, among.high, shorter-up n (suc (length list)) (suc most) (suc-le-suc good.short)),
      rw (len, number) (digits-number n list good.places),
    )

earlier : (n most : ℕ) (a b : List ℕ) → IsList n most a → IsList n most b → IsEarlier a b → queue_state n a < queue_state n b
earlier n most a b first second (inl less) =
    let up : shorter n (suc (length a)) ≤ shorter n (length b) = shorter-up n (suc (length a)) (length b) less in
    omega (arith, (state-among n a first.places).high, up)
earlier n most a b first second (inr same) =
    let before : CountsPrecede a b = same.1 in
    let less = number-before n before.place a b same.0 first.places before.within before.common before.smaller in
    rw same.0 (omega (arith, less))

-- the law
pub numbered : (n most : ℕ) → AreNumbered n most
numbered n most = record { each_state = each-state n most; each_list = each-list n most; ascending = earlier n most }
