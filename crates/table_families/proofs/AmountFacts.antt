-- Amounts, and what makes accounts, counters and stocks types.
use Rattle.std.proofs.Common.{◌≡◌, ℕ, zero, suc, ◌+◌, ◌*◌, ◌-◌, ◌<◌, ◌≤◌, Bool, true, false, leb, ltb, List, ◌++◌, length, Some, inl, inr, add-one, refl, arith}
use Rattle.std.specs.Fmt.{decimal}
use Rattle.std.specs.List.{flat_map, list_all}
use Rattle.std.specs.Str.{bytes_eq}
use Rattle.std.proofs.lemmas.Bool.{both_ways, cases_order, and_parts, and_from, le-leb, leb-true}
use Rattle.std.proofs.lemmas.Fmt.{decimal_injective}
use Rattle.std.proofs.lemmas.List.{append_cancel_left, get_or_default}
use Rattle.std.proofs.lemmas.List.Sums.{AllPass-from_list_all, list_all-from_AllPass}
use Rattle.std.proofs.lemmas.Slice.Eq.{bytes_eq-Decides}
use Rattle.type_table.specs.Op.{has_twin}
use Rattle.table_families.specs.Amounts.{AreAmounts, amount_at, amount_ops, amount_step, is_amount_up_to}
use Rattle.table_maker.specs.Made.{where_legal}
use Rattle.table_families.proofs.Twins.{shares, has_twin-flat_map, length-pieces, same_bytes, other_bytes}

-- each amount is 1 to the cap, by a test of each
pub each-from_all : (cap : ℕ) (amounts : List ℕ) → list_all (is_amount_up_to cap) amounts ≡ true → (i : ℕ) → i < length amounts → (1 ≤ amount_at amounts i) × (amount_at amounts i ≤ cap)
each-from_all cap amounts h i below =
    let both = and_parts _ _ (AllPass-from_list_all (is_amount_up_to cap) amounts h i 0 below) in
    (leb-true 1 (amount_at amounts i) both.0, leb-true (amount_at amounts i) cap both.1)

-- and the other way round
pub all-from_each : (cap : ℕ) (amounts : List ℕ) → ((i : ℕ) → i < length amounts → (1 ≤ amount_at amounts i) × (amount_at amounts i ≤ cap)) → list_all (is_amount_up_to cap) amounts ≡ true
all-from_each cap amounts h =
    list_all-from_AllPass (is_amount_up_to cap) amounts (λ i d below. rw (get_or_default amounts i d 0 below) (and_from _ _ (le-leb 1 (amount_at amounts i) (h i below).0) (le-leb (amount_at amounts i) cap (h i below).1)))

-- an earlier amount is less than a later one
pub amount-before : (amounts : List ℕ) → ((i : ℕ) → i + 1 < length amounts → amount_at amounts i < amount_at amounts (i + 1)) → (i j : ℕ) → i < j → j < length amounts → amount_at amounts i < amount_at amounts j
amount-before amounts h i zero before below = absurd (omega arith)
amount-before amounts h i (suc j) before below =
    let next : amount_at amounts j < amount_at amounts (suc j) = rw add-one at (h j (omega arith)) in
    elim (cases_order i j) [
      | inl same ↦ rw same next
      | inr apart ↦ elim apart [ inl less ↦ omega (arith, next, amount-before amounts h i j less (omega arith)) | inr more ↦ absurd (omega arith) ]
    ]

-- the texts of different amounts differ
pub other_amount : (cap : ℕ) (amounts : List ℕ) → AreAmounts cap amounts → (i j : ℕ) → i < j → j < length amounts → bytes_eq (decimal (amount_at amounts j)) (decimal (amount_at amounts i)) ≡ false
other_amount cap amounts good i j before below =
    let less : amount_at amounts i < amount_at amounts j = amount-before amounts good.ascending i j before below in
    let fits : amount_at amounts j ≤ cap = (good.each j below).1 in
    let small : cap ≤ 1023 = good.cap_fits in
    other_bytes (decimal (amount_at amounts j)) (decimal (amount_at amounts i)) (λ (same : decimal (amount_at amounts j) ≡ decimal (amount_at amounts i)). absurd (omega (arith, less, decimal_injective (amount_at amounts j) (amount_at amounts i) (omega arith) (omega arith) same)))

-- so they do after a word
after_word : (word a b : List ℕ) → bytes_eq a b ≡ false → bytes_eq (word ++ a) (word ++ b) ≡ false
after_word word a b h = other_bytes (word ++ a) (word ++ b) (λ same. both_ways _ h ((bytes_eq-Decides a b).1 (append_cancel_left word a b same)))

-- a next state that is there
pub legal-Some : (is_legal : Bool) (next t : ℕ) → where_legal is_legal next ≡ Some t → (is_legal ≡ true) × (next ≡ t)
legal-Some true next t h = (refl, cc)
legal-Some false next t h = cc

-- ---- the four operations of each amount

-- the calls of two words have different texts, whatever their amounts
pub record AreApart (put taken : List ℕ) : Type 0 where
  pub one_way : (a b : ℕ) → bytes_eq (put ++ decimal a) (taken ++ decimal b) ≡ false
  pub other_way : (a b : ℕ) → bytes_eq (taken ++ decimal a) (put ++ decimal b) ≡ false

pub length-amounts : (put taken amounts : List ℕ) → length (flat_map (amount_ops put taken) amounts) ≡ 4 * length amounts
length-amounts put taken amounts = length-pieces (amount_ops put taken) 4 amounts (λ a. refl)

-- the operations of an amount differ
amount-once : (put taken : List ℕ) (a : ℕ) → AreApart put taken → has_twin (amount_ops put taken a) ≡ false
amount-once put taken a apart = rw (same_bytes (put ++ decimal a), same_bytes (taken ++ decimal a), apart.other_way a a) refl

-- operations of amounts with different texts differ
amounts-differ : (put taken : List ℕ) (a b : ℕ) → AreApart put taken → bytes_eq (decimal b) (decimal a) ≡ false → shares (amount_ops put taken a) (amount_ops put taken b) ≡ false
amounts-differ put taken a b apart h =
    rw (after_word put (decimal b) (decimal a) h, after_word taken (decimal b) (decimal a) h, apart.one_way b a, apart.other_way b a) refl

-- no operation comes twice
pub amounts-once : (put taken : List ℕ) (cap : ℕ) (amounts : List ℕ) → AreApart put taken → AreAmounts cap amounts → has_twin (flat_map (amount_ops put taken) amounts) ≡ false
amounts-once put taken cap amounts apart good =
    has_twin-flat_map 0 (amount_ops put taken) amounts (λ a. amount-once put taken a apart)
    (λ i j before below. amounts-differ put taken (amount_at amounts i) (amount_at amounts j) apart (other_amount cap amounts good i j before below))

-- a step leads to a number of at most the cap
pub amount-inside : (cap a j s t : ℕ) → s ≤ cap → amount_step cap a j s ≡ Some t → t ≤ cap
amount-inside cap a zero s t below h =
    let both = legal-Some (leb (s + a) cap) (s + a) t h in
    omega (arith, leb-true (s + a) cap both.0, both.1)
amount-inside cap a (suc zero) s t below h = omega (arith, (legal-Some (ltb cap (s + a)) s t h).1)
amount-inside cap a (suc (suc zero)) s t below h = omega (arith, (legal-Some (leb a s) (s - a) t h).1)
amount-inside cap a (suc (suc (suc j))) s t below h = omega (arith, (legal-Some (ltb s a) s t h).1)
