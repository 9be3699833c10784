-- What a strike keeps of a list, and what it takes out.
use Rattle.std.proofs.Common.{◌≡◌, ℕ, zero, suc, ◌≤◌, Bool, true, false, not, cond, List, [], ◌∷◌, take, drop, refl, ap, inl, inr, length, arith}
use Rattle.std.specs.List.{filter, AllByRecursion}
use Rattle.std.proofs.lemmas.Bool.{cases_Bool}
use Rattle.type_table.proofs.Elements.{each-weaker}
use Rattle.object_trait.specs.Orders.{Pairs, SplitsInto, none, stay, goes}
use Rattle.object_trait.specs.Strike.{keep_first}
use Rattle.object_trait.specs.Laws.{KeepsFirst, StruckPart}

-- ---- a strike of one element more

-- what is so of whatever is kept of the rest, without the first element and with it, is so of what is kept
pub keep_first-next : {E : Type 0} (Q : List E → Type 0) (mine : E → Bool) (n : ℕ) (x : E) (V : List E) →
    ((m : ℕ) → Q (keep_first mine m V)) → ((m : ℕ) → Q (x ∷ keep_first mine m V)) → Q (keep_first mine n (x ∷ V))
keep_first-next Q mine n x V without with_it = by_test (mine x) n
  where
    by_test : (b : Bool) (k : ℕ) → Q (cond b (elim k [ zero ↦ keep_first mine zero V | suc m ↦ x ∷ keep_first mine m V ]) (x ∷ keep_first mine k V))
    by_test false k = with_it k
    by_test true zero = without zero
    by_test true (suc m) = with_it m

-- a strike that keeps all of mine keeps the list
pub keep_first-all : {E : Type 0} (mine : E → Bool) (V : List E) → keep_first mine (length (filter mine V)) V ≡ V
keep_first-all mine [] = refl
keep_first-all mine (e ∷ V) =
    elim (cases_Bool (mine e)) [
      | inl is ↦ rw is (ap (λ rest. e ∷ rest) (keep_first-all mine V))
      | inr isnt ↦ rw isnt (ap (λ rest. e ∷ rest) (keep_first-all mine V))
    ]

-- a strike leaves no more than there was
pub keep_first-length : {E : Type 0} (mine : E → Bool) (n : ℕ) (V : List E) → length (keep_first mine n V) ≤ length V
keep_first-length mine n [] = omega arith
keep_first-length mine n (x ∷ V) =
    keep_first-next (λ W. length W ≤ suc (length V)) mine n x V
    (λ m. let rest = keep_first-length mine m V in omega (arith, rest))
    (λ m. let rest = keep_first-length mine m V in omega (arith, rest))

-- ---- a strike, entry by entry

-- V is shuffled of K and S: K has the first n of mine and all others, and S has the others of mine
pub data Struck {E : Type 0} (mine : E → Bool) : ℕ → List E → List E → List E → Type 0 where
  ended : {n : ℕ} → Struck mine n [] [] []
  other : {n : ℕ} {e : E} {V K S : List E} → mine e ≡ false → Struck mine n V K S → Struck mine n (e ∷ V) (e ∷ K) S
  kept : {n : ℕ} {e : E} {V K S : List E} → mine e ≡ true → Struck mine n V K S → Struck mine (suc n) (e ∷ V) (e ∷ K) S
  struck : {e : E} {V K S : List E} → mine e ≡ true → Struck mine zero V K S → Struck mine zero (e ∷ V) K (e ∷ S)

-- `keep_first` keeps the one part, and the other has those of mine after the first n
pub strike : {E : Type 0} (mine : E → Bool) (n : ℕ) (V : List E) → Struck mine n V (keep_first mine n V) (drop n (filter mine V))
strike mine zero [] = ended
strike mine (suc n) [] = ended
strike mine zero (e ∷ V) =
    elim (cases_Bool (mine e)) [
      | inl is ↦ rw is (struck is (strike mine zero V))
      | inr isnt ↦ rw isnt (other isnt (strike mine zero V))
    ]
strike mine (suc n) (e ∷ V) =
    elim (cases_Bool (mine e)) [
      | inl is ↦ rw is (kept is (strike mine n V))
      | inr isnt ↦ rw isnt (other isnt (strike mine (suc n) V))
    ]

-- ---- what is kept

-- the first n of mine are kept
kept_mine : {E : Type 0} {mine : E → Bool} (n : ℕ) (V K S : List E) → Struck mine n V K S → filter mine K ≡ take n (filter mine V)
kept_mine zero _ _ _ ended = refl
kept_mine (suc n) _ _ _ ended = refl
kept_mine zero (e ∷ V) (_ ∷ K) S (other isnt s) = rw isnt (kept_mine zero V K S s)
kept_mine (suc n) (e ∷ V) (_ ∷ K) S (other isnt s) = rw isnt (kept_mine (suc n) V K S s)
kept_mine _ (e ∷ V) (_ ∷ K) S (kept {n = n} is s) = rw is (ap (λ rest. e ∷ rest) (kept_mine n V K S s))
kept_mine _ (e ∷ V) K (_ ∷ S) (struck is s) = kept_mine zero V K S s

-- a filter that none of mine passes keeps the same
pub kept_others : {E : Type 0} {mine test : E → Bool} → ((x : E) → mine x ≡ true → test x ≡ false) → (n : ℕ) (V K S : List E) → Struck mine n V K S → filter test K ≡ filter test V
kept_others apart _ _ _ _ ended = refl
kept_others {test = test} apart n (e ∷ V) (_ ∷ K) S (other isnt s) = ap (λ rest. cond (test e) (e ∷ rest) rest) (kept_others apart n V K S s)
kept_others {test = test} apart _ (e ∷ V) (_ ∷ K) S (kept {n = n} is s) = ap (λ rest. cond (test e) (e ∷ rest) rest) (kept_others apart n V K S s)
kept_others apart _ (e ∷ V) K (_ ∷ S) (struck is s) = rw (apart e is) (kept_others apart zero V K S s)

-- so `keep_first` changes nothing of what such a filter keeps
pub filter-keep_first : {E : Type 0} (mine test : E → Bool) → ((x : E) → mine x ≡ true → test x ≡ false) → (n : ℕ) (V : List E) → filter test (keep_first mine n V) ≡ filter test V
filter-keep_first mine test apart n V = kept_others apart n V (keep_first mine n V) (drop n (filter mine V)) (strike mine n V)

-- the law of what is kept
pub keeps-first : {E : Type 0} → KeepsFirst E
keeps-first = λ mine n V. (
  kept_mine n V (keep_first mine n V) (drop n (filter mine V)) (strike mine n V),
  filter-keep_first mine (λ e. not (mine e)) (λ x is. rw is) n V,
)

-- what holds of each element holds of each that is kept
kept_each : {E : Type 0} {mine : E → Bool} (P : E → Type 0) (n : ℕ) (V K S : List E) → Struck mine n V K S → AllByRecursion P V → AllByRecursion P K
kept_each P _ _ _ _ ended p = tt
kept_each P n (e ∷ V) (_ ∷ K) S (other isnt s) p = (p.0, kept_each P n V K S s p.1)
kept_each P _ (e ∷ V) (_ ∷ K) S (kept {n = n} is s) p = (p.0, kept_each P n V K S s p.1)
kept_each P _ (e ∷ V) K (_ ∷ S) (struck is s) p = kept_each P zero V K S s p.1

-- and so for pairs
kept_pairs : {E : Type 0} {mine : E → Bool} (R : E → E → Type 0) (n : ℕ) (V K S : List E) → Struck mine n V K S → Pairs R V → Pairs R K
kept_pairs R _ _ _ _ ended p = tt
kept_pairs R n (e ∷ V) (_ ∷ K) S (other isnt s) p = (kept_each (R e) n V K S s p.0, kept_pairs R n V K S s p.1)
kept_pairs R _ (e ∷ V) (_ ∷ K) S (kept {n = n} is s) p = (kept_each (R e) n V K S s p.0, kept_pairs R n V K S s p.1)
kept_pairs R _ (e ∷ V) K (_ ∷ S) (struck is s) p = kept_pairs R zero V K S s p.1

-- so what holds of each element holds of each after `keep_first`
pub each-keep_first : {E : Type 0} (P : E → Type 0) (mine : E → Bool) (n : ℕ) (V : List E) → AllByRecursion P V → AllByRecursion P (keep_first mine n V)
each-keep_first P mine n V = kept_each P n V (keep_first mine n V) (drop n (filter mine V)) (strike mine n V)

-- and what holds of pairs
pub pairs-keep_first : {E : Type 0} (R : E → E → Type 0) (mine : E → Bool) (n : ℕ) (V : List E) → Pairs R V → Pairs R (keep_first mine n V)
pairs-keep_first R mine n V = kept_pairs R n V (keep_first mine n V) (drop n (filter mine V)) (strike mine n V)

-- ---- what is struck

-- where none of mine is kept, what holds of each that isn't mine holds of each that is kept
others_each : {E : Type 0} {mine : E → Bool} (P : E → Type 0) (V K S : List E) → Struck mine zero V K S → AllByRecursion (λ b. mine b ≡ false → P b) V → AllByRecursion P K
others_each P _ _ _ ended p = tt
others_each P (e ∷ V) (_ ∷ K) S (other isnt s) p = (p.0 isnt, others_each P V K S s p.1)
others_each P (e ∷ V) K (_ ∷ S) (struck is s) p = others_each P V K S s p.1

-- what is struck may move after what is kept
strike_parts : {E : Type 0} {free : E → E → Bool} {mine : E → Bool} (n : ℕ) (V K S : List E) → Struck mine n V K S →
    Pairs (λ a b. mine a ≡ true → mine b ≡ false → free a b ≡ true) V → SplitsInto free V K S
strike_parts _ _ _ _ ended p = none
strike_parts n (e ∷ V) (_ ∷ K) S (other isnt s) p = stay (strike_parts n V K S s p.1)
strike_parts _ (e ∷ V) (_ ∷ K) S (kept {n = n} is s) p = stay (strike_parts n V K S s p.1)
strike_parts {free = free} _ (e ∷ V) K (_ ∷ S) (struck is s) p =
    goes (others_each (λ b. free e b ≡ true) V K S s (each-weaker (λ b passes. passes is) V p.0)) (strike_parts zero V K S s p.1)

-- the law of what is struck
pub struck-part : {E : Type 0} → StruckPart E
struck-part = λ free mine n V p. strike_parts n V (keep_first mine n V) (drop n (filter mine V)) (strike mine n V) p
