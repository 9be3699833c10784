-- A loop that moves what stays to the front.
use Rattle.std.proofs.Common.{◌≡◌, ℕ, zero, suc, ◌+◌, ◌-◌, ◌*◌, ◌^◌, ◌%◌, ◌<◌, ◌≤◌, Bool, true, false, not, ◌||◌, List, [], ◌∷◌, ◌++◌, length, take, drop, get_or, set, bit_or, refl, sym, ap, subst, ◌∙◌, append_assoc, inl, inr, arith, All}
use Rattle.std.specs.Prelude.{nat_lt}
use Rattle.std.specs.Int.Bits.{or_zero_r}
use Rattle.std.proofs.Math.Nat.{eq-zero-or-pos}
use Rattle.std.proofs.lemmas.Bool.{cases_Bool, lt-ltb}
use Rattle.std.proofs.lemmas.List.{drop_more, drop-set-lt, take_more_set, take-set, length-set}
use Rattle.std.proofs.lemmas.List.Elements.{All-head, All-same, All-drop}
use Rattle.object_trait.specs.Strike.{keep_first}
use mir.Val.{bool_byte}
use Rattle.op_locks.specs.Locks.{is_held_by, stays_held, HasBits}
use Rattle.op_locks.proofs.Words.{HasBits-push}
use Rattle.op_locks.specs.declared.held.Held.{Held}

-- one of mine that stays, and one of another
keep_first-stays : {E : Type 0} (mine : E → Bool) (n : ℕ) (e : E) (V : List E) → mine e ≡ true → 0 < n → keep_first mine n (e ∷ V) ≡ e ∷ keep_first mine (n - 1) V
keep_first-stays mine zero e V is_mine some = absurd (omega arith)
keep_first-stays mine (suc n) e V is_mine some = let less : suc n - 1 ≡ n = omega arith in rw (is_mine, less) refl

keep_first-other : {E : Type 0} (mine : E → Bool) (n : ℕ) (e : E) (V : List E) → mine e ≡ false → keep_first mine n (e ∷ V) ≡ e ∷ keep_first mine n V
keep_first-other mine n e V is_other = rw is_other refl

-- one of mine that goes
keep_first-goes : {E : Type 0} (mine : E → Bool) (e : E) (V : List E) → mine e ≡ true → keep_first mine 0 (e ∷ V) ≡ keep_first mine 0 V
keep_first-goes mine e V is_mine = rw is_mine refl

-- ys began as xs. In its first places is what stays of xs before i, where `left` of t's may stay from i on
pub record Compacts (t first : ℕ) (xs ys : List Held) (left count word i : ℕ) : Type 0 where
  pub front : take count ys ++ keep_first (is_held_by t) left (drop i xs) ≡ keep_first (is_held_by t) first xs
  pub rest : drop i ys ≡ drop i xs
  pub behind : count ≤ i
  pub long : length ys ≡ length xs
  pub bits : HasBits word (take count ys)

-- e is read at i
module _ (t first : ℕ) (xs ys : List Held) (left count word i : ℕ) (e d : Held) (h : Compacts t first xs ys left count word i) (i_in : i < length ys) (is : e ≡ get_or ys i d) where
  rest_read : drop i xs ≡ e ∷ drop (i + 1) ys
  rest_read = sym h.rest ∙ drop_more ys i d i_in ∙ ap (λ x. x ∷ drop (i + 1) ys) (sym is)

  rest_more : drop (i + 1) ys ≡ drop (i + 1) xs
  rest_more =
      let here : drop i xs ≡ get_or xs i d ∷ drop (i + 1) xs = drop_more xs i d (omega (arith, h.long, i_in)) in
      let read : drop i xs ≡ e ∷ drop (i + 1) ys = rest_read in
      cc

  next : drop i xs ≡ e ∷ drop (i + 1) xs
  next = rest_read ∙ ap (λ rest. e ∷ rest) rest_more

  -- what holds of each element of xs
  pub Compacts-read : All (λ x. x.op < 64) xs → e.op < 64
  Compacts-read below =
      let P : Held → Type 0 = λ x. x.op < 64 in
      All-head P e (drop (i + 1) xs) (All-same P (e ∷ drop (i + 1) xs) (drop i xs) (sym next) (All-drop P i xs below))

  -- it stays, and moves to the front
  stays : (n : ℕ) → e.op < 64 → keep_first (is_held_by t) left (e ∷ drop (i + 1) xs) ≡ e ∷ keep_first (is_held_by t) n (drop (i + 1) xs) →
      Compacts t first xs (set ys count e) n (count + 1) (bit_or word (1 * 2 ^ e.op % 2 ^ 64)) (i + 1)
  stays n below kept =
      let more : take (count + 1) (set ys count e) ≡ take count ys ++ e ∷ [] = take_more_set ys count e (omega (arith, h.behind, i_in)) in
      let K : List Held = keep_first (is_held_by t) n (drop (i + 1) xs) in
      let whole : take count ys ++ keep_first (is_held_by t) left (drop i xs) ≡ take count ys ++ e ∷ K = ap (λ V. take count ys ++ V) (ap (keep_first (is_held_by t) left) next ∙ kept) in
      record {
        front = ap (λ V. V ++ K) more ∙ append_assoc (take count ys) (e ∷ []) K ∙ sym whole ∙ h.front;
        rest = drop-set-lt (i + 1) ys count e (omega (arith, h.behind)) ∙ rest_more;
        behind = omega (arith, h.behind);
        long = length-set ys count e ∙ h.long;
        bits = rw more (HasBits-push word (take count ys) e below h.bits);
      }

  pub Compacts-stays : e.op < 64 → is_held_by t e ≡ true → 0 < left → Compacts t first xs (set ys count e) (left - 1) (count + 1) (bit_or word (1 * 2 ^ e.op % 2 ^ 64)) (i + 1)
  Compacts-stays below mine some = stays (left - 1) below (keep_first-stays (is_held_by t) left e (drop (i + 1) xs) mine some)

  pub Compacts-other : e.op < 64 → is_held_by t e ≡ false → Compacts t first xs (set ys count e) left (count + 1) (bit_or word (1 * 2 ^ e.op % 2 ^ 64)) (i + 1)
  Compacts-other below other = stays left below (keep_first-other (is_held_by t) left e (drop (i + 1) xs) other)

  -- it goes, and is written where the next one that stays will be
  Compacts-goes : e.op < 64 → is_held_by t e ≡ true → left ≡ 0 → Compacts t first xs (set ys count e) 0 (count + 0) (bit_or word (0 * 2 ^ e.op % 2 ^ 64)) (i + 1)
  Compacts-goes below mine none =
      let here : count + 0 ≡ count = omega arith in
      let same : take (count + 0) (set ys count e) ≡ take count ys = ap (λ n. take n (set ys count e)) here ∙ take-set ys count e in
      let K : List Held = keep_first (is_held_by t) 0 (drop (i + 1) xs) in
      let gone : keep_first (is_held_by t) left (drop i xs) ≡ K = ap (λ n. keep_first (is_held_by t) n (drop i xs)) none ∙ ap (keep_first (is_held_by t) 0) next ∙ keep_first-goes (is_held_by t) e (drop (i + 1) xs) mine in
      let none_set : 0 * 2 ^ e.op % 2 ^ 64 ≡ 0 = omega arith in
      let word_is : bit_or word (0 * 2 ^ e.op % 2 ^ 64) ≡ word = ap (bit_or word) none_set ∙ or_zero_r word in
      record {
        front = ap (λ V. V ++ K) same ∙ ap (λ V. take count ys ++ V) (sym gone) ∙ h.front;
        rest = drop-set-lt (i + 1) ys count e (omega (arith, h.behind)) ∙ rest_more;
        behind = omega (arith, h.behind);
        long = length-set ys count e ∙ h.long;
        bits = rw (same, word_is) h.bits;
      }

  -- it stays or goes
  pub Compacts-next : e.op < 64 → (more bit own : ℕ) (stay : Bool) → stay ≡ stays_held t left e → more ≡ bool_byte stay → bit ≡ bool_byte stay → own ≡ bool_byte (is_held_by t e) →
      Compacts t first xs (set ys count e) (left - own) (count + more) (bit_or word (bit * 2 ^ e.op % 2 ^ 64)) (i + 1)
  Compacts-next below more bit own stay stay_is more_is bit_is own_is =
      let same : more ≡ bit = more_is ∙ sym bit_is in
      elim (cases_Bool (is_held_by t e)) [
        | inr other ↦
            let one : bit ≡ 1 = bit_is ∙ ap bool_byte (stay_is ∙ ap (λ b. not b || nat_lt 0 left) other) in
            let less : left - own ≡ left = omega (arith, own_is ∙ ap bool_byte other) in
            rw (same, one, less) (Compacts-other below other)
        | inl mine ↦
            let one_own : own ≡ 1 = own_is ∙ ap bool_byte mine in
            elim (eq-zero-or-pos left) [
              | inl none ↦
                  let gone : bit ≡ 0 = bit_is ∙ ap bool_byte (stay_is ∙ ap (λ b. not b || nat_lt 0 left) mine ∙ ap (λ n. nat_lt 0 n) none) in
                  let less : left - own ≡ 0 = omega (arith, none) in
                  rw (same, gone, less) (Compacts-goes below mine none)
              | inr some ↦
                  let one : bit ≡ 1 = bit_is ∙ ap bool_byte (stay_is ∙ ap (λ b. not b || nat_lt 0 left) mine ∙ lt-ltb 0 left some) in
                  rw (same, one, one_own) (Compacts-stays below mine some)
            ]
      ]

-- it stays or goes where none of t's may stay
pub Compacts-other_next : (t first : ℕ) (xs ys : List Held) (count word i : ℕ) (e d : Held) → Compacts t first xs ys 0 count word i → i < length ys → e ≡ get_or ys i d → e.op < 64 →
    (more bit : ℕ) (stay : Bool) → stay ≡ stays_held t 0 e → more ≡ bool_byte stay → bit ≡ bool_byte stay →
    Compacts t first xs (set ys count e) 0 (count + more) (bit_or word (bit * 2 ^ e.op % 2 ^ 64)) (i + 1)
Compacts-other_next t first xs ys count word i e d h i_in is below more bit stay stay_is more_is bit_is =
    let own : ℕ = bool_byte (is_held_by t e) in
    let none : 0 - own ≡ 0 = omega arith in
    subst (λ left. Compacts t first xs (set ys count e) left (count + more) (bit_or word (bit * 2 ^ e.op % 2 ^ 64)) (i + 1)) none
    (Compacts-next t first xs ys 0 count word i e d h i_in is below more bit own stay stay_is more_is bit_is refl)
