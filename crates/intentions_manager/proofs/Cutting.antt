-- A loop that takes a transaction's entries out of a log: what stays moves to the front.
use Rattle.std.proofs.Common.{◌≡◌, ℕ, zero, suc, ◌+◌, ◌-◌, ◌*◌, ◌^◌, ◌%◌, ◌<◌, ◌≤◌, Bool, true, false, not, ◌||◌, List, [], ◌∷◌, ◌++◌, length, get_or, take, drop, set, bit_or, refl, sym, ap, subst, ◌∙◌, append_assoc, inl, inr, arith}
use mir.Val.{bool_byte}
use Rattle.std.specs.Prelude.{nat_lt}
use Rattle.std.specs.Int.Bits.{or_zero_r}
use Rattle.std.proofs.Math.Nat.{eq-zero-or-pos}
use Rattle.std.proofs.lemmas.Bool.{cases_Bool, lt-ltb}
use Rattle.std.proofs.lemmas.List.{drop-drop, drop-set-lt, take_more_set, take-set, length-set}
use Rattle.type_table.proofs.Elements.{next_there}
use Rattle.object_trait.specs.Strike.{keep_first}
use Rattle.object_trait.specs.declared.log_entry.LogEntry.{LogEntry}
use Rattle.intentions_manager.specs.Kept.{LogHasBits}
use Rattle.intentions_manager.proofs.Bits.{bits-set}

-- new began as old. In its first places is what stays of old before i, where `left` of mine may stay from i on
pub record IsCut (mine : LogEntry → Bool) (first : ℕ) (old new : List LogEntry) (left count word i : ℕ) : Type 0 where
  pub front : take count new ++ keep_first mine left (drop i old) ≡ keep_first mine first old
  pub rest : drop i new ≡ drop i old
  pub behind : count ≤ i
  pub long : length new ≡ length old
  pub bits : LogHasBits word (take count new)

-- of a list that begins with one of mine, and of one that begins with another's
first-mine : (mine : LogEntry → Bool) (n : ℕ) (e : LogEntry) (V : List LogEntry) → mine e ≡ true → 0 < n → keep_first mine n (e ∷ V) ≡ e ∷ keep_first mine (n - 1) V
first-mine mine zero e V is some = absurd (omega arith)
first-mine mine (suc n) e V is some = let less : suc n - 1 ≡ n = omega arith in rw (is, less) refl

first-other : (mine : LogEntry → Bool) (n : ℕ) (e : LogEntry) (V : List LogEntry) → mine e ≡ false → keep_first mine n (e ∷ V) ≡ e ∷ keep_first mine n V
first-other mine n e V isnt = rw isnt refl

first-none : (mine : LogEntry → Bool) (e : LogEntry) (V : List LogEntry) → mine e ≡ true → keep_first mine 0 (e ∷ V) ≡ keep_first mine 0 V
first-none mine e V is = rw is refl

-- e is at i
module _ (mine : LogEntry → Bool) (first : ℕ) (old new : List LogEntry) (left count word i : ℕ) (e : LogEntry) (cut : IsCut mine first old new left count word i) (within : i < length new) (read : e ≡ get_or new i e) where
  next : drop i old ≡ e ∷ drop (i + 1) old
  next = let long = cut.long in next_there old new i e cut.rest (omega (arith, long, within)) read

  back : drop (i + 1) new ≡ drop (i + 1) old
  back = sym (drop-drop 1 i new) ∙ ap (drop 1) cut.rest ∙ drop-drop 1 i old

  -- it stays, and moves to the front
  moved : (n k : ℕ) → k ≡ e.op → k < 64 → keep_first mine left (e ∷ drop (i + 1) old) ≡ e ∷ keep_first mine n (drop (i + 1) old) →
      IsCut mine first old (set new count e) n (count + 1) (bit_or word (1 * 2 ^ k % 2 ^ 64)) (i + 1)
  moved n k op low kept =
      let behind = cut.behind in
      let more : take (count + 1) (set new count e) ≡ take count new ++ e ∷ [] = take_more_set new count e (omega (arith, behind, within)) in
      let K : List LogEntry = keep_first mine n (drop (i + 1) old) in
      let whole : take count new ++ keep_first mine left (drop i old) ≡ take count new ++ e ∷ K = ap (λ V. take count new ++ V) (ap (keep_first mine left) next ∙ kept) in
      record {
        front = ap (λ V. V ++ K) more ∙ append_assoc (take count new) (e ∷ []) K ∙ sym whole ∙ cut.front;
        rest = drop-set-lt (i + 1) new count e (omega (arith, behind)) ∙ back;
        behind = omega (arith, behind);
        long = length-set new count e ∙ cut.long;
        bits = subst (LogHasBits (bit_or word (1 * 2 ^ k % 2 ^ 64))) (sym more) (bits-set word (take count new) e k op low cut.bits);
      }

  -- it isn't mine
  pub cut-other : (k : ℕ) → k ≡ e.op → k < 64 → mine e ≡ false → IsCut mine first old (set new count e) left (count + 1) (bit_or word (1 * 2 ^ k % 2 ^ 64)) (i + 1)
  cut-other k op low isnt = moved left k op low (first-other mine left e (drop (i + 1) old) isnt)

  -- it is mine, and none of mine stays any more
  gone : mine e ≡ true → left ≡ 0 → take count new ++ keep_first mine 0 (drop (i + 1) old) ≡ keep_first mine first old
  gone is none =
      ap (λ V. take count new ++ V) (sym (ap (λ n. keep_first mine n (drop i old)) none ∙ ap (keep_first mine 0) next ∙ first-none mine e (drop (i + 1) old) is)) ∙ cut.front

  pub cut-mine : mine e ≡ true → left ≡ 0 → IsCut mine first old new 0 count word (i + 1)
  cut-mine is none = let behind = cut.behind in record {
    front = gone is none;
    rest = back;
    behind = omega (arith, behind);
    long = cut.long;
    bits = cut.bits;
  }

  -- the same where it is written, but not kept
  passed : (k : ℕ) → mine e ≡ true → left ≡ 0 → IsCut mine first old (set new count e) 0 (count + 0) (bit_or word (0 * 2 ^ k % 2 ^ 64)) (i + 1)
  passed k is none =
      let behind = cut.behind in
      let here : count + 0 ≡ count = omega arith in
      let same : take count (set new count e) ≡ take count new = take-set new count e in
      let none_set : 0 * 2 ^ k % 2 ^ 64 ≡ 0 = omega arith in
      let word_is : bit_or word (0 * 2 ^ k % 2 ^ 64) ≡ word = ap (bit_or word) none_set ∙ or_zero_r word in
      rw (here, word_is)
      (record {
        front = ap (λ V. V ++ keep_first mine 0 (drop (i + 1) old)) same ∙ gone is none;
        rest = drop-set-lt (i + 1) new count e (omega (arith, behind)) ∙ back;
        behind = omega (arith, behind);
        long = length-set new count e ∙ cut.long;
        bits = subst (LogHasBits word) (sym same) cut.bits;
      })

  -- it stays or goes
  pub cut-next : (k more bit own : ℕ) (stay : Bool) → k ≡ e.op → k < 64 → stay ≡ (not (mine e) || nat_lt 0 left) → more ≡ bool_byte stay → bit ≡ bool_byte stay → own ≡ bool_byte (mine e) →
      IsCut mine first old (set new count e) (left - own) (count + more) (bit_or word (bit * 2 ^ k % 2 ^ 64)) (i + 1)
  cut-next k more bit own stay op low stay_is more_is bit_is own_is =
      let same : more ≡ bit = more_is ∙ sym bit_is in
      elim (cases_Bool (mine e)) [
        | inr other ↦
            let one : bit ≡ 1 = bit_is ∙ ap bool_byte (stay_is ∙ ap (λ b. not b || nat_lt 0 left) other) in
            let less : left - own ≡ left = omega (arith, own_is ∙ ap bool_byte other) in
            rw (same, one, less) (cut-other k op low other)
        | inl is ↦
            let one_own : own ≡ 1 = own_is ∙ ap bool_byte is in
            elim (eq-zero-or-pos left) [
              | inl none ↦
                  let bit_gone : bit ≡ 0 = bit_is ∙ ap bool_byte (stay_is ∙ ap (λ b. not b || nat_lt 0 left) is ∙ ap (λ n. nat_lt 0 n) none) in
                  let less : left - own ≡ 0 = omega (arith, none) in
                  rw (same, bit_gone, less) (passed k is none)
              | inr some ↦
                  let one : bit ≡ 1 = bit_is ∙ ap bool_byte (stay_is ∙ ap (λ b. not b || nat_lt 0 left) is ∙ lt-ltb 0 left some) in
                  rw (same, one, one_own) (moved (left - 1) k op low (first-mine mine left e (drop (i + 1) old) is some))
            ]
      ]

-- it stays or goes, where none of mine stays
pub cut-next_none : (mine : LogEntry → Bool) (old new : List LogEntry) (count word i : ℕ) (e : LogEntry) → IsCut mine 0 old new 0 count word i → i < length new → e ≡ get_or new i e →
    (k more bit : ℕ) (stay : Bool) → k ≡ e.op → k < 64 → stay ≡ not (mine e) → more ≡ bool_byte stay → bit ≡ bool_byte stay →
    IsCut mine 0 old (set new count e) 0 (count + more) (bit_or word (bit * 2 ^ k % 2 ^ 64)) (i + 1)
cut-next_none mine old new count word i e cut within read k more bit stay op low stay_is more_is bit_is =
    let own : ℕ = bool_byte (mine e) in
    let none : 0 - own ≡ 0 = omega arith in
    subst (λ left. IsCut mine 0 old (set new count e) left (count + more) (bit_or word (bit * 2 ^ k % 2 ^ 64)) (i + 1)) none
    (cut-next mine 0 old new 0 count word i e cut within read k more bit own stay op low (stay_is ∙ or_none (mine e)) more_is bit_is refl)
  where
    or_none : (b : Bool) → not b ≡ (not b || nat_lt 0 0)
    or_none true = refl
    or_none false = refl
