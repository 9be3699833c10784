-- Loops over the log.
use Rattle.std.proofs.Common.{◌≡◌, ℕ, zero, suc, ◌+◌, ◌-◌, ◌<◌, ◌≤◌, Bool, true, false, not, cond, ◌||◌, eqb, ltb, List, [], ◌∷◌, ◌++◌, length, get_or, take, drop, set, refl, sym, ap, ◌∙◌, inl, inr, arith}
use mir.Val.{bool_byte}
use Rattle.std.specs.List.{filter, AllByRecursion}
use Rattle.std.proofs.lemmas.Bool.{cases_Bool, lt-ltb}
use Rattle.std.proofs.lemmas.List.{drop-drop, take_more_set, take-set, drop-set-lt, append_assoc, length-set}
use Rattle.type_table.proofs.Elements.{next_there}
use Rattle.object_trait.specs.Strike.{keep_first}
use Rattle.object_trait.specs.Meaning.{is_open_of, open_of}
use Rattle.object_trait.specs.declared.log_entry.LogEntry.{LogEntry}

-- ---- open entries

-- of open entries t's are those that name it
pub open-by : (t : ℕ) (log : List LogEntry) → AllByRecursion (λ e. e.done ≡ false) log → filter (λ (e : LogEntry). eqb e.by t) log ≡ open_of t log
open-by t [] flags = refl
open-by t (e ∷ log) flags = elim (cases_Bool (eqb e.by t)) [
  | inl is ↦ rw is (ap (λ V. e ∷ V) (open-by t log flags.1) ∙ sym (ap (λ done. cond (not done) (e ∷ open_of t log) (open_of t log)) flags.0))
  | inr isnt ↦ rw isnt (open-by t log flags.1)
]

-- and the others' are those that don't
pub others-by : (t : ℕ) (log : List LogEntry) → AllByRecursion (λ e. e.done ≡ false) log → filter (λ (e : LogEntry). not (eqb e.by t)) log ≡ filter (λ e. not (is_open_of t e)) log
others-by t [] flags = refl
others-by t (e ∷ log) flags = elim (cases_Bool (eqb e.by t)) [
  | inl is ↦ rw (is, flags.0) (others-by t log flags.1)
  | inr isnt ↦ rw isnt (ap (λ V. e ∷ V) (others-by t log flags.1))
]

-- ---- the first of mine stay

-- up to i the list has been gone through: those that stay are in the places before kept, and `left` of mine are still to stay
pub record IsKeeping (mine : LogEntry → Bool) (n : ℕ) (old new : List LogEntry) (kept i left : ℕ) : Type 0 where
  pub front : take kept new ++ keep_first mine left (drop i old) ≡ keep_first mine n old
  pub rest : drop i new ≡ drop i old
  pub behind : kept ≤ i
  pub long : length new ≡ length old

-- one more element goes to the first free place, and stays there, or not
pub keeping-more : (mine : LogEntry → Bool) (n : ℕ) (old new : List LogEntry) (kept i left stays took : ℕ) (e : LogEntry) → IsKeeping mine n old new kept i left → i < length new → e ≡ get_or new i e →
    stays ≡ bool_byte (not (mine e) || ltb 0 left) → took ≡ bool_byte (mine e) → IsKeeping mine n old (set new kept e) (kept + stays) (i + 1) (left - took)
keeping-more mine n old new kept i left stays took e h within read told taken =
    let long = h.long in
    let behind = h.behind in
    let next : drop i old ≡ e ∷ drop (i + 1) old = next_there old new i e h.rest (omega arith) read in
    let wanted : take kept new ++ keep_first mine left (e ∷ drop (i + 1) old) ≡ keep_first mine n old = ap (λ V. take kept new ++ keep_first mine left V) (sym next) ∙ h.front in
    let back : drop (i + 1) new ≡ drop (i + 1) old = sym (drop-drop 1 i new) ∙ ap (drop 1) h.rest ∙ drop-drop 1 i old in
    record {
      front = fits (mine e) left refl stays took told taken ∙ wanted;
      rest = drop-set-lt (i + 1) new kept e (omega arith) ∙ back;
      behind = let few = few_stay (not (mine e) || ltb 0 left) stays told in omega arith;
      long = length-set new kept e ∙ h.long;
    }
  where
    few_stay : (b : Bool) (s : ℕ) → s ≡ bool_byte b → s ≤ 1
    few_stay true s h = omega arith
    few_stay false s h = omega arith

    rest_of : List LogEntry
    rest_of = drop (i + 1) old

    put : (s : ℕ) → s ≡ 1 → take (kept + s) (set new kept e) ≡ take kept new ++ e ∷ []
    put s one =
        let more : kept + s ≡ kept + 1 = omega arith in
        let below = h.behind in
        ap (λ n. take n (set new kept e)) more ∙ take_more_set new kept e (omega (arith, below, within))

    fits : (b : Bool) (l : ℕ) → mine e ≡ b → (s u : ℕ) → s ≡ bool_byte (not b || ltb 0 l) → u ≡ bool_byte b →
        take (kept + s) (set new kept e) ++ keep_first mine (l - u) rest_of ≡ take kept new ++ keep_first mine l (e ∷ rest_of)
    fits true zero is s u hs hu =
        let same : kept + s ≡ kept = omega arith in
        let none : 0 - u ≡ 0 = omega arith in
        rw is (ap (λ n. take n (set new kept e) ++ keep_first mine (0 - u) rest_of) same ∙ ap (λ V. V ++ keep_first mine (0 - u) rest_of) (take-set new kept e) ∙ ap (λ n. take kept new ++ keep_first mine n rest_of) none)
    fits true (suc l) is s u hs hu =
        let less : suc l - u ≡ l = omega arith in
        rw is (ap (λ V. V ++ keep_first mine (suc l - u) rest_of) (put s (hs ∙ ap bool_byte (lt-ltb 0 (suc l) (omega arith)))) ∙ append_assoc (take kept new) (e ∷ []) (keep_first mine (suc l - u) rest_of) ∙ ap (λ n. take kept new ++ e ∷ keep_first mine n rest_of) less)
    fits false l isnt s u hs hu =
        let all : l - u ≡ l = omega arith in
        rw isnt (ap (λ V. V ++ keep_first mine (l - u) rest_of) (put s hs) ∙ append_assoc (take kept new) (e ∷ []) (keep_first mine (l - u) rest_of) ∙ ap (λ n. take kept new ++ e ∷ keep_first mine n rest_of) all)
