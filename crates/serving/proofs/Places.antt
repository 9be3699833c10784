-- Answers at the places of their lines.
use Rattle.serving.specs.Places.{TellsSuch, comes_late}
use Rattle.std.proofs.Common.{◌≡◌, ◌∙◌, ◌⊎◌, inl, inr, ℕ, suc, ◌+◌, ◌≤◌, Bool, true, false, ◌||◌, Option, None, Some, List, [], ◌∷◌, ◌++◌, length, drop, get_or, refl, sym, ap, subst, arith}
use Rattle.std.proofs.lemmas.List.{append-nil}
use Rattle.std.specs.Prelude.{MatchBool, if◌then◌else◌}
use Rattle.store_laws.specs.Stored.{Stored}
use Rattle.serving.specs.declared.answer_line.AnswerLine.TheVariants.{Extended}
use Rattle.serving.specs.declared.answer_line.Answered.{Answered}
use Rattle.serving.specs.declared.extension.Extension.{Extension}
use Rattle.serving.specs.NextEpoch.{answers_in, late_answer}
use Rattle.serving.specs.Told.{has_lasting, is_lasting}

-- what is claimed of a line and its answer holds of lasting answers alone
abbrev pub Lasts : (List ℕ → Answered → Type 0) → Type 0
Lasts P = (line : List ℕ) (a : Answered) → P line a → is_lasting a.answer ≡ true

-- one of two is so
or-right : (p q : Bool) → q ≡ true → (p || q) ≡ true
or-right true q it = refl
or-right false q it = it

-- what it says where an answer comes before others
abbrev TellsFrom : Bool → List ℕ → List (List ℕ) → Answered → List Answered → (List ℕ → Answered → Type 0) → Type 0
TellsFrom late line lines a answers P = MatchBool late (TellsSuch (line ∷ lines) answers P) (P line a ⊎ TellsSuch lines answers P)

pub told-has : (lines : List (List ℕ)) (answers : List Answered) (P : List ℕ → Answered → Type 0) (lasts : Lasts P) → TellsSuch lines answers P → has_lasting answers ≡ true
told-has [] answers P lasts told = absurd told
told-has (line ∷ lines) [] P lasts told = absurd told
told-has (line ∷ lines) (a ∷ answers) P lasts told = elim (comes_late a.answer) as (λ v. TellsFrom v line lines a answers P → (is_lasting a.answer || has_lasting answers) ≡ true) [
  | true ↦ λ later. or-right (is_lasting a.answer) (has_lasting answers) (told-has (line ∷ lines) answers P lasts later)
  | false ↦ λ now. elim now [
    | inl here ↦ ap (λ (v : Bool). v || has_lasting answers) (lasts line a here)
    | inr later ↦ or-right (is_lasting a.answer) (has_lasting answers) (told-has lines answers P lasts later)
  ]
] told

-- how many answers come in the order of their lines
abbrev pub in_turn : List Answered → ℕ
in_turn [] = 0
in_turn (a ∷ answers) = if comes_late a.answer then in_turn answers else suc (in_turn answers)

pub turn-append : (xs ys : List Answered) → in_turn (xs ++ ys) ≡ in_turn xs + in_turn ys
turn-append [] ys = omega arith
turn-append (a ∷ xs) ys = elim (comes_late a.answer) as (λ v. (if v then in_turn (xs ++ ys) else suc (in_turn (xs ++ ys))) ≡ (if v then in_turn xs else suc (in_turn xs)) + in_turn ys) [
  | true ↦ turn-append xs ys
  | false ↦ let more = turn-append xs ys in omega (arith, more)
]

pub turn-one : (a : Answered) → comes_late a.answer ≡ false → in_turn (a ∷ []) ≡ 1
turn-one a late = ap (λ (v : Bool). if v then 0 else 1) late

-- it is among the first answers, where no answer after them is lasting
pub told-first : (asked later : List (List ℕ)) (first others : List Answered) (P : List ℕ → Answered → Type 0) (lasts : Lasts P) → in_turn first ≤ length asked → has_lasting others ≡ false
    → TellsSuch (asked ++ later) (first ++ others) P → TellsSuch asked first P
told-first [] later [] others P lasts within none told = absurd (let it : true ≡ false = sym (told-has later others P lasts told) ∙ none in cc)
told-first (line ∷ asked) later [] others P lasts within none told = absurd (let it : true ≡ false = sym (told-has ((line ∷ asked) ++ later) others P lasts told) ∙ none in cc)
told-first [] [] (a ∷ first) others P lasts within none told = absurd told
told-first [] (l ∷ later) (a ∷ first) others P lasts within none told =
    elim (comes_late a.answer) as (λ v. (if v then in_turn first else suc (in_turn first)) ≤ 0 → TellsFrom v l later a (first ++ others) P → TellsSuch [] (a ∷ first) P) [
      | true ↦ λ few it. told-first [] (l ∷ later) first others P lasts few none it
      | false ↦ λ few it. absurd (omega (arith, few))
    ] within told
told-first (line ∷ asked) later (a ∷ first) others P lasts within none told =
    elim (comes_late a.answer) as (λ v. (if v then in_turn first else suc (in_turn first)) ≤ suc (length asked) → TellsFrom v line (asked ++ later) a (first ++ others) P → TellsFrom v line asked a first P) [
      | true ↦ λ few it. told-first (line ∷ asked) later first others P lasts few none it
      | false ↦ λ few it. elim it [ inl here ↦ inl here | inr more ↦ inr (told-first asked later first others P lasts (omega (arith, few)) none more) ]
    ] within told

-- one line more, with its answer
pub told-last : (lines : List (List ℕ)) (answers : List Answered) (line : List ℕ) (a : Answered) (P : List ℕ → Answered → Type 0) → length lines ≡ in_turn answers → comes_late a.answer ≡ false
    → TellsSuch (lines ++ line ∷ []) (answers ++ a ∷ []) P → TellsSuch lines answers P ⊎ P line a
told-last [] [] line a P same turn told =
    elim (subst (λ v. TellsFrom v line [] a [] P) turn told) [ inl here ↦ inr here | inr none ↦ absurd none ]
told-last (l ∷ lines) [] line a P same turn told = absurd (omega (arith, same))
told-last [] (b ∷ answers) line a P same turn told =
    elim (comes_late b.answer) as (λ v. 0 ≡ (if v then in_turn answers else suc (in_turn answers)) → TellsFrom v line [] b (answers ++ a ∷ []) P → TellsSuch [] (b ∷ answers) P ⊎ P line a) [
      | true ↦ λ few it. elim (told-last [] answers line a P few turn it) [ inl none ↦ absurd none | inr here ↦ inr here ]
      | false ↦ λ few it. absurd (omega (arith, few))
    ] same told
told-last (l ∷ lines) (b ∷ answers) line a P same turn told =
    elim (comes_late b.answer) as (λ v. suc (length lines) ≡ (if v then in_turn answers else suc (in_turn answers)) → TellsFrom v l (lines ++ line ∷ []) b (answers ++ a ∷ []) P → TellsFrom v l lines b answers P ⊎ P line a) [
      | true ↦ λ few it. told-last (l ∷ lines) answers line a P few turn it
      | false ↦ λ few it. elim it [
        | inl here ↦ inl (inl here)
        | inr later ↦ elim (told-last lines answers line a P (omega (arith, few)) turn later) [ inl before ↦ inl (inr before) | inr now ↦ inr now ]
      ]
    ] same told

-- a late one is to no line
told-late : (lines : List (List ℕ)) (answers : List Answered) (a : Answered) (P : List ℕ → Answered → Type 0) → comes_late a.answer ≡ true → TellsSuch lines (answers ++ a ∷ []) P → TellsSuch lines answers P
told-late [] answers a P late told = absurd told
told-late (line ∷ lines) [] a P late told = subst (λ v. TellsFrom v line lines a [] P) late told
told-late (line ∷ lines) (b ∷ answers) a P late told =
    elim (comes_late b.answer) as (λ v. TellsFrom v line lines b (answers ++ a ∷ []) P → TellsFrom v line lines b answers P) [
      | true ↦ λ it. told-late (line ∷ lines) answers a P late it
      | false ↦ λ it. elim it [ inl here ↦ inl here | inr later ↦ inr (told-late lines answers a P late later) ]
    ] told

pub told-epoch : (waits : Option Extension) (s : Stored) (lines : List (List ℕ)) (answers : List Answered) (P : List ℕ → Answered → Type 0) → TellsSuch lines (answers ++ answers_in (late_answer waits s)) P → TellsSuch lines answers P
told-epoch None s lines answers P told = subst (λ xs. TellsSuch lines xs P) (append-nil answers) told
told-epoch (Some e) s lines answers P told = told-late lines answers (record { tag = e.tag; answer = Extended (length s.types) }) P refl told

pub turn-epoch : (waits : Option Extension) (s : Stored) (answers : List Answered) → in_turn (answers ++ answers_in (late_answer waits s)) ≡ in_turn answers
turn-epoch None s answers = ap in_turn (append-nil answers)
turn-epoch (Some e) s answers =
    let none : in_turn (answers_in (late_answer (Some e) s)) ≡ 0 = refl in
    let all = turn-append answers (answers_in (late_answer (Some e) s)) in
    omega (arith, all, none)

pub told-longer : (lines later : List (List ℕ)) (answers : List Answered) (P : List ℕ → Answered → Type 0) → TellsSuch lines answers P → TellsSuch (lines ++ later) answers P
told-longer [] later answers P told = absurd told
told-longer (line ∷ lines) later [] P told = absurd told
told-longer (line ∷ lines) later (a ∷ answers) P told =
    elim (comes_late a.answer) as (λ v. TellsFrom v line lines a answers P → TellsFrom v line (lines ++ later) a answers P) [
      | true ↦ λ it. told-longer (line ∷ lines) later answers P it
      | false ↦ λ it. elim it [ inl here ↦ inl here | inr more ↦ inr (told-longer lines later answers P more) ]
    ] told

-- where no answer after these is lasting, it is one of these
pub told-done : (lines : List (List ℕ)) (answers waiting done others : List Answered) (P : List ℕ → Answered → Type 0) (lasts : Lasts P) → answers ++ waiting ≡ done ++ others → has_lasting (drop (length done) answers) ≡ false
    → TellsSuch lines answers P → TellsSuch lines done P
told-done [] answers waiting done others P lasts all none told = absurd told
told-done (line ∷ lines) [] waiting done others P lasts all none told = absurd told
told-done (line ∷ lines) (a ∷ answers) waiting [] others P lasts all none told = absurd (let it : true ≡ false = sym (told-has (line ∷ lines) (a ∷ answers) P lasts told) ∙ none in cc)
told-done (line ∷ lines) (a ∷ answers) waiting (d ∷ done) others P lasts all none told =
    let same : a ≡ d = ap (λ xs. get_or xs 0 a) all in
    let here : TellsSuch (line ∷ lines) (a ∷ done) P =
    elim (comes_late a.answer) as (λ v. TellsFrom v line lines a answers P → TellsFrom v line lines a done P) [
      | true ↦ λ it. told-done (line ∷ lines) answers waiting done others P lasts (ap (drop 1) all) none it
      | false ↦ λ it. elim it [ inl now ↦ inl now | inr later ↦ inr (told-done lines answers waiting done others P lasts (ap (drop 1) all) none later) ]
    ] told in
    subst (λ x. TellsSuch (line ∷ lines) (x ∷ done) P) same here
