-- How many transactions are open: as many as any list has that names each of them once.
use Rattle.std.proofs.Common.{◌≡◌, ◌≤◌, ℕ, suc, Bool, true, false, not, eqb, ltb, ◌||◌, List, [], ◌∷◌, length, refl, sym, ap, ◌∙◌, inl, inr, arith}
use Rattle.std.specs.List.{filter, list_any, AllByRecursion}
use Rattle.std.proofs.lemmas.Bool.{cases_Bool, both_ways, true≢false, lt-ltb, eqb-true, eq-eqb, or_parts, or_left, and_right, not_from_true}
use Rattle.object_trait.specs.Meaning.{is_open_of}
use Rattle.object_trait.specs.Orders.{Pairs}
use Rattle.object_trait.specs.Steps.{open_transactions}
use Rattle.object_trait.specs.Laws.{OpensAreCounted}
use Rattle.object_trait.specs.declared.log_entry.LogEntry.{LogEntry}
use Rattle.object_trait.proofs.Lists.{pairs-filter}

-- ---- numbers that are listed once

-- b isn't a
abbrev Differ : ℕ → ℕ → Type 0
Differ a b = eqb b a ≡ false

-- whether a number is listed
abbrev lists : ℕ → List ℕ → Bool
lists x xs = list_any (λ y. eqb y x) xs

-- the list without a number
abbrev without : ℕ → List ℕ → List ℕ
without x xs = filter (λ y. not (eqb y x)) xs

-- a number that is none of a list's isn't listed
apart-unlisted : (x : ℕ) (xs : List ℕ) → AllByRecursion (Differ x) xs → lists x xs ≡ false
apart-unlisted x [] p = refl
apart-unlisted x (y ∷ xs) p = rw p.0 (apart-unlisted x xs p.1)

-- and the converse
unlisted-apart : (x : ℕ) (xs : List ℕ) → lists x xs ≡ false → AllByRecursion (Differ x) xs
unlisted-apart x [] e = tt
unlisted-apart x (y ∷ xs) e =
    let parts = or_parts (eqb y x) (lists x xs) e in
    (parts.0, unlisted-apart x xs parts.1)

-- nothing of it is taken out
without-none : (x : ℕ) (xs : List ℕ) → AllByRecursion (Differ x) xs → without x xs ≡ xs
without-none x [] p = refl
without-none x (y ∷ xs) p = rw p.0 (ap (λ rest. y ∷ rest) (without-none x xs p.1))

-- the number itself is gone
without-itself : (x : ℕ) (xs : List ℕ) → lists x (without x xs) ≡ false
without-itself x [] = refl
without-itself x (y ∷ xs) =
    elim (cases_Bool (eqb y x)) [
      | inl same ↦ rw same (without-itself x xs)
      | inr other ↦ simp other (without-itself x xs)
    ]

-- each other one is there still
without-others : (x z : ℕ) (xs : List ℕ) → eqb x z ≡ false → lists z (without x xs) ≡ lists z xs
without-others x z [] differ = refl
without-others x z (y ∷ xs) differ =
    elim (cases_Bool (eqb y x)) [
      | inl same ↦
          let apart : eqb y z ≡ false = rw (eqb-true y x same) differ in
          rw (apart, same) (without-others x z xs differ)
      | inr other ↦ rw other (ap (λ rest. eqb y z || rest) (without-others x z xs differ))
    ]

-- one number fewer
without-length : (x : ℕ) (xs : List ℕ) → Pairs Differ xs → lists x xs ≡ true → length xs ≡ suc (length (without x xs))
without-length x [] p is = absurd (true≢false (sym is))
without-length x (y ∷ xs) p is =
    elim (cases_Bool (eqb y x)) [
      | inl same ↦ rw same (ap (λ rest. suc (length rest)) (sym (without-none x xs (rw (eqb-true y x same) at p.0))))
      | inr other ↦ rw other (ap suc (without-length x xs p.1 (rw other at is)))
    ]

-- two lists of the same numbers, each listed once, are as long
same-length : (xs ys : List ℕ) → Pairs Differ xs → Pairs Differ ys → ((z : ℕ) → lists z xs ≡ lists z ys) → length xs ≡ length ys
same-length [] [] p q same = refl
same-length (x ∷ xs) [] p q same =
    let none : lists x (x ∷ xs) ≡ false = same x in
    let is : lists x (x ∷ xs) ≡ true = or_left (eqb x x) (lists x xs) (eq-eqb x x refl) in
    absurd (both_ways (lists x (x ∷ xs)) none is)
same-length xs (y ∷ ys) p q same =
    let is : lists y xs ≡ true = same y ∙ or_left (eqb y y) (lists y ys) (eq-eqb y y refl) in
    let rest : length (without y xs) ≡ length ys = same-length (without y xs) ys (pairs-filter Differ (λ z. not (eqb z y)) xs p) q.1 (λ z. left z) in
    without-length y xs p is ∙ ap suc rest
  where
    left : (z : ℕ) → lists z (without y xs) ≡ lists z ys
    left z =
        elim (cases_Bool (eqb y z)) [
          | inl here ↦ rw (sym (eqb-true y z here)) (without-itself y xs ∙ sym (apart-unlisted y ys q.0))
          | inr differ ↦ without-others y z xs differ ∙ (same z ∙ rw differ refl)
        ]

-- ---- open transactions

-- a transaction is listed where it has an open entry
open-lists : (t : ℕ) (log : List LogEntry) → lists t (open_transactions log) ≡ list_any (is_open_of t) log
open-lists t [] = refl
open-lists t (e ∷ log) =
    let rest : List ℕ = open_transactions log in
    elim (cases_Bool e.done) [
      | inl done ↦ rw (and_right (eqb e.by t) (not e.done) (not_from_true e.done done), done) (open-lists t log)
      | inr held ↦ elim (cases_Bool (lists e.by rest)) [
        | inl is ↦ elim (cases_Bool (eqb e.by t)) [
          | inl same ↦
              let here : lists t rest ≡ true = rw (eqb-true e.by t same) at is in
              simp (held, is, same, here) refl
          | inr other ↦ simp (held, is, other) (open-lists t log)
        ]
        | inr isnt ↦ elim (cases_Bool (eqb e.by t)) [
          | inl same ↦ simp (held, isnt, same) refl
          | inr other ↦ simp (held, isnt, other) (open-lists t log)
        ]
      ]
    ]

-- each is listed once
open-once : (log : List LogEntry) → Pairs Differ (open_transactions log)
open-once [] = tt
open-once (e ∷ log) =
    let rest = open_transactions log in
    elim (cases_Bool (e.done || lists e.by rest)) [
      | inl is ↦ rw is (open-once log)
      | inr isnt ↦ rw isnt (unlisted-apart e.by rest (or_parts e.done (lists e.by rest) isnt).1, open-once log)
    ]

-- there are no more of them than entries
open-length : (log : List LogEntry) → length (open_transactions log) ≤ length log
open-length [] = omega arith
open-length (e ∷ log) =
    let rest : length (open_transactions log) ≤ length log = open-length log in
    elim (cases_Bool (e.done || lists e.by (open_transactions log))) [
      | inl is ↦ rw is (omega arith)
      | inr isnt ↦ rw isnt (omega arith)
    ]

-- how many pass is more than none where one passes
some-pass : {E : Type 0} (test : E → Bool) (V : List E) → ltb 0 (length (filter test V)) ≡ list_any test V
some-pass test [] = refl
some-pass test (e ∷ V) =
    elim (cases_Bool (test e)) [
      | inl is ↦ simp is (lt-ltb 0 (suc (length (filter test V))) (omega arith))
      | inr isnt ↦ simp isnt (some-pass test V)
    ]

-- the law of open transactions: they are as many as a list that names each of them once, and no more than the log has entries
pub opens-counted : OpensAreCounted
opens-counted = λ log ts once who.
    let same : length ts ≡ length (open_transactions log) =
    same-length ts (open_transactions log) once (open-once log) (λ t. who t ∙ (some-pass (is_open_of t) log ∙ sym (open-lists t log))) in
    (same, rw same (open-length log))
