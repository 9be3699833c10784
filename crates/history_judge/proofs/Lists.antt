-- Lists: what is at a place, and the operations of a transaction at an object.
use Rattle.std.proofs.Common.{◌≡◌, ◌≢◌, ℕ, zero, suc, ◌≤◌, Bool, true, false, cond, ◌||◌, ◌==◌, List, [], ◌∷◌, ◌++◌, length, map, filter, take, Some, slice_get, refl, sym, ap, subst, ◌∙◌, inl, inr, append-nil, arith}
use Rattle.std.proofs.lemmas.Bool.{cases_Bool, eq-eqb, false≢true}
use Rattle.std.proofs.lemmas.List.{map-append}
use Rattle.std.proofs.lemmas.List.Elements.{filter-append}
use Rattle.std.proofs.lemmas.Option.{none-some, same_Some}
use Rattle.type_table.proofs.Elements.{filter-turned}
use Rattle.serial_order.specs.Operations.{is_among, ops, at_object, is_by, of, serial}
use Rattle.serial_order.specs.declared.entry.Entry.{Entry}
use Rattle.history_judge.specs.Rows.{executed_of}
use Rattle.history_judge.specs.declared.executed.Executed.{Executed}
use Rattle.history_judge.specs.Replay.{ops_at}

-- ---- what is at a place

-- the first ones, and one after them
pub take-and_next : {X : Type 0} (xs : List X) (y : X) (ys : List X) → take (suc (length xs)) (xs ++ y ∷ ys) ≡ xs ++ y ∷ []
take-and_next [] y ys = refl
take-and_next (x ∷ xs) y ys = ap (λ rest. x ∷ rest) (take-and_next xs y ys)

-- what is at a place of a list that is as long
pub found : {A B : Type 0} (xs : List A) (ys : List B) (x : ℕ) (a : A) → length ys ≡ length xs → slice_get xs x ≡ Some a → (b : B) × (slice_get ys x ≡ Some b)
found [] ys x a same at = absurd (none-some a at)
found (z ∷ xs) [] x a same at = absurd (omega (arith, same))
found (z ∷ xs) (b ∷ ys) zero a same at = (b, refl)
found (z ∷ xs) (b ∷ ys) (suc x) a same at = found xs ys x a (omega (arith, same)) at

-- a number that isn't another one
pub apart : (a b : ℕ) → (a == b) ≡ false → a ≢ b
apart a b other e = false≢true (sym other ∙ eq-eqb a b e)

-- ---- transactions and their operations

-- what is one of the rest is one of all
pub among-rest : (b c : Bool) → c ≡ true → (b || c) ≡ true
among-rest true c is = refl
among-rest false c is = is

-- what is at a place is among them
pub among-at : (C : List ℕ) (i u : ℕ) → slice_get C i ≡ Some u → is_among C u ≡ true
among-at [] i u at = absurd (none-some u at)
among-at (t ∷ C) zero u at = rw (eq-eqb t u (same_Some t u at)) refl
among-at (t ∷ C) (suc i) u at = among-rest (t == u) (is_among C u) (among-at C i u at)

-- and so is one of the first ones
pub among-take : (C : List ℕ) (i u : ℕ) → is_among (take i C) u ≡ true → is_among C u ≡ true
among-take [] zero u is = is
among-take [] (suc i) u is = is
among-take (t ∷ C) zero u is = absurd (false≢true is)
among-take (t ∷ C) (suc i) u is =
    elim (cases_Bool (t == u)) [
      | inl here ↦ rw here refl
      | inr other ↦ among-rest (t == u) (is_among C u) (among-take C i u (rw other at is))
    ]

-- the serial order is the same where each transaction's operations are
pub serial-same : (C : List ℕ) (V W : List Entry) → ((u : ℕ) → is_among C u ≡ true → of u V ≡ of u W) → serial C V ≡ serial C W
serial-same [] V W same = refl
serial-same (t ∷ C) V W same =
    ap (λ front. front ++ serial C V) (same t (rw (eq-eqb t t refl) refl))
    ∙ ap (λ rest. of t W ++ rest) (serial-same C V W (λ u is. same u (among-rest (t == u) (is_among C u) is)))

-- the operations at an object, without their transactions
plain-ops : (x : ℕ) (W : List Entry) → ops (at_object x W) ≡ ops_at x (map executed_of W)
plain-ops x [] = refl
plain-ops x (e ∷ W) =
    elim (cases_Bool (e.at == x)) [
      | inl is ↦ rw is (ap (λ rest. e.op ∷ rest) (plain-ops x W))
      | inr isnt ↦ rw isnt (plain-ops x W)
    ]

pub own-ops : (x t : ℕ) (V : List Entry) → ops (of t (at_object x V)) ≡ ops_at x (map executed_of (of t V))
own-ops x t V = ap ops (filter-turned (is_by t) (λ e. e.at == x) V) ∙ plain-ops x (of t V)

-- one more operation at the object
pub ops_at-here : (x : ℕ) (its : List Executed) (o : Executed) → (o.x == x) ≡ true → ops_at x (its ++ o ∷ []) ≡ ops_at x its ++ o.k ∷ []
ops_at-here x its o is =
    ap (map (λ (p : Executed). p.k)) (filter-append (λ (p : Executed). p.x == x) its (o ∷ []) ∙ ap (λ b. filter (λ (p : Executed). p.x == x) its ++ cond b (o ∷ []) []) is)
    ∙ map-append (λ (p : Executed). p.k) (filter (λ (p : Executed). p.x == x) its) (o ∷ [])

-- and one at another
pub ops_at-apart : (x : ℕ) (its : List Executed) (o : Executed) → (o.x == x) ≡ false → ops_at x (its ++ o ∷ []) ≡ ops_at x its
ops_at-apart x its o isnt =
    ap (map (λ (p : Executed). p.k)) (filter-append (λ (p : Executed). p.x == x) its (o ∷ []) ∙ ap (λ b. filter (λ (p : Executed). p.x == x) its ++ cond b (o ∷ []) []) isnt)
    ∙ map-append (λ (p : Executed). p.k) (filter (λ (p : Executed). p.x == x) its) []
    ∙ append-nil (ops_at x its)

-- the operations at the object before one of them, it, and those after it
pub ops_at-split : (x : ℕ) (its : List Executed) (p : ℕ) (o : Executed) → slice_get its p ≡ Some o → (o.x == x) ≡ true → (rest : List ℕ) × (ops_at x its ≡ ops_at x (take p its) ++ o.k ∷ rest)
ops_at-split x [] p o at is = absurd (none-some o at)
ops_at-split x (a ∷ its) zero o at is =
    let P : Executed → Type 0 = λ b. ops_at x (b ∷ its) ≡ o.k ∷ ops_at x its in
    (ops_at x its, subst P (sym (same_Some a o at)) (rw is refl))
ops_at-split x (a ∷ its) (suc p) o at is =
    let (rest, same) = ops_at-split x its p o at is in (
      rest,
      elim (cases_Bool (a.x == x)) [
        | inl here ↦ rw here (ap (λ l. a.k ∷ l) same)
        | inr other ↦ rw other same
      ],
    )

-- of the first n operations no more than n are at the object
pub ops_at-few : (x : ℕ) (its : List Executed) (n : ℕ) → length (ops_at x (take n its)) ≤ n
ops_at-few x its zero = omega arith
ops_at-few x [] (suc n) = omega arith
ops_at-few x (o ∷ its) (suc n) =
    let less = ops_at-few x its n in
    elim (cases_Bool (o.x == x)) [
      | inl is ↦ rw is (omega (arith, less))
      | inr isnt ↦ rw isnt (omega (arith, less))
    ]
