-- Operations of several transactions: how those of one, the serial order and the pending ones change.
use Rattle.std.proofs.Common.{◌≡◌, ℕ, Bool, true, false, cond, not, ◌&&◌, ◌||◌, ◌==◌, List, [], ◌∷◌, ◌++◌, filter, refl, sym, ap, ◌∙◌, inl, inr, append-nil}
use Rattle.std.proofs.Math.Bool.{or-false}
use Rattle.std.proofs.lemmas.Bool.{cases_Bool, or_parts, or_cases, eqb-true, false≢true}
use Rattle.std.proofs.lemmas.List.{map-append}
use Rattle.std.proofs.lemmas.Grind.{flat_map-append}
use Rattle.std.proofs.lemmas.List.Elements.{filter-append, filter_agree}
use Rattle.std.proofs.lemmas.List.Folds.{list_any-append}
use Rattle.type_table.proofs.Elements.{mine-within, eqb-sym}
use Rattle.object_trait.specs.Strike.{keep_first}
use Rattle.serial_order.specs.Operations.{is_among, is_by, ops, of, serial, pending}
use Rattle.serial_order.specs.declared.entry.Entry.{Entry}
use Rattle.serial_order.proofs.Strikes.{keep_first-others, keep_first-within}

-- ---- tests

-- what is one of two numbers that differ isn't the other
pub is_one-apart : (a t u : ℕ) → (t == u) ≡ false → (a == t) ≡ true → (a == u) ≡ false
is_one-apart a t u apart is = rw (eqb-true a t is) apart

-- what is t is none of these, where t is none of them
pub is_one-outside : (C : List ℕ) (a t : ℕ) → is_among C t ≡ false → (a == t) ≡ true → is_among C a ≡ false
is_one-outside C a t outside is = rw (eqb-true a t is) outside

-- one of these isn't a number that is none of them
pub is_among-apart : (C : List ℕ) (t u : ℕ) → is_among C t ≡ false → is_among C u ≡ true → (u == t) ≡ false
is_among-apart C t u outside inside =
    elim (cases_Bool (u == t)) [
      | inl is ↦ absurd (false≢true (sym (is_one-outside C u t outside is) ∙ inside))
      | inr other ↦ other
    ]

-- ---- filters

-- a filter of what another filter keeps keeps what passes both
pub both_filters : {E : Type 0} (first second : E → Bool) (V : List E) → filter (λ e. first e && second e) V ≡ filter second (filter first V)
both_filters first second [] = refl
both_filters first second (e ∷ V) =
    elim (cases_Bool (first e)) [
      | inl passes ↦ rw passes (ap (λ rest. cond (second e) (e ∷ rest) rest) (both_filters first second V))
      | inr fails ↦ rw fails (both_filters first second V)
    ]

-- a filter goes on with one more that passes
pub filter-more : {E : Type 0} (test : E → Bool) (V : List E) (e : E) → test e ≡ true → filter test (V ++ e ∷ []) ≡ filter test V ++ e ∷ []
filter-more test V e passes = filter-append test V (e ∷ []) ∙ ap (λ b. filter test V ++ cond b (e ∷ []) []) passes

-- and stays the same after one that doesn't
pub filter-apart : {E : Type 0} (test : E → Bool) (V : List E) (e : E) → test e ≡ false → filter test (V ++ e ∷ []) ≡ filter test V
filter-apart test V e fails = filter-append test V (e ∷ []) ∙ ap (λ b. filter test V ++ cond b (e ∷ []) []) fails ∙ append-nil (filter test V)

-- ---- the operations alone

-- those of two lists
pub ops-append : (V W : List Entry) → ops (V ++ W) ≡ ops V ++ ops W
ops-append V W = map-append (λ (e : Entry). e.op) V W

-- ---- one more transaction

-- a transaction is one of these and one more, where it is one of these or that one
pub is_among-snoc : (C : List ℕ) (t u : ℕ) → is_among (C ++ t ∷ []) u ≡ (is_among C u || t == u)
is_among-snoc C t u = list_any-append (λ v. v == u) C (t ∷ []) ∙ ap (λ b. is_among C u || b) (or-false (t == u))

-- what is neither one of these nor that one is none of these and one more
pub is_among-none_more : (C : List ℕ) (t u : ℕ) → is_among C u ≡ false → (t == u) ≡ false → is_among (C ++ t ∷ []) u ≡ false
is_among-none_more C t u outside other = rw (is_among-snoc C t u, outside) other

-- and the converse
pub is_among-neither : (C : List ℕ) (t u : ℕ) → is_among (C ++ t ∷ []) u ≡ false → (is_among C u ≡ false) × ((t == u) ≡ false)
is_among-neither C t u outside = or_parts (is_among C u) (t == u) (rw (is_among-snoc C t u) at outside)

-- what holds of that one, and of u where it is one of these, holds of u where it is one of these and one more
pub is_among-one_more : (C : List ℕ) (t u : ℕ) (P : ℕ → Type 0) → P t → (is_among C u ≡ true → P u) → is_among (C ++ t ∷ []) u ≡ true → P u
is_among-one_more C t u P here there inside =
    elim (or_cases (is_among C u) (t == u) (sym (is_among-snoc C t u) ∙ inside)) [
      | inl old ↦ there old
      | inr last ↦ rw (eqb-true t u last) at here
    ]

-- the serial order goes on with the operations of one more
pub serial-snoc : (C : List ℕ) (t : ℕ) (V : List Entry) → serial (C ++ t ∷ []) V ≡ serial C V ++ of t V
serial-snoc C t V = flat_map-append (λ u. of u V) C (t ∷ []) ∙ ap (λ rest. serial C V ++ rest) (append-nil (of t V))

-- those of all others but one more are, of the others, those that aren't its
pub pending-snoc : (C : List ℕ) (t : ℕ) (V : List Entry) → pending (C ++ t ∷ []) V ≡ filter (λ e. not (is_by t e)) (pending C V)
pending-snoc C t V =
    filter_agree (λ e. not (is_among (C ++ t ∷ []) e.by)) (λ e. not (is_among C e.by) && not (is_by t e)) neither V
    ∙ both_filters (λ e. not (is_among C e.by)) (λ e. not (is_by t e)) V
  where
    not-or : (a b : Bool) → not (a || b) ≡ (not a && not b)
    not-or true b = refl
    not-or false b = refl

    neither : (e : Entry) → not (is_among (C ++ t ∷ []) e.by) ≡ (not (is_among C e.by) && not (is_by t e))
    neither e = rw (is_among-snoc C t e.by, eqb-sym t e.by) (not-or (is_among C e.by) (is_by t e))

-- ---- one more operation

-- the operations of another transaction are the same
pub of-apart : (t : ℕ) (V : List Entry) (e : Entry) → (e.by == t) ≡ false → of t (V ++ e ∷ []) ≡ of t V
of-apart t = filter-apart (is_by t)

-- and those of its own go on with it
pub of-more : (t : ℕ) (V : List Entry) (e : Entry) → (e.by == t) ≡ true → of t (V ++ e ∷ []) ≡ of t V ++ e ∷ []
of-more t = filter-more (is_by t)

-- the serial order is the same after an operation of another transaction
pub serial-apart : (C : List ℕ) (V : List Entry) (e : Entry) → is_among C e.by ≡ false → serial C (V ++ e ∷ []) ≡ serial C V
serial-apart [] V e apart = refl
serial-apart (t ∷ C) V e apart =
    let parts = or_parts (t == e.by) (is_among C e.by) apart in
    rw (of-apart t V e (eqb-sym e.by t ∙ parts.0), serial-apart C V e parts.1) refl

-- which is one of the pending ones
pub pending-more : (C : List ℕ) (V : List Entry) (e : Entry) → is_among C e.by ≡ false → pending C (V ++ e ∷ []) ≡ pending C V ++ e ∷ []
pending-more C V e apart = filter-more (λ f. not (is_among C f.by)) V e (ap not apart)

-- the pending operations of a transaction that isn't one of these are its operations
pub of-pending : (C : List ℕ) (t : ℕ) (V : List Entry) → is_among C t ≡ false → of t (pending C V) ≡ of t V
of-pending C t V apart = mine-within (λ e. not (is_among C e.by)) (is_by t) V (λ e mine. ap not (is_one-outside C e.by t apart mine))

-- ---- a strike

-- the serial order is the same after a strike of another transaction
pub serial-strike : (C : List ℕ) (t n : ℕ) (V : List Entry) → is_among C t ≡ false → serial C (keep_first (is_by t) n V) ≡ serial C V
serial-strike [] t n V apart = refl
serial-strike (u ∷ C) t n V apart =
    let parts = or_parts (u == t) (is_among C t) apart in
    rw (keep_first-others (is_by u) (is_by t) n V (λ e mine. is_one-apart e.by t u (eqb-sym t u ∙ parts.0) mine), serial-strike C t n V parts.1) refl

-- and the pending ones are struck
pub pending-strike : (C : List ℕ) (t n : ℕ) (V : List Entry) → is_among C t ≡ false → pending C (keep_first (is_by t) n V) ≡ keep_first (is_by t) n (pending C V)
pending-strike C t n V apart = keep_first-within (λ e. not (is_among C e.by)) (is_by t) n V (λ e mine. ap not (is_one-outside C e.by t apart mine))
