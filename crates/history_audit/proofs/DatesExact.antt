-- The date of a transaction: exactly those that had committed by then precede it.
use Rattle.std.proofs.Common.{◌≡◌, ℕ, zero, suc, ◌==◌, ◌+◌, ◌≤◌, Bool, true, false, not, ◌&&◌, nat_lt, List, [], ◌∷◌, ◌++◌, length, take, ◌⊎◌, refl, sym, ap, subst, ◌∙◌, inl, inr, append-nil, append_assoc, length-append, arith}
use Rattle.std.specs.Prelude.{if◌then◌else◌, max}
use Rattle.std.proofs.lemmas.Bool.Decides.{nat_tests}
use Rattle.std.proofs.lemmas.Bool.{cases_Bool, false≢true, or_parts}
use Rattle.std.proofs.lemmas.List.{take-append-le, take_all}
use Rattle.std.proofs.lemmas.List.Folds.{list_any-append}
use Rattle.object_trait.specs.declared.event.Event.{Event}
use Rattle.serial_order.specs.Operations.{is_among}
use Rattle.serial_order.specs.History.{commits, committed_by, aborts, aborted_by}
use Rattle.serial_order.specs.Readings.{is_op_of, is_rolled_back, stays}
use Rattle.history_audit.specs.OrderTests.{IsDate}
use Rattle.history_audit.specs.Dates.{date_from}
use Rattle.history_judge.proofs.Lists.{among-rest}

-- ---- the first of some transactions

-- one of the first is one of more
pub among-more : (C : List ℕ) (a b t : ℕ) → a ≤ b → is_among (take a C) t ≡ true → is_among (take b C) t ≡ true
among-more C zero b t less is = absurd (false≢true is)
among-more [] (suc a) b t less is = absurd (false≢true is)
among-more (c ∷ C) (suc a) zero t less is = absurd (omega (arith, less))
among-more (c ∷ C) (suc a) (suc b) t less is =
    elim (cases_Bool (c == t)) [
      | inl here ↦ rw here refl
      | inr other ↦ among-rest (c == t) (is_among (take b C) t) (among-more C a b t (omega (arith, less)) (rw other at is))
    ]

-- ---- some events, where C committed before them

-- t precedes u by an operation among these events
record PrecedesFrom (C : List ℕ) (K : List Event) (t u : ℕ) : Type 0 where
  pub before : List Event
  pub happened : Event
  pub after : List Event
  pub whole : K ≡ before ++ happened ∷ after
  pub ended : is_among (C ++ commits before) t ≡ true
  pub operation : is_op_of u happened.kind ≡ true
  pub survives : stays u after ≡ true

-- exactly the first so many that committed
record IsDateFrom (C : List ℕ) (K : List Event) (u date : ℕ) : Type 0 where
  pub inside : date ≤ length (C ++ commits K)
  pub to : (t : ℕ) → PrecedesFrom C K t u → is_among (take date (C ++ commits K)) t ≡ true
  pub from : (t : ℕ) → is_among (take date (C ++ commits K)) t ≡ true → PrecedesFrom C K t u

module _ (C : List ℕ) (e : Event) (K : List Event) (u : ℕ) where
  -- by a later event
  later : (t : ℕ) → PrecedesFrom (C ++ committed_by e.kind) K t u → PrecedesFrom C (e ∷ K) t u
  later t p = record {
    before = e ∷ p.before;
    happened = p.happened;
    after = p.after;
    whole = ap (λ rest. e ∷ rest) p.whole;
    ended = ap (λ D. is_among D t) (sym (append_assoc C (committed_by e.kind) (commits p.before))) ∙ p.ended;
    operation = p.operation;
    survives = p.survives;
  }

  -- by this one
  record IsBy (t : ℕ) : Type 0 where
    pub ended : is_among C t ≡ true
    pub operation : is_op_of u e.kind ≡ true
    pub survives : stays u K ≡ true

  now : (t : ℕ) → IsBy t → PrecedesFrom C (e ∷ K) t u
  now t b = record {
    before = [];
    happened = e;
    after = K;
    whole = refl;
    ended = ap (λ D. is_among D t) (append-nil C) ∙ b.ended;
    operation = b.operation;
    survives = b.survives;
  }

  -- and by no other
  either-at : (t : ℕ) (before : List Event) (happened : Event) (after : List Event) → e ∷ K ≡ before ++ happened ∷ after → is_among (C ++ commits before) t ≡ true
      → is_op_of u happened.kind ≡ true → stays u after ≡ true → IsBy t ⊎ PrecedesFrom (C ++ committed_by e.kind) K t u
  either-at t [] happened after whole ended operation survives =
      let first : e ≡ happened = cc in
      let rest : K ≡ after = cc in
      inl (record {
        ended = ap (λ D. is_among D t) (sym (append-nil C)) ∙ ended;
        operation = ap (λ (f : Event). is_op_of u f.kind) first ∙ operation;
        survives = ap (stays u) rest ∙ survives;
      })
  either-at t (b ∷ before) happened after whole ended operation survives =
      let first : e ≡ b = cc in
      let rest : K ≡ before ++ happened ∷ after = cc in
      inr (record {
        before = before;
        happened = happened;
        after = after;
        whole = rest;
        ended = ap (λ D. is_among D t) (append_assoc C (committed_by e.kind) (commits before) ∙ ap (λ (f : Event). C ++ (committed_by f.kind ++ commits before)) first) ∙ ended;
        operation = operation;
        survives = survives;
      })

  either : (t : ℕ) → PrecedesFrom C (e ∷ K) t u → IsBy t ⊎ PrecedesFrom (C ++ committed_by e.kind) K t u
  either t p = either-at t p.before p.happened p.after p.whole p.ended p.operation p.survives

  -- all that commit
  all : List ℕ
  all = C ++ commits (e ∷ K)

  all_are : (C ++ committed_by e.kind) ++ commits K ≡ C ++ commits (e ∷ K)
  all_are = append_assoc C (committed_by e.kind) (commits K)

  first-are : take (length C) (C ++ commits (e ∷ K)) ≡ C
  first-are = take-append-le (length C) C (commits (e ∷ K)) (omega arith) ∙ take_all (length C) C (omega arith)

  module _ (r : ℕ) (rest : IsDateFrom (C ++ committed_by e.kind) K u r) where
    rest-inside : r ≤ length (C ++ commits (e ∷ K))
    rest-inside = rw all_are at rest.inside

    rest-to : (t : ℕ) → PrecedesFrom (C ++ committed_by e.kind) K t u → is_among (take r (C ++ commits (e ∷ K))) t ≡ true
    rest-to t p = ap (λ D. is_among (take r D) t) (sym all_are) ∙ rest.to t p

    rest-from : (t : ℕ) → is_among (take r (C ++ commits (e ∷ K))) t ≡ true → PrecedesFrom C (e ∷ K) t u
    rest-from t is = later t (rest.from t (ap (λ D. is_among (take r D) t) all_are ∙ is))

    -- where the event is an operation of u that survives
    dated-now : is_op_of u e.kind ≡ true → stays u K ≡ true → IsDateFrom C (e ∷ K) u (max (length C) r)
    dated-now operation survives = record {
      inside = let longer = length-append C (commits (e ∷ K)) in let whole = rest-inside in omega (arith, longer, whole);
      to = λ t p. elim (either t p) [
        | inl b ↦ among-more (C ++ commits (e ∷ K)) (length C) (max (length C) r) t (omega arith) (ap (λ D. is_among D t) first-are ∙ b.ended)
        | inr q ↦ among-more (C ++ commits (e ∷ K)) r (max (length C) r) t (omega arith) (rest-to t q)
      ];
      from = λ t is. elim (cases_Bool (nat_lt r (length C))) [
        | inl less ↦
            let most : max (length C) r ≡ length C = grind (arith, nat_tests, less) in
            now t (record { ended = ap (λ D. is_among D t) (sym first-are) ∙ ap (λ n. is_among (take n (C ++ commits (e ∷ K))) t) (sym most) ∙ is; operation = operation; survives = survives })
        | inr more ↦
            let most : max (length C) r ≡ r = grind (arith, nat_tests, more) in
            rest-from t (ap (λ n. is_among (take n (C ++ commits (e ∷ K))) t) (sym most) ∙ is)
      ];
    }

    -- where it is none
    dated-later : ((t : ℕ) → IsBy t → ⊥) → IsDateFrom C (e ∷ K) u (max 0 r)
    dated-later none =
        let P : ℕ → Type 0 = λ d. IsDateFrom C (e ∷ K) u d in
        let most : r ≡ max 0 r = omega arith in
        subst P most (record {
          inside = rest-inside;
          to = λ t p. elim (either t p) [ inl b ↦ absurd (none t b) | inr q ↦ rest-to t q ];
          from = rest-from;
        })

-- an operation survives where its transaction doesn't abort and no rollback strikes it
stays-is : (u : ℕ) (K : List Event) → is_among (aborts K) u ≡ false → stays u K ≡ not (is_rolled_back u K)
stays-is u K none = rw none refl

both-true : (a b : Bool) → (a && b) ≡ true → (a ≡ true) × (b ≡ true)
both-true true b is = (refl, is)
both-true false b is = absurd (false≢true is)

date-step : (C : List ℕ) (e : Event) (K : List Event) (u r : ℕ) → is_among (aborts K) u ≡ false → IsDateFrom (C ++ committed_by e.kind) K u r
    → IsDateFrom C (e ∷ K) u (max (if is_op_of u e.kind && not (is_rolled_back u K) then length C else 0) r)
date-step C e K u r none rest =
    elim (cases_Bool (is_op_of u e.kind && not (is_rolled_back u K))) [
      | inl is ↦
          let (operation, survives) = both-true (is_op_of u e.kind) (not (is_rolled_back u K)) is in
          rw is (dated-now C e K u r rest operation (stays-is u K none ∙ survives))
      | inr isnt ↦
          rw isnt (dated-later C e K u r rest (λ t b. false≢true (sym isnt ∙ rw (b.operation, sym (stays-is u K none), b.survives) refl)))
    ]

-- no events have none
none-within : (before : List Event) (happened : Event) (after : List Event) → [] ≡ before ++ happened ∷ after → ⊥
none-within [] happened after whole = absurd cc
none-within (b ∷ before) happened after whole = absurd cc

dated-from : (C : List ℕ) (K : List Event) (u : ℕ) → is_among (aborts K) u ≡ false → IsDateFrom C K u (date_from u (length C) K)
dated-from C [] u none = record {
  inside = omega arith;
  to = λ t p. absurd (none-within p.before p.happened p.after p.whole);
  from = λ t is. absurd (false≢true is);
}
dated-from C (e ∷ K) u none =
    let (first, rest) = or_parts (is_among (aborted_by e.kind) u) (is_among (aborts K) u) (sym (list_any-append (λ v. v == u) (aborted_by e.kind) (aborts K)) ∙ none) in
    let known = dated-from (C ++ committed_by e.kind) K u rest in
    let P : ℕ → Type 0 = λ n. IsDateFrom (C ++ committed_by e.kind) K u (date_from u n K) in
    date-step C e K u (date_from u (length C + length (committed_by e.kind)) K) rest (subst P (length-append C (committed_by e.kind)) known)

-- so of all events
pub dated : (H : List Event) (u : ℕ) → is_among (aborts H) u ≡ false → IsDate H u (date_from u 0 H)
dated H u none =
    let known = dated-from [] H u none in
    record {
      inside = known.inside;
      exact = λ t. (
        λ p. known.to t (record { before = p.before; happened = p.happened; after = p.after; whole = p.whole; ended = p.ended; operation = p.operation; survives = p.survives }),
        λ is. let p = known.from t is in record { before = p.before; happened = p.happened; after = p.after; whole = p.whole; ended = p.ended; operation = p.operation; survives = p.survives },
      );
    }
