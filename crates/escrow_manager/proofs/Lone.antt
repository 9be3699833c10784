-- Who alone keeps a transaction from what it did last, as the marks say.
use Rattle.std.proofs.Common.{◌≡◌, ℕ, ◌+◌, ◌-◌, Bool, true, false, not, eqb, ◌&&◌, ◌==◌, List, [], ◌∷◌, get_or, None, sym, ap, subst, ◌∙◌, inl, inr, arith}
use Rattle.std.specs.Prelude.{nat_le, nat_lt}
use Rattle.std.specs.List.{find, list_any}
use Rattle.std.specs.Option.{option_map}
use Rattle.std.proofs.lemmas.Bool.{cases_Bool, and_from, and_parts, and_cases, and_left, and_right, or_parts, not_from_true, true≢false, le-leb, leb-true, leb-false, lt-ltb, ltb-true, ltb-false, eqb-true}
use Rattle.type_table.proofs.Elements.{find_none}
use Rattle.escrow_laws.specs.Marks.{is_legal_from, mark_keeps, unmarked}
use Rattle.escrow_laws.specs.declared.mark.Mark.{Mark}
use Rattle.escrow_laws.specs.declared.mark.OpenMark.{OpenMark}
use Rattle.object_trait.specs.declared.log_entry.LogEntry.{LogEntry}
use Rattle.escrow_manager.specs.Marks.{mark_in, mark_keeps_alone, moves_far}

-- who doesn't move the number far keeps nobody alone whose operations are legal
near-alone : (base : ℕ) (t u : Mark) → is_legal_from t base ≡ true → moves_far base t u ≡ false → mark_keeps_alone base t u ≡ false
near-alone base t u legal near =
    let own = and_parts (nat_le t.floor base) (nat_lt base t.ceiling) legal in
    let least = leb-true t.floor base own.0 in
    let most = ltb-true base t.ceiling own.1 in
    let moves = or_parts (nat_lt (base - t.floor) u.fall) (nat_le (t.ceiling - base) u.rise) near in
    let falls = ltb-false (base - t.floor) u.fall moves.0 in
    let rises = leb-false (t.ceiling - base) u.rise moves.1 in
    let low : is_legal_from t (base - u.fall) ≡ true =
    and_from (nat_le t.floor (base - u.fall)) (nat_lt (base - u.fall) t.ceiling) (le-leb t.floor (base - u.fall) (omega (arith, least, falls))) (lt-ltb (base - u.fall) t.ceiling (omega (arith, most))) in
    let high : is_legal_from t (base + u.rise) ≡ true =
    and_from (nat_le t.floor (base + u.rise)) (nat_lt (base + u.rise) t.ceiling) (le-leb t.floor (base + u.rise) (omega (arith, least))) (lt-ltb (base + u.rise) t.ceiling (omega (arith, most, rises))) in
    not_from_true (is_legal_from t (base - u.fall) && is_legal_from t (base + u.rise)) (and_from (is_legal_from t (base - u.fall)) (is_legal_from t (base + u.rise)) low high)

-- who did nothing doesn't
nothing-near : (base top : ℕ) (t : Mark) → is_legal_from t base ≡ true → mark_keeps_alone base t (unmarked top) ≡ false
nothing-near base top t legal =
    let low : is_legal_from t (base - 0) ≡ true = let same : base ≡ base - 0 = omega arith in subst (λ n. is_legal_from t n ≡ true) same legal in
    let high : is_legal_from t (base + 0) ≡ true = let same : base ≡ base + 0 = omega arith in subst (λ n. is_legal_from t n ≡ true) same legal in
    not_from_true (is_legal_from t (base - 0) && is_legal_from t (base + 0)) (and_from (is_legal_from t (base - 0)) (is_legal_from t (base + 0)) low high)

-- where no mark of another says so, no other one keeps t alone
others-alone : (base top : ℕ) (t : OpenMark) → is_legal_from t.mark base ≡ true → (marks : List OpenMark) → list_any (λ (o : OpenMark). moves_far base t.mark o.mark && not (o.by == t.by)) marks ≡ false →
    (u : ℕ) → eqb u t.by ≡ false → mark_keeps_alone base t.mark (mark_in top u marks) ≡ false
others-alone base top t legal [] none u other = nothing-near base top t.mark legal
others-alone base top t legal (o ∷ marks) none u other =
    let parts = or_parts (moves_far base t.mark o.mark && not (eqb o.by t.by)) (list_any (λ (q : OpenMark). moves_far base t.mark q.mark && not (q.by == t.by)) marks) none in
    elim (cases_Bool (eqb o.by u)) [
      | inl is ↦
          let differ : eqb o.by t.by ≡ false = subst (λ n. eqb n t.by ≡ false) (sym (eqb-true o.by u is)) other in
          let near : moves_far base t.mark o.mark ≡ false = elim (and_cases (moves_far base t.mark o.mark) (not (eqb o.by t.by)) parts.0) [
            | inl near ↦ near
            | inr own ↦ absurd (true≢false (sym (ap not differ) ∙ own))
          ] in
          rw is (near-alone base t.mark o.mark legal near)
      | inr isnt ↦ rw isnt (others-alone base top t legal marks parts.1 u other)
    ]

-- so nobody is found
pub none-alone : (base top : ℕ) (t : OpenMark) → is_legal_from t.mark base ≡ true → (marks : List OpenMark) → list_any (λ (o : OpenMark). moves_far base t.mark o.mark && not (o.by == t.by)) marks ≡ false →
    (fallen risen : ℕ) (log : List LogEntry) →
    option_map (λ (e : LogEntry). e.by) (find (λ (e : LogEntry). mark_keeps_alone base t.mark (mark_in top e.by marks) && (not (e.by == t.by) && mark_keeps base fallen risen t.mark (mark_in top e.by marks))) log) ≡ None
none-alone base top t legal marks none fallen risen log =
    let lone : LogEntry → Bool = λ e. mark_keeps_alone base t.mark (mark_in top e.by marks) in
    let keeps : LogEntry → Bool = λ e. mark_keeps base fallen risen t.mark (mark_in top e.by marks) in
    let others : LogEntry → Bool = λ e. not (e.by == t.by) && keeps e in
    let no : (e : LogEntry) → (lone e && others e) ≡ false =
    λ e. elim (cases_Bool (eqb e.by t.by)) [
      | inl is ↦ and_right (lone e) (others e) (ap (λ b. not b && keeps e) is)
      | inr other ↦ and_left (lone e) (others e) (others-alone base top t legal marks none e.by other)
    ] in
    ap (option_map (λ (e : LogEntry). e.by)) (find_none (λ e. lone e && others e) log (λ i d within. no (get_or log i d)))
