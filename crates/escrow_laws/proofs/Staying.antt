-- What is firm stays so.
use Rattle.std.proofs.Common.{◌≡◌, ℕ, suc, ◌+◌, ◌-◌, ◌≤◌, true, false, not, Bool, ◌&&◌, ◌||◌, ◌==◌, nat_lt, List, [], Some, refl, ap, subst, cond, ◌∙◌, inl, inr, arith}
use Rattle.std.proofs.lemmas.Bool.{cases_Bool, eqb-true, or_parts, and_parts, and_cases, not-false, both_ways, ltb-false}
use Rattle.type_table.specs.Table.{Table}
use Rattle.type_table.specs.Run.{IsLegal}
use Rattle.type_table.proofs.Elements.{differ_turned}
use Rattle.type_table.proofs.Legal.{legal-front}
use Rattle.escrow_laws.specs.Amounts.{Amounts, IsNumeric, fall, rise}
use Rattle.escrow_laws.specs.Firm.{except, others_fall, others_rise, IsIdleFrom, IsFirm, is_low_legal, is_high_legal, keeps}
use Rattle.escrow_laws.specs.Laws.{FreshIsFirm, FirmAfterApply, FirmAfterCommit, FirmAfterStrike, FirmIsLegal, NothingKeeps}
use Rattle.escrow_laws.proofs.Runs.{run-moved, front-falls, front-rises, legal-between}
use Rattle.escrow_laws.proofs.Sums.{sum-zero, sum-less, sum-all, except-less, except-zero, gap}

pub fresh_firm : FreshIsFirm
fresh_firm = λ T a base own none t m s low high. rw (none t) refl

pub firm_legal : FirmIsLegal
firm_legal = λ T a base own t firm. firm t 0 base (omega arith) (omega arith)

pub none_keeps : NothingKeeps
none_keeps = λ T a base m own t u none. elim (cases_Bool (is_low_legal T a base own m t)) [
  | inl low ↦ elim (cases_Bool (is_high_legal T a base own m t)) [
    | inl high ↦ simp (none, low, high)
    | inr high ↦ simp (none, low, high)
  ]
  | inr low ↦ elim (cases_Bool (is_high_legal T a base own m t)) [
    | inl high ↦ simp (none, low, high)
    | inr high ↦ simp (none, low, high)
  ]
]

-- ---- a commit

pub firm_committed : FirmAfterCommit
firm_committed = λ T a base now own rest t numeric firm reached gone same u m s low high.
    let moved = run-moved T a numeric base now (own t) reached in
    elim (cases_Bool (u == t)) [
      | inl is ↦ rw (eqb-true u t is, gone) refl
      | inr other ↦
          let apart = differ_turned t u other in
          let down = gap (fall a) refl own rest t u m apart gone same in
          let up = gap (rise a) refl own rest t u m apart gone same in
          rw (same u other) (firm u (m + suc t) s (omega (arith, moved.0, low, down)) (omega (arith, moved.1, high, up)))
    ]

-- ---- a strike

pub firm_struck : FirmAfterStrike
firm_struck = λ T a base own left firm fronts u m s low high.
    let less_down = sum-less m _ _ (except-less u (λ v. fall a (left v)) (λ v. fall a (own v)) (λ v. rw ((fronts v).1) (front-falls a (left v) (fronts v).0))) in
    let less_up = sum-less m _ _ (except-less u (λ v. rise a (left v)) (λ v. rise a (own v)) (λ v. rw ((fronts v).1) (front-rises a (left v) (fronts v).0))) in
    legal-front T (Some s) (left u) (fronts u).0 (rw ((fronts u).1) at (firm u m s (omega (arith, low, less_down)) (omega (arith, high, less_up))))

-- ---- the lowest and the highest number

-- none that did nothing counts among the others
idle-nothing : (amount : List ℕ → ℕ) → amount [] ≡ 0 → (m : ℕ) (own : ℕ → List ℕ) → IsIdleFrom m own → (u v : ℕ) → m ≤ v → except u (λ w. amount (own w)) v ≡ 0
idle-nothing amount nothing m own idle u v far =
    elim (cases_Bool (v == u)) [
      | inl is ↦ rw is refl
      | inr other ↦ rw other (ap amount (idle v far) ∙ nothing)
    ]

-- where what each did is legal from the lowest and from the highest number, it is firm
pub firm_both : (T : Table) (a : Amounts) (base m : ℕ) (own : ℕ → List ℕ) → IsNumeric T a → IsIdleFrom m own
    → ((u : ℕ) → (is_low_legal T a base own m u ≡ true) × (is_high_legal T a base own m u ≡ true)) → IsFirm T a base own
firm_both T a base m own numeric idle both u n s low high =
    let down = sum-all n m _ (idle-nothing (fall a) refl m own idle u) in
    let up = sum-all n m _ (idle-nothing (rise a) refl m own idle u) in
    legal-between T a numeric (base - others_fall a own m u) s (base + others_rise a own m u) (own u) (omega (arith, low, down)) (omega (arith, high, up)) (both u).0 (both u).1

-- and the converse
pub both_firm : (T : Table) (a : Amounts) (base m : ℕ) (own : ℕ → List ℕ) → IsFirm T a base own → (u : ℕ)
    → (is_low_legal T a base own m u ≡ true) × (is_high_legal T a base own m u ≡ true)
both_firm T a base m own firm u =
    (firm u m (base - others_fall a own m u) (omega arith) (omega arith), firm u m (base + others_rise a own m u) (omega arith) (omega arith))

-- ---- one more operation

module _ (T : Table) (a : Amounts) (base m : ℕ) (own : ℕ → List ℕ) (t : ℕ) (legal : IsLegal T (Some base) (own t)) (free : (u : ℕ) → (u == t) ≡ false → keeps T a base own m t u ≡ false) where
  -- what is left of a test that fails
  left_nothing : (passes : Bool) (n : ℕ) → passes ≡ false → (not passes && nat_lt 0 n) ≡ false → n ≡ 0
  left_nothing passes n fails h = let few = ltb-false 0 n (rw fails at h) in omega (arith, few)

  -- what t did is legal from the lowest number, where no other falls
  lowest : ((u : ℕ) → (u == t) ≡ false → fall a (own u) ≡ 0) → is_low_legal T a base own m t ≡ true
  lowest none =
      let nothing : others_fall a own m t ≡ 0 = sum-zero m _ (except-zero t (λ u. fall a (own u)) none) in
      let here : base - others_fall a own m t ≡ base = omega (arith, nothing) in
      rw here legal

  -- and from the highest, where no other rises
  highest : ((u : ℕ) → (u == t) ≡ false → rise a (own u) ≡ 0) → is_high_legal T a base own m t ≡ true
  highest none =
      let nothing : others_rise a own m t ≡ 0 = sum-zero m _ (except-zero t (λ u. rise a (own u)) none) in
      let here : base + others_rise a own m t ≡ base = omega (arith, nothing) in
      rw here legal

  abbrev Low : Bool
  Low = is_low_legal T a base own m t

  abbrev High : Bool
  High = is_high_legal T a base own m t

  -- what others would do to it, were it not legal from both
  parts : (Low && High) ≡ false → (u : ℕ) → (u == t) ≡ false → ((not Low && nat_lt 0 (fall a (own u))) ≡ false) × ((not High && nat_lt 0 (rise a (own u))) ≡ false)
  parts fails u other =
      or_parts (not Low && nat_lt 0 (fall a (own u))) (not High && nat_lt 0 (rise a (own u)))
      (subst (λ b. cond b (not (is_low_legal T a base own m u && is_high_legal T a base own m u)) ((not Low && nat_lt 0 (fall a (own u))) || (not High && nat_lt 0 (rise a (own u)))) ≡ false) fails (free u other))

  -- so it is
  mine : (Low && High) ≡ true
  mine = elim (cases_Bool (Low && High)) [
    | inl passes ↦ passes
    | inr fails ↦ elim (and_cases Low High fails) [
      | inl low ↦ absurd (both_ways Low low (lowest (λ u other. left_nothing Low (fall a (own u)) low (parts fails u other).0)))
      | inr high ↦ absurd (both_ways High high (highest (λ u other. left_nothing High (rise a (own u)) high (parts fails u other).1)))
    ]
  ]

  -- what each did is legal from both
  pub both : (u : ℕ) → (is_low_legal T a base own m u ≡ true) × (is_high_legal T a base own m u ≡ true)
  both u = elim (cases_Bool (u == t)) [
    | inl is ↦ rw (eqb-true u t is) (and_parts Low High mine)
    | inr other ↦ and_parts (is_low_legal T a base own m u) (is_high_legal T a base own m u)
        (not-false (is_low_legal T a base own m u && is_high_legal T a base own m u)
        (subst (λ b. cond b (not (is_low_legal T a base own m u && is_high_legal T a base own m u)) ((not Low && nat_lt 0 (fall a (own u))) || (not High && nat_lt 0 (rise a (own u)))) ≡ false) mine (free u other)))
  ]

pub firm_applied : FirmAfterApply
firm_applied = λ T a base m own t numeric idle legal free. firm_both T a base m own numeric idle (both T a base m own t legal free)
