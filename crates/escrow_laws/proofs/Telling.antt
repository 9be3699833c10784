-- Marks and two sums say who keeps a transaction from what it did last, and whether what was done is firm.
use Rattle.std.proofs.Common.{◌≡◌, ◌↔◌, ℕ, zero, suc, ◌+◌, ◌-◌, ◌<◌, ◌≤◌, Bool, true, false, not, cond, ◌&&◌, ◌||◌, ◌==◌, nat_lt, List, [], ◌∷◌, Some, is_some, Contains, refl, sym, ap, subst, ◌∙◌, inl, inr, arith}
use Rattle.std.specs.Prelude.{nat_le, slice_get}
use Rattle.std.specs.Cmp.{both_ways}
use Rattle.std.specs.List.{list_all, list_any, sum_by, AllByRecursion}
use Rattle.std.proofs.lemmas.Bool.{cases_Bool, cases_lt, false≢true, eqb-true, eq-eqb, ne_eqb, and_parts, and_from, leb-true, le-leb, ltb-true, lt-ltb, or_from}
use Rattle.std.proofs.lemmas.List.Sums.{sum_by-cons}
use Rattle.std.proofs.lemmas.Option.{none-some}
use Rattle.type_table.specs.Table.{Table}
use Rattle.type_table.specs.Run.{run}
use Rattle.escrow_laws.specs.declared.bounded.Bounded.{Bounded}
use Rattle.escrow_laws.specs.declared.mark.Mark.{Mark}
use Rattle.escrow_laws.specs.declared.mark.OpenMark.{OpenMark}
use Rattle.escrow_laws.specs.Amounts.{fall, rise}
use Rattle.escrow_laws.specs.Bounds.{amounts_of, AreBounds}
use Rattle.escrow_laws.specs.Firm.{sum_below, except, others_fall, others_rise, IsIdleFrom, IsFirm, is_low_legal, is_high_legal}
use Rattle.escrow_laws.specs.Marks.{unmarked, mark_of, HaveOneMarkEach, AreMarks, fallen_of, risen_of, is_legal_from, is_low, is_high, are_firm}
use Rattle.escrow_laws.specs.Laws.{MarksTell, MarksTellFirm}
use Rattle.escrow_laws.proofs.Runs.{legal-step}
use Rattle.escrow_laws.proofs.Sums.{sum-zero, sum-apart}
use Rattle.escrow_laws.proofs.Numbers.{none-above, bounds_numeric}
use Rattle.escrow_laws.proofs.Exact.{marks_exact, ceiling-on}
use Rattle.escrow_laws.proofs.Staying.{firm_both, both_firm}

-- ---- sums

-- the sum over a list that has each with something once
sum-listed : (amount : OpenMark → ℕ) (m : ℕ) (marks : List OpenMark) (f : ℕ → ℕ) → AllByRecursion (λ o. amount o ≡ f o.by) marks → AllByRecursion (λ o. o.by < m) marks → HaveOneMarkEach marks
    → ((u : ℕ) → list_any (λ o. o.by == u) marks ≡ false → f u ≡ 0) → sum_by amount marks ≡ sum_below m f
sum-listed amount m [] f same inside once none = sym (sum-zero m f (λ u. none u refl))
sum-listed amount m (o ∷ os) f same inside once none =
    let here = same.0 in
    let apart = sum-apart m f o.by inside.0 in
    let rest = sum-listed amount m os (except o.by f) (others os same.1 once.0) inside.1 once.1 left in
    let both = sum_by-cons amount o os in
    omega (arith, here, apart, rest, both)
  where
    others : (qs : List OpenMark) → AllByRecursion (λ q. amount q ≡ f q.by) qs → AllByRecursion (λ q. (q.by == o.by) ≡ false) qs → AllByRecursion (λ q. amount q ≡ except o.by f q.by) qs
    others [] is differ = tt
    others (q ∷ qs) is differ = (rw differ.0 is.0, others qs is.1 differ.1)

    left : (u : ℕ) → list_any (λ q. q.by == u) os ≡ false → except o.by f u ≡ 0
    left u unlisted =
        elim (cases_Bool (u == o.by)) [
          | inl is ↦ rw is refl
          | inr other ↦
              let differ : (o.by == u) ≡ false = ne_eqb o.by u (λ same_by. false≢true (sym other ∙ eq-eqb u o.by (sym same_by))) in
              rw other (none u (or_from (o.by == u) (list_any (λ q. q.by == u) os) differ unlisted))
        ]

-- ---- one mark

module _ (T : Table) (top : ℕ) (ops : List Bounded) (bounds : AreBounds T top ops) where
  -- where it says that operations are legal from a number, up to top
  told-inside : (ks : List ℕ) (s : ℕ) → s ≤ top → is_legal_from (mark_of top ops ks) s ≡ is_some (run T (Some s) ks)
  told-inside ks s inside =
      let mark = mark_of top ops ks in
      let exact = (marks_exact T top ops ks bounds).legal s inside in
      both_ways (is_legal_from mark s) (is_some (run T (Some s) ks))
      (λ says. let parts = and_parts (nat_le mark.floor s) (nat_lt s mark.ceiling) says in exact.0 (leb-true mark.floor s parts.0, ltb-true s mark.ceiling parts.1))
      (λ legal. let between = exact.1 legal in and_from (nat_le mark.floor s) (nat_lt s mark.ceiling) (le-leb mark.floor s between.0) (lt-ltb s mark.ceiling between.1))

  -- and for any number, where there is an operation
  told : (ks : List ℕ) → (ks ≡ [] → ⊥) → (s : ℕ) → is_legal_from (mark_of top ops ks) s ≡ is_some (run T (Some s) ks)
  told [] some s = absurd (some refl)
  told (k ∷ ks) some s =
      elim (cases_lt top s) [
        | inl above ↦
            let mark = mark_of top ops (k ∷ ks) in
            let ceiling : mark.ceiling ≤ top + 1 = ceiling-on ops (k ∷ ks) (unmarked top) in
            both_ways (is_legal_from mark s) (is_some (run T (Some s) (k ∷ ks)))
            (λ says. let parts = and_parts (nat_le mark.floor s) (nat_lt s mark.ceiling) says in let below = ltb-true s mark.ceiling parts.1 in absurd (omega (arith, below, ceiling, above)))
            (λ legal. let step = legal-step T s k ks legal in absurd (none-some step.0 (sym (none-above (slice_get ops k) top s (bounds.within k) above) ∙ sym (bounds.steps s k) ∙ step.1)))
        | inr inside ↦ told-inside (k ∷ ks) s inside
      ]

-- ---- all of them

-- what holds of each holds of one
each-at : (P : OpenMark → Type 0) (os : List OpenMark) (o : OpenMark) → AllByRecursion P os → Contains os o → P o
each-at P [] o p (i, inside, is) = absurd (omega (arith, inside))
each-at P (q ∷ os) o p (zero, inside, is) = rw is at p.0
each-at P (q ∷ os) o p (suc i, inside, is) = each-at P os o p.1 (i, omega (arith, inside), is)

-- what holds of each that a list contains passes there
passes-all : (p : OpenMark → Bool) (os : List OpenMark) → ((o : OpenMark) → Contains os o → p o ≡ true) → list_all p os ≡ true
passes-all p [] each = refl
passes-all p (o ∷ os) each =
    and_from (p o) (list_all p os) (each o (0, omega arith, refl)) (passes-all p os (λ q there. let inside = there.1 in each q (suc there.0, omega (arith, inside), there.2)))

-- and the converse
passes-each : (p : OpenMark → Bool) (os : List OpenMark) → list_all p os ≡ true → AllByRecursion (λ q. p q ≡ true) os
passes-each p [] all = tt
passes-each p (q ∷ os) all = let parts = and_parts (p q) (list_all p os) all in (parts.0, passes-each p os parts.1)

-- who is listed
listed : (marks : List OpenMark) (u : ℕ) → list_any (λ o. o.by == u) marks ≡ true → (o : OpenMark) × Contains marks o × (o.by ≡ u)
listed [] u none = absurd (false≢true none)
listed (o ∷ os) u some =
    elim (cases_Bool (o.by == u)) [
      | inl is ↦ (o, (0, omega arith, refl), eqb-true o.by u is)
      | inr other ↦
          let rest = listed os u (rw other at some) in
          let place = rest.1 in
          let inside = place.1 in
          (rest.0, (suc place.0, omega (arith, inside), place.2), rest.2)
    ]

module _ (T : Table) (top base m : ℕ) (ops : List Bounded) (own : ℕ → List ℕ) (marks : List OpenMark) (bounds : AreBounds T top ops) (known : AreMarks top ops own m marks) where
  exact-at : (o : OpenMark) → Contains marks o → o.mark ≡ mark_of top ops (own o.by)
  exact-at o there = each-at (λ q. q.mark ≡ mark_of top ops (own q.by)) marks o known.exact there

  fall-at : (o : OpenMark) → Contains marks o → o.mark.fall ≡ fall (amounts_of ops) (own o.by)
  fall-at o there = ap (λ (x : Mark). x.fall) (exact-at o there) ∙ (marks_exact T top ops (own o.by) bounds).down

  rise-at : (o : OpenMark) → Contains marks o → o.mark.rise ≡ rise (amounts_of ops) (own o.by)
  rise-at o there = ap (λ (x : Mark). x.rise) (exact-at o there) ∙ (marks_exact T top ops (own o.by) bounds).up

  each-fall : (os : List OpenMark) → AllByRecursion (λ o. o.mark ≡ mark_of top ops (own o.by)) os → AllByRecursion (λ o. o.mark.fall ≡ fall (amounts_of ops) (own o.by)) os
  each-fall [] exact = tt
  each-fall (o ∷ os) exact = (ap (λ (x : Mark). x.fall) exact.0 ∙ (marks_exact T top ops (own o.by) bounds).down, each-fall os exact.1)

  each-rise : (os : List OpenMark) → AllByRecursion (λ o. o.mark ≡ mark_of top ops (own o.by)) os → AllByRecursion (λ o. o.mark.rise ≡ rise (amounts_of ops) (own o.by)) os
  each-rise [] exact = tt
  each-rise (o ∷ os) exact = (ap (λ (x : Mark). x.rise) exact.0 ∙ (marks_exact T top ops (own o.by) bounds).up, each-rise os exact.1)

  pub all-fall : fallen_of marks ≡ sum_below m (λ u. fall (amounts_of ops) (own u))
  all-fall = sum-listed (λ o. o.mark.fall) m marks (λ u. fall (amounts_of ops) (own u)) (each-fall marks known.exact) known.inside known.once
      (λ u unlisted. ap (fall (amounts_of ops)) (known.all u unlisted))

  pub all-rise : risen_of marks ≡ sum_below m (λ u. rise (amounts_of ops) (own u))
  all-rise = sum-listed (λ o. o.mark.rise) m marks (λ u. rise (amounts_of ops) (own u)) (each-rise marks known.exact) known.inside known.once
      (λ u unlisted. ap (rise (amounts_of ops)) (known.all u unlisted))

  -- what the others fall
  others-fall : (o : OpenMark) → Contains marks o → fallen_of marks - o.mark.fall ≡ others_fall (amounts_of ops) own m o.by
  others-fall o there =
      let apart = sum-apart m (λ u. fall (amounts_of ops) (own u)) o.by (each-at (λ q. q.by < m) marks o known.inside there) in
      let all = all-fall in
      let mine = fall-at o there in
      omega (arith, apart, all, mine)

  others-rise : (o : OpenMark) → Contains marks o → risen_of marks - o.mark.rise ≡ others_rise (amounts_of ops) own m o.by
  others-rise o there =
      let apart = sum-apart m (λ u. rise (amounts_of ops) (own u)) o.by (each-at (λ q. q.by < m) marks o known.inside there) in
      let all = all-rise in
      let mine = rise-at o there in
      omega (arith, apart, all, mine)

  -- from m on nobody is listed, so nobody did anything
  idle-from : IsIdleFrom m own
  idle-from u far = elim (cases_Bool (list_any (λ o. o.by == u) marks)) [
    | inl some ↦
        let one = listed marks u some in
        let inside = each-at (λ q. q.by < m) marks one.0 known.inside one.1 in
        let is = one.2 in
        absurd (omega (arith, inside, is, far))
    | inr none ↦ known.all u none
  ]

  low-at : (o : OpenMark) → Contains marks o → is_low base (fallen_of marks) o.mark ≡ is_low_legal T (amounts_of ops) base own m o.by
  low-at o there =
      ap (λ n. is_legal_from o.mark (base - n)) (others-fall o there)
      ∙ ap (λ x. is_legal_from x (base - others_fall (amounts_of ops) own m o.by)) (exact-at o there)
      ∙ told T top ops bounds (own o.by) (each-at (λ q. own q.by ≡ [] → ⊥) marks o known.some there) (base - others_fall (amounts_of ops) own m o.by)

  high-at : (o : OpenMark) → Contains marks o → is_high base (risen_of marks) o.mark ≡ is_high_legal T (amounts_of ops) base own m o.by
  high-at o there =
      ap (λ n. is_legal_from o.mark (base + n)) (others-rise o there)
      ∙ ap (λ x. is_legal_from x (base + others_rise (amounts_of ops) own m o.by)) (exact-at o there)
      ∙ told T top ops bounds (own o.by) (each-at (λ q. own q.by ≡ [] → ⊥) marks o known.some there) (base + others_rise (amounts_of ops) own m o.by)

  -- what each did is legal from both, where the marks say so
  both-told : are_firm base marks ≡ true → (u : ℕ) → (is_low_legal T (amounts_of ops) base own m u ≡ true) × (is_high_legal T (amounts_of ops) base own m u ≡ true)
  both-told all u = elim (cases_Bool (list_any (λ o. o.by == u) marks)) [
    | inl some ↦
        let one = listed marks u some in
        let o : OpenMark = one.0 in
        let passes = each-at (λ q. (is_low base (fallen_of marks) q.mark && is_high base (risen_of marks) q.mark) ≡ true) marks o (passes-each (λ q. is_low base (fallen_of marks) q.mark && is_high base (risen_of marks) q.mark) marks all) one.1 in
        let parts = and_parts (is_low base (fallen_of marks) o.mark) (is_high base (risen_of marks) o.mark) passes in
        subst (λ (v : ℕ). (is_low_legal T (amounts_of ops) base own m v ≡ true) × (is_high_legal T (amounts_of ops) base own m v ≡ true)) one.2
        (sym (low-at o one.1) ∙ parts.0, sym (high-at o one.1) ∙ parts.1)
    | inr none ↦ rw (known.all u none) (refl, refl)
  ]

  -- and where it is firm, they say so
  told-both : IsFirm T (amounts_of ops) base own → (o : OpenMark) → Contains marks o → (is_low base (fallen_of marks) o.mark && is_high base (risen_of marks) o.mark) ≡ true
  told-both firm o there =
      let both = both_firm T (amounts_of ops) base m own firm o.by in
      and_from (is_low base (fallen_of marks) o.mark) (is_high base (risen_of marks) o.mark) (low-at o there ∙ both.0) (high-at o there ∙ both.1)

  pub firm-told : (are_firm base marks ≡ true) ↔ IsFirm T (amounts_of ops) base own
  firm-told = (
    λ all. firm_both T (amounts_of ops) base m own (bounds_numeric T top ops bounds) idle-from (both-told all),
    λ firm. passes-all (λ o. is_low base (fallen_of marks) o.mark && is_high base (risen_of marks) o.mark) marks (told-both firm),
  )

-- ---- who keeps whom

-- a test of six parts
test-alike : (lt ht lu hu a b lt2 ht2 lu2 hu2 a2 b2 : Bool) → lt ≡ lt2 → ht ≡ ht2 → lu ≡ lu2 → hu ≡ hu2 → a ≡ a2 → b ≡ b2 →
    cond (lt && ht) (not (lu && hu)) ((not lt && a) || (not ht && b)) ≡ cond (lt2 && ht2) (not (lu2 && hu2)) ((not lt2 && a2) || (not ht2 && b2))
test-alike lt ht lu hu a b lt2 ht2 lu2 hu2 a2 b2 p q r s v w = rw (p, q, r, s, v, w) refl

pub marks_telling : MarksTell
marks_telling = λ T top base m ops own marks t u bounds known t_in u_in.
    test-alike (is_low base (fallen_of marks) t.mark) (is_high base (risen_of marks) t.mark) (is_low base (fallen_of marks) u.mark) (is_high base (risen_of marks) u.mark)
    (nat_lt 0 u.mark.fall) (nat_lt 0 u.mark.rise)
    (is_low_legal T (amounts_of ops) base own m t.by) (is_high_legal T (amounts_of ops) base own m t.by) (is_low_legal T (amounts_of ops) base own m u.by) (is_high_legal T (amounts_of ops) base own m u.by)
    (nat_lt 0 (fall (amounts_of ops) (own u.by))) (nat_lt 0 (rise (amounts_of ops) (own u.by)))
    (low-at T top base m ops own marks bounds known t t_in) (high-at T top base m ops own marks bounds known t t_in)
    (low-at T top base m ops own marks bounds known u u_in) (high-at T top base m ops own marks bounds known u u_in)
    (ap (nat_lt 0) (fall-at T top base m ops own marks bounds known u u_in)) (ap (nat_lt 0) (rise-at T top base m ops own marks bounds known u u_in))

-- ---- what is firm

pub marks_telling_firm : MarksTellFirm
marks_telling_firm = λ T top base m ops own marks bounds known. firm-told T top base m ops own marks bounds known
