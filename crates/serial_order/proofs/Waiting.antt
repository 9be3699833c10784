-- Who alone keeps a transaction from an operation does so whatever the others do.
use Rattle.std.proofs.Common.{◌≡◌, ℕ, ◌+◌, ◌-◌, ◌<◌, ◌≤◌, Bool, true, false, not, cond, ◌&&◌, ◌||◌, ◌==◌, nat_lt, List, [], ◌∷◌, ◌++◌, Option, Some, None, MatchOption, is_some, refl, sym, ap, subst, ◌∙◌, inl, inr, arith, append_assoc}
use Rattle.std.specs.Prelude.{unwrap_or}
use Rattle.std.specs.List.{AllByRecursion}
use Rattle.std.proofs.lemmas.Bool.{cases_lt, false≢true, eqb-true, eq-eqb, and_cases, and_parts, and_from, not-true, false_from_ne_true, lt-ltb}
use Rattle.type_table.specs.Table.{Table}
use Rattle.type_table.specs.Run.{run, IsLegal}
use Rattle.type_table.specs.Laws.{RunsAlong}
use Rattle.type_table.specs.declared.kind.Kind.TheVariants.{Escrow}
use Rattle.type_table.proofs.Elements.{each-weaker, each-passes, each-filter}
use Rattle.type_table.proofs.Legal.{legal-behind, nothing_legal}
use Rattle.escrow_laws.specs.Amounts.{Amounts, IsNumeric, fall, rise}
use Rattle.escrow_laws.specs.Firm.{sum_below, except, others_fall, others_rise, is_low_legal, is_high_legal, with_op, keeps}
use Rattle.escrow_laws.proofs.Runs.{front-falls, front-rises, legal-between}
use Rattle.escrow_laws.proofs.Sums.{sum-gap}
use Rattle.object_trait.specs.Object.{Object}
use Rattle.object_trait.specs.Alone.{keeps_alone}
use Rattle.serial_order.specs.Operations.{is_among, at_object, is_by, ops, of, serial, pending}
use Rattle.serial_order.specs.History.{Summary, summary, is_open}
use Rattle.serial_order.specs.View.{above_at, own_at, stops_at, is_legal_for, is_alone, conflicts_with}
use Rattle.serial_order.specs.Machine.{IsBlocked}
use Rattle.serial_order.specs.Answer.{blocker}
use Rattle.serial_order.specs.Waiting.{did_at, base_at, StillWaits, BusyNamesWhoKeeps}
use Rattle.serial_order.specs.declared.entry.Entry.{Entry}
use Rattle.serial_order.proofs.Answers.{IsFound, rather-found}
use Rattle.serial_order.proofs.Escrow.{covers_escrow, above-none}
use Rattle.serial_order.proofs.Lists.{ops-append, of-pending}
use Rattle.serial_order.proofs.Runs.{open_is_uncommitted}

-- ---- numbers

-- what one does is counted among what all others but t do
counted : (m t u : ℕ) (f : ℕ → ℕ) → u < m → (u == t) ≡ false → f u ≤ sum_below m (except t f)
counted m t u f inside other =
    let gap = sum-gap m (except t f) (λ v. 0) u inside (λ v. omega arith) refl in
    let here : except t f u ≡ f u = rw other refl in
    omega (arith, gap, here)

-- who did nothing keeps nobody alone
nobody-alone : (T : Table) (a : Amounts) (base : ℕ) (own : ℕ → List ℕ) (t u : ℕ) → IsLegal T (Some base) (own t) → own u ≡ [] → keeps_alone T a base own t u ≡ false
nobody-alone T a base own t u legal none =
    let down : fall a (own u) ≡ 0 = ap (fall a) none in
    let up : rise a (own u) ≡ 0 = ap (rise a) none in
    let low : base - fall a (own u) ≡ base = omega (arith, down) in
    let high : base + rise a (own u) ≡ base = omega (arith, up) in
    rw (low, high, legal) refl

module _ (T : Table) (a : Amounts) (base m : ℕ) (own now : ℕ → List ℕ) (t u : ℕ) (numeric : IsNumeric T a) (inside : u < m) (other : (u == t) ≡ false) (legal : IsLegal T (Some base) (own t)) (waits : now t ≡ own t) (more : List ℕ) (kept : now u ≡ own u ++ more) where
  -- u falls as far as it did, and the others do with it
  falls : (fall a (own u) ≤ fall a (now u)) × (fall a (now u) ≤ others_fall a now m t)
  falls = (subst (λ ks. fall a (own u) ≤ fall a ks) (sym kept) (front-falls a (own u) more), counted m t u (λ v. fall a (now v)) inside other)

  rises : (rise a (own u) ≤ rise a (now u)) × (rise a (now u) ≤ others_rise a now m t)
  rises = (subst (λ ks. rise a (own u) ≤ rise a ks) (sym kept) (front-rises a (own u) more), counted m t u (λ v. rise a (now v)) inside other)

  -- so where what t did isn't legal from where u alone may take the number, it isn't from where all others may
  lowest : is_some (run T (Some (base - fall a (own u))) (own t)) ≡ false → is_low_legal T a base now m t ≡ false
  lowest fails = false_from_ne_true (is_low_legal T a base now m t) (λ low.
      let from = subst (λ ks. IsLegal T (Some (base - others_fall a now m t)) ks) waits low in
      false≢true (sym fails ∙ legal-between T a numeric (base - others_fall a now m t) (base - fall a (own u)) base (own t) (omega (arith, falls.0, falls.1)) (omega arith) from legal))

  highest : is_some (run T (Some (base + rise a (own u))) (own t)) ≡ false → is_high_legal T a base now m t ≡ false
  highest fails = false_from_ne_true (is_high_legal T a base now m t) (λ high.
      let from = subst (λ ks. IsLegal T (Some (base + others_rise a now m t)) ks) waits high in
      false≢true (sym fails ∙ legal-between T a numeric base (base + rise a (own u)) (base + others_rise a now m t) (own t) (omega arith) (omega (arith, rises.0, rises.1)) legal from))

  -- and u moves the number
  down : is_some (run T (Some (base - fall a (own u))) (own t)) ≡ false → nat_lt 0 (fall a (now u)) ≡ true
  down fails = elim (cases_lt 0 (fall a (own u))) [
    | inl some ↦ lt-ltb 0 (fall a (now u)) (omega (arith, some, falls.0))
    | inr none ↦
        let here : base - fall a (own u) ≡ base = omega (arith, none) in
        absurd (false≢true (sym fails ∙ subst (λ n. IsLegal T (Some n) (own t)) (sym here) legal))
  ]

  up : is_some (run T (Some (base + rise a (own u))) (own t)) ≡ false → nat_lt 0 (rise a (now u)) ≡ true
  up fails = elim (cases_lt 0 (rise a (own u))) [
    | inl some ↦ lt-ltb 0 (rise a (now u)) (omega (arith, some, rises.0))
    | inr none ↦
        let here : base + rise a (own u) ≡ base = omega (arith, none) in
        absurd (false≢true (sym fails ∙ subst (λ n. IsLegal T (Some n) (own t)) (sym here) legal))
  ]

  -- so it keeps t
  alone-lasts : keeps_alone T a base own t u ≡ true → keeps T a base now m t u ≡ true
  alone-lasts alone =
      let Low : Bool = is_some (run T (Some (base - fall a (own u))) (own t)) in
      let High : Bool = is_some (run T (Some (base + rise a (own u))) (own t)) in
      elim (and_cases Low High (not-true (Low && High) alone)) [
        | inl fails ↦ rw (lowest fails, down fails) refl
        | inr fails ↦
            rw (highest fails, up fails)
            (by_high (is_low_legal T a base now m t) (not (is_low_legal T a base now m u && is_high_legal T a base now m u)) (nat_lt 0 (fall a (now u))))
      ]
    where
      by_high : (low none less : Bool) → cond (low && false) none ((not low && less) || true) ≡ true
      by_high true none less = refl
      by_high false none true = refl
      by_high false none false = refl

-- ---- histories

module _ (along : RunsAlong) (o : Object) (kind : o.kind ≡ Escrow) (numeric : IsNumeric o.table o.amounts) (s : Summary) (x t k : ℕ) where
  -- what is legal for t is so after base and what t did
  legal-here : is_open s t ≡ true → is_legal_for o s x t k ≡ true → IsLegal o.table (Some (base_at o x s)) (did_at x s t ++ k ∷ [])
  legal-here open_now legal = go (run o.table (Some o.table.initial) (ops (serial C V))) refl
    where
      C : List ℕ
      C = s.committed

      V : List Entry
      V = at_object x s.survives

      mine : own_at C V t ≡ ops (of t V)
      mine = ap ops (of-pending C t V (open_is_uncommitted s t open_now))

      whole : ops (serial C V ++ of t V) ++ k ∷ [] ≡ ops (serial C V) ++ (ops (of t V) ++ k ∷ [])
      whole = ap (λ w. w ++ k ∷ []) (ops-append (serial C V) (of t V)) ∙ append_assoc (ops (serial C V)) (ops (of t V)) (k ∷ [])

      after : IsLegal o.table (Some o.table.initial) (ops (serial C V) ++ (ops (of t V) ++ k ∷ []))
      after = subst (λ w. IsLegal o.table (Some o.table.initial) w) whole (rw kind at legal)

      go : (found : Option ℕ) → run o.table (Some o.table.initial) (ops (serial C V)) ≡ found → IsLegal o.table (Some (unwrap_or found 0)) (own_at C V t ++ k ∷ [])
      go None none = absurd (nothing_legal o.table (ops (of t V) ++ k ∷ []) (rw (along o.table (Some o.table.initial) (ops (serial C V)) (ops (of t V) ++ k ∷ []), none) at after))
      go (Some b) reached = rw mine (legal-behind along o.table (Some o.table.initial) (ops (serial C V)) (ops (of t V) ++ k ∷ []) b reached after)

  module _ (later : Summary) (e : Entry) (open_now : is_open s t ≡ true) (legal : is_legal_for o s x t k ≡ true) (found : blocker o s x t k ≡ Some e) (alone : is_alone o s x t k e ≡ true) (still : StillWaits o x t e.by s later) where
    -- what each did, with k
    abbrev own : ℕ → List ℕ
    own = with_op (did_at x s) t k

    abbrev now : ℕ → List ℕ
    now = with_op (did_at x later) t k

    abbrev base : ℕ
    base = base_at o x s

    abbrev rest : List Entry
    rest = pending later.committed (at_object x later.survives)

    -- who is named is another
    other : (e.by == t) ≡ false
    other =
        let named = subst (λ (who : Option Entry). MatchOption who (AllByRecursion (λ d. conflicts_with o s x t k d ≡ false) (at_object x s.survives)) (IsFound (conflicts_with o s x t k) (at_object x s.survives))) found
        (rather-found (is_alone o s x t k) (conflicts_with o s x t k) (at_object x s.survives)) in
        let passes = (and_parts (is_open s e.by) (not (e.by == t) && stops_at o.kind o s.committed (at_object x s.survives) t k e) named.passes).1 in
        not-true (e.by == t) (and_parts (not (e.by == t)) (stops_at o.kind o s.committed (at_object x s.survives) t k e) passes).0

    own_t : own t ≡ did_at x s t ++ k ∷ []
    own_t = rw (eq-eqb t t refl) refl

    own_u : own e.by ≡ did_at x s e.by
    own_u = rw other refl

    now_t : now t ≡ own t
    now_t = rw (eq-eqb t t refl, still.waits) refl

    now_u : now e.by ≡ own e.by ++ still.more
    now_u = rw other still.kept

    keeps_it : keeps_alone o.table o.amounts base own t e.by ≡ true
    keeps_it = rw kind at alone

    lawful : IsLegal o.table (Some base) (own t)
    lawful = subst (λ ks. IsLegal o.table (Some base) ks) (sym own_t) (legal-here open_now legal)

    -- it did something
    did : did_at x later e.by ≡ [] → ⊥
    did none = false≢true (sym (nobody-alone o.table o.amounts base own t e.by lawful (own_u ∙ front-none (did_at x s e.by) still.more (sym still.kept ∙ none))) ∙ keeps_it)
      where
        front-none : (v w : List ℕ) → v ++ w ≡ [] → v ≡ []
        front-none [] w is = refl
        front-none (j ∷ v) w is = cc

    inside : e.by < above_at t rest
    inside = elim (cases_lt e.by (above_at t rest)) [
      | inl below ↦ below
      | inr far ↦ absurd (did (ap ops (above-none t e.by rest far)))
    ]

    -- so it keeps t now
    keeps_now : keeps o.table o.amounts (base_at o x later) now (above_at t rest) t e.by ≡ true
    keeps_now =
        subst (λ n. keeps o.table o.amounts n now (above_at t rest) t e.by ≡ true) (sym still.base)
        (alone-lasts o.table o.amounts base (above_at t rest) own now t e.by numeric inside other lawful now_t still.more now_u keeps_it)

    -- an operation of its conflicts
    conflicts : (d : Entry) → (d.by == e.by) ≡ true → conflicts_with o later x t k d ≡ true
    conflicts d its =
        let same : e.by ≡ d.by = sym (eqb-true d.by e.by its) in
        let keeps_d : keeps o.table o.amounts (base_at o x later) now (above_at t rest) t d.by ≡ true = subst (λ v. keeps o.table o.amounts (base_at o x later) now (above_at t rest) t v ≡ true) same keeps_now in
        let open_d : is_open later d.by ≡ true = subst (λ v. is_open later v ≡ true) same still.holds in
        let other_d : (d.by == t) ≡ false = subst (λ v. (v == t) ≡ false) same other in
        let stops : stops_at o.kind o later.committed (at_object x later.survives) t k d ≡ true = subst (λ way. stops_at way o later.committed (at_object x later.survives) t k d ≡ true) (sym kind) keeps_d in
        and_from (is_open later d.by) (not (d.by == t) && stops_at o.kind o later.committed (at_object x later.survives) t k d) open_d
        (and_from (not (d.by == t)) (stops_at o.kind o later.committed (at_object x later.survives) t k d) (ap not other_d) stops)

    -- one of them is there
    some : AllByRecursion (λ d. conflicts_with o later x t k d ≡ false) (at_object x later.survives) → ⊥
    some none = go (of e.by rest) refl (each-passes Quiet (is_by e.by) rest (each-weaker (λ d quiet its. (quiet, its)) rest (each-filter (λ d. conflicts_with o later x t k d ≡ false) (λ d. not (is_among later.committed d.by)) (at_object x later.survives) none)))
      where
        Quiet : Entry → Type 0
        Quiet d = (conflicts_with o later x t k d ≡ false) × ((d.by == e.by) ≡ true)

        go : (ds : List Entry) → of e.by rest ≡ ds → AllByRecursion Quiet ds → ⊥
        go [] is quiet = did (ap ops is)
        go (d ∷ ds) is quiet = false≢true (sym quiet.0.0 ∙ conflicts d quiet.0.1)

    pub still_blocked : IsBlocked o later x t k
    still_blocked = go (blocker o later x t k) (rather-found (is_alone o later x t k) (conflicts_with o later x t k) (at_object x later.survives))
      where
        go : (who : Option Entry) → MatchOption who (AllByRecursion (λ d. conflicts_with o later x t k d ≡ false) (at_object x later.survives)) (IsFound (conflicts_with o later x t k) (at_object x later.survives)) → IsBlocked o later x t k
        go None none = absurd (some none)
        go (Some d) held = (d, held.contained, held.passes)

pub busy_names_who_keeps : RunsAlong → BusyNamesWhoKeeps
busy_names_who_keeps along = λ o H more x t k e covered kind open_now legal found alone still.
    still_blocked along o kind (covers_escrow o covered kind) (summary H) x t k (summary (H ++ more)) e open_now legal found alone still
