-- Where a transaction isn't kept from the least of a few amounts, it is kept from none.
use Rattle.std.proofs.Common.{◌≡◌, ℕ, zero, suc, ◌+◌, ◌-◌, ◌/◌, ◌%◌, ◌<◌, ◌≤◌, ◌⊎◌, true, false, List, Option, Some, None, MatchOption, refl, sym, ap, subst, ◌∙◌, inl, inr, arith}
use Rattle.std.specs.Prelude.{min, slice_get}
use Rattle.std.specs.List.{list_any}
use Rattle.std.proofs.lemmas.Bool.{cases_Bool, cases_lt, cases_eq, false≢true}
use Rattle.type_table.specs.Operation.{operation_at}
use Rattle.escrow_laws.specs.Marks.{FitsIn}
use Rattle.escrow_laws.specs.Laws.{MarksAreExact, MarksFit, MarksTell, ExtremesTellFirm, FirmIsLegal}
use Rattle.escrow_laws.specs.declared.bounded.Bounded.{Bounded}
use Rattle.escrow_laws.specs.declared.mark.Mark.{Mark}
use Rattle.escrow_laws.specs.declared.mark.OpenMark.{OpenMark}
use Rattle.number_types.specs.declared.number_call.NumberCall.TheVariants as calls
use Rattle.number_types.specs.declared.number_op.NumberOp.{NumberOp}
use Rattle.number_types.specs.declared.number_op.NumberOp.TheVariants as ops
use Rattle.number_types.specs.Number.{Number, IsNumber}
use Rattle.number_types.specs.Operations.{op_bounds, op_done, NumberHasTable, NumberTellsBounds}
use Rattle.declared_types.specs.Declarations.{number_file}
use Rattle.object_trait.specs.Meaning.{Meaning, view_of}
use Rattle.object_trait.specs.Steps.{IsLegalFor, stopper, IsKeptByAmount, TellsKept}
use Rattle.object_trait.proofs.Amounts.{told-some, told-none}
use Rattle.escrow_manager.specs.Numeric.{bounds_in}
use Rattle.escrow_manager.specs.Kept.{IsKeptInEscrow}
use Rattle.escrow_manager.specs.KeptAmount.{IsKeptFrom, any_call, moving, refusing, lists, HasAmount, IsLeastAmount, IsMostAmount, IsFreeFrom, IsFreeUpTo, first_kept, first_beyond, last_refused}
use Rattle.escrow_manager.specs.declared.totals.Totals.{Totals}
use Rattle.escrow_manager.specs.declared.way.Way.{Way}
use Rattle.escrow_manager.specs.declared.way.Way.TheVariants.{Take, Give}
use Rattle.escrow_manager.proofs.Keeping.{mark_at, number_at, fits-of, view-told, legal-told}
use Rattle.escrow_manager.proofs.KeptMarks.{keeps_from, alone_from}
use Rattle.escrow_manager.proofs.KeptWays.{IsOther, LoneAlike, KeepsAlike, AreAlike, moving-lone, moving-alike, refusing-lone, refusing-alike}
use Rattle.escrow_manager.proofs.KeptOps.{inside-ops, moving-at, refusing-at, has-amount, value-at, value-most, value-none, none-legal, greatest-is, found-at, legal-op}
use Rattle.escrow_manager.proofs.Keepers.{room-of, firm-by, IsLegalWith, legal-with, keeper-keeps, keeper-stays, lone-stays}

-- ---- the least amount

module _ (v : Number) (way : Way) where
  cases-has : (n : ℕ) → HasAmount v way n ⊎ (HasAmount v way n → ⊥)
  cases-has n = elim (cases_lt n 1) [
    | inl none ↦ inr (λ has. let some = has.0 in omega (arith, none, some))
    | inr some ↦ elim (cases_lt v.max n) [
      | inl above ↦ inr (λ has. let most = has.1 in omega (arith, above, most))
      | inr most ↦ elim (cases_Bool (list_any (lists way n) v.calls)) [
        | inl listed ↦ inr (λ has. false≢true (sym (has.2) ∙ listed))
        | inr unlisted ↦ inl (some, most, unlisted)
      ]
    ]
  ]

  least-up : (d start n : ℕ) → n ≡ start + d → HasAmount v way n → (c : ℕ) × IsLeastAmount v way start c × (c ≤ n)
  least-up zero start n far has = (n, (omega (arith, far), has, λ j from there. omega (arith, far, from)), omega arith)
  least-up (suc d) start n far has = elim (cases-has start) [
    | inl here ↦ (start, (omega arith, here, λ j from there. from), omega (arith, far))
    | inr none ↦
        let rest = least-up d (suc start) n (omega (arith, far)) has in
        let least = rest.1 in
        let from_start = least.0 in (
          rest.0,
          (
            omega (arith, from_start),
            least.1,
            λ j from there. elim (cases_eq start j) [
              | inl same ↦ absurd (none (subst (HasAmount v way) (sym same) there))
              | inr other ↦ least.2 j (omega (arith, from, other)) there
            ],
          ),
          rest.2,
        )
  ]

  -- where there is an amount from a start on, there is a least one
  pub least-from : (start n : ℕ) → start ≤ n → HasAmount v way n → (c : ℕ) × IsLeastAmount v way start c × (c ≤ n)
  least-from start n from has = least-up (n - start) start n (omega (arith, from)) has

  most-down : (d stop n : ℕ) → stop ≡ n + d → HasAmount v way n → (c : ℕ) × IsMostAmount v way stop c × (n ≤ c)
  most-down zero stop n far has = (n, (omega (arith, far), has, λ j to there. omega (arith, far, to)), omega arith)
  most-down (suc d) stop n far has = elim (cases-has stop) [
    | inl here ↦ (stop, (omega arith, here, λ j to there. to), omega (arith, far))
    | inr none ↦
        let rest = most-down d (n + d) n refl has in
        let most = rest.1 in
        let to_stop = most.0 in (
          rest.0,
          (
            omega (arith, to_stop, far),
            most.1,
            λ j to there. elim (cases_eq j stop) [
              | inl same ↦ absurd (none (subst (HasAmount v way) same there))
              | inr other ↦ most.2 j (omega (arith, to, other, far)) there
            ],
          ),
          rest.2,
        )
  ]

  -- where there is an amount up to a last one, there is a greatest one
  pub most-to : (stop n : ℕ) → n ≤ stop → HasAmount v way n → (c : ℕ) × IsMostAmount v way stop c × (n ≤ c)
  most-to stop n to has = most-down (stop - n) stop n (omega (arith, to)) has

-- ---- what is legal

moving-legal : (top s : ℕ) (way : Way) (c n : ℕ) → c ≤ n → (op_bounds top (moving way n)).low ≤ s → s ≤ (op_bounds top (moving way n)).high → ((op_bounds top (moving way c)).low ≤ s) × (s ≤ (op_bounds top (moving way c)).high)
moving-legal top s Take c n less low high = (omega (arith, less, low), high)
moving-legal top s Give c n less low high = (low, omega (arith, less, high))

refusing-legal : (top s : ℕ) (way : Way) (n c : ℕ) → n ≤ c → c ≤ top → 1 ≤ n → (op_bounds top (refusing way n)).low ≤ s → s ≤ (op_bounds top (refusing way n)).high →
    ((op_bounds top (refusing way c)).low ≤ s) × (s ≤ (op_bounds top (refusing way c)).high)
refusing-legal top s Take n c more most some low high = (low, omega (arith, more, some, high))
refusing-legal top s Give n c more most some low high = (omega (arith, more, most, low), high)

-- ---- of an object

-- the mark of what t did fits numbers of 32 bits
pub fits-wide : (top base : ℕ) (x : Mark) → top ≤ 4294967295 → FitsIn top base x → FitsIn 4294967295 base x
fits-wide top base x most fits =
    let up = fits.up in
    let last = fits.most in
    record { down = fits.down; up = omega (arith, up, most); end = fits.end; least = fits.least; most = omega (arith, last, most) }

module _ {m : Meaning} {marks : List OpenMark} {totals : Totals} (h : IsKeptInEscrow m marks totals) (exact : MarksAreExact) (fit : MarksFit) (tell : MarksTell) (extremes : ExtremesTellFirm) (legal : FirmIsLegal)
    (v : Number) (known : IsNumber v) (file : m.checked.file ≡ number_file v) (tells : NumberTellsBounds) (way : Way) (t u : ℕ) where
  sees : view_of m t ≡ Some (number_at m t)
  sees = view-told h exact legal t

  fits : FitsIn v.max m.base (mark_at m t)
  fits = subst (λ top. FitsIn top m.base (mark_at m t)) (greatest-is h v known file tells) (fits-of h fit legal t)

  room : m.base + totals.risen ≤ v.max
  room = subst (λ top. m.base + totals.risen ≤ top) (greatest-is h v known file tells) (room-of h extremes).1

  begins : number_at m t + (mark_at m t).fall ≡ m.base + (mark_at m t).above
  begins = let down = fits.down in omega (arith, down)

  abbrev own : Mark
  own = mark_at m t

  abbrev its : Mark
  its = mark_at m u

  -- all others together
  abbrev down : ℕ
  down = totals.fallen - own.fall

  abbrev up : ℕ
  up = totals.risen - own.rise

  -- operations with amounts at a place
  pub record AreAt (p : ℕ) (op : ℕ → NumberOp) : Type 0 where
    low : p < 256
    done : (c : ℕ) → HasAmount v way c → op_done v (operation_at p (Some c)) ≡ Some (op c)

  -- one of them that is legal for t
  pub record IsOneOf (p : ℕ) (op : ℕ → NumberOp) (c : ℕ) : Type 0 where
    has : HasAmount v way c
    lowest : (op_bounds v.max (op c)).low ≤ number_at m t
    highest : number_at m t ≤ (op_bounds v.max (op c)).high

  found-of : (p : ℕ) (op : ℕ → NumberOp) → AreAt p op → (c : ℕ) → HasAmount v way c → slice_get (bounds_in m.checked) (operation_at p (Some c)) ≡ Some (op_bounds v.max (op c))
  found-of p op at c has = found-at h v known file tells (operation_at p (Some c)) (op c) (inside-ops v p c at.low has.1) (at.done c has)

  legal-of : (p : ℕ) (op : ℕ → NumberOp) → AreAt p op → (c : ℕ) → IsOneOf p op c → IsLegalFor m t (operation_at p (Some c))
  legal-of p op at c one = (legal-told h t (operation_at p (Some c)) (number_at m t) (op_bounds v.max (op c)) (found-of p op at c one.has) sees).0 (one.lowest, one.highest)

  module _ (p : ℕ) (op : ℕ → NumberOp) (at : AreAt p op) (n : ℕ) (one : IsOneOf p op n) (is : stopper m t (operation_at p (Some n)) ≡ Some u) where
    abbrev here : Bounded
    here = op_bounds v.max (op n)

    keeps : IsOther m.base totals own its × (keeps_from m.base totals.fallen totals.risen own here its ≡ true)
    keeps = keeper-keeps h exact fit legal tell extremes t u (operation_at p (Some n)) here (found-of p op at n one.has) is

    legal-by : (c : ℕ) → IsOneOf p op c → IsLegalWith m.base own (op_bounds v.max (op c))
    legal-by c other = legal-with m.base (number_at m t) totals own (op_bounds v.max (op c)) (firm-by h extremes t) begins other.lowest other.highest

    -- u keeps t from another amount too, where he does so alike
    stays-lone : alone_from m.base own here its ≡ true → (c : ℕ) → IsOneOf p op c → LoneAlike m.base totals own its here (op_bounds v.max (op c)) → IsKeptFrom m t (operation_at p (Some c)) u
    stays-lone alone c other alike = (
      legal-of p op at c other,
      lone-stays h exact fit legal tell extremes t u (operation_at p (Some n)) here (found-of p op at n one.has) is
          (operation_at p (Some c)) (op_bounds v.max (op c)) (found-of p op at c other.has) (legal-by n one) (legal-by c other) alone alike,
    )

    stays-kept : alone_from m.base own here its ≡ false → (c : ℕ) → IsOneOf p op c → KeepsAlike m.base totals own its here (op_bounds v.max (op c)) → IsKeptFrom m t (operation_at p (Some c)) u
    stays-kept not_alone c other alike = (
      legal-of p op at c other,
      keeper-stays h exact fit legal tell extremes t u (operation_at p (Some n)) here (found-of p op at n one.has) is
          (operation_at p (Some c)) (op_bounds v.max (op c)) (found-of p op at c other.has) not_alone alike,
    )

    -- so where he doesn't keep t from the least amount from a start on, this is none of those that are like it
    free-least : (start : ℕ) (Alike : Bounded → Bounded → Type 0) → AreAlike Alike v.max op start n n → IsFreeFrom v way m t p u start → ((c : ℕ) → c ≤ n → HasAmount v way c → IsOneOf p op c) →
        ((c : ℕ) → IsOneOf p op c → Alike here (op_bounds v.max (op c)) → IsKeptFrom m t (operation_at p (Some c)) u) → ⊥
    free-least start Alike alike free less_is stays =
        let first = least-from v way start n alike.above one.has in
        let least = first.1 in
        free first.0 least (stays first.0 (less_is first.0 first.2 least.1) (alike.alike first.0 least.0 first.2))

    -- nor where he doesn't from the greatest up to a last one
    free-most : (stop : ℕ) (Alike : Bounded → Bounded → Type 0) → AreAlike Alike v.max op n n (min stop v.max) → IsFreeUpTo v way m t p u stop → ((c : ℕ) → n ≤ c → HasAmount v way c → IsOneOf p op c) →
        ((c : ℕ) → IsOneOf p op c → Alike here (op_bounds v.max (op c)) → IsKeptFrom m t (operation_at p (Some c)) u) → ⊥
    free-most stop Alike alike free more_is stays =
        let below = alike.below in
        let last = most-to v way stop n (omega (arith, below)) one.has in
        let most = last.1 in
        let to_stop = most.0 in
        let to_max = most.1.1 in
        free last.0 most (stays last.0 (more_is last.0 last.2 most.1) (alike.alike last.0 last.2 (omega (arith, to_stop, to_max))))

  module _ (place : ℕ) (low : place < 256) (even : place % 2 ≡ 0) (at : slice_get v.calls (place / 2) ≡ Some (any_call way)) where
    -- an operation of the call that is legal for t
    one-of : (p n : ℕ) (op : ℕ → NumberOp) (places : AreAt p op) → slice_get v.calls (p / 2) ≡ Some (any_call way) → IsLegalFor m t (operation_at p (Some n)) → IsOneOf p op n
    one-of p n op places there lawful =
        let found = legal-op h v known file tells t (operation_at p (Some n)) (number_at m t) sees lawful in
        let has = has-amount v p n way found.op places.low there found.done in
        let is = found.done in
        let both : Some found.op ≡ Some (op n) = sym is ∙ places.done n has in
        let same : found.op ≡ op n = cc in
        record { has = has; lowest = subst (λ o. (op_bounds v.max o).low ≤ number_at m t) same found.low; highest = subst (λ o. number_at m t ≤ (op_bounds v.max o).high) same found.high }

    moving-places : AreAt place (moving way)
    moving-places = record { low = low; done = λ c has. moving-at v place low even way c at has }

    refusing-places : AreAt (place + 1) (refusing way)
    refusing-places = record { low = omega (arith, low, even); done = λ c has. refusing-at v place low even way c at has }

    free-moving : IsFreeFrom v way m t place u (first_kept way m.base totals own its) → IsFreeFrom v way m t place u (first_beyond way v.max m.base own down up) → IsFreeFrom v way m t place u (first_beyond way v.max m.base own its.fall its.rise) →
        (n : ℕ) → IsKeptFrom m t (operation_at place (Some n)) u → ⊥
    free-moving kept beyond alone n (lawful, is) =
        let one = one-of place n (moving way) moving-places at lawful in
        let keeps = keeps place (moving way) moving-places n one is in
        let less_is : (c : ℕ) → c ≤ n → HasAmount v way c → IsOneOf place (moving way) c = λ c less has.
        let between = moving-legal v.max (number_at m t) way c n less one.lowest one.highest in
        record { has = has; lowest = between.0; highest = between.1 } in
        elim (cases_Bool (alone_from m.base own (op_bounds v.max (moving way n)) its)) [
          | inl lone ↦
              free-least place (moving way) moving-places n one is (first_beyond way v.max m.base own its.fall its.rise) (LoneAlike m.base totals own its)
              (moving-lone m.base v.max totals own its fits (firm-by h extremes t) keeps.0 room (number_at m t) begins way n one.has.1 one.lowest one.highest lone) alone less_is (stays-lone place (moving way) moving-places n one is lone)
          | inr others ↦ elim (moving-alike m.base v.max totals own its fits (firm-by h extremes t) keeps.0 room (number_at m t) begins way n one.has.1 one.lowest one.highest keeps.1) [
            | inl near ↦ free-least place (moving way) moving-places n one is (first_kept way m.base totals own its) (KeepsAlike m.base totals own its) near kept less_is (stays-kept place (moving way) moving-places n one is others)
            | inr far ↦ free-least place (moving way) moving-places n one is (first_beyond way v.max m.base own down up) (KeepsAlike m.base totals own its) far beyond less_is (stays-kept place (moving way) moving-places n one is others)
          ]
        ]

    free-refusing : IsFreeUpTo v way m t (place + 1) u (last_refused way v.max m.base own down up) → IsFreeUpTo v way m t (place + 1) u (last_refused way v.max m.base own its.fall its.rise) →
        (n : ℕ) → IsKeptFrom m t (operation_at (place + 1) (Some n)) u → ⊥
    free-refusing refused untrue n (lawful, is) =
        let half : (place + 1) / 2 ≡ place / 2 = omega (arith, even) in
        let one = one-of (place + 1) n (refusing way) refusing-places (ap (slice_get v.calls) half ∙ at) lawful in
        let keeps = keeps (place + 1) (refusing way) refusing-places n one is in
        let more_is : (c : ℕ) → n ≤ c → HasAmount v way c → IsOneOf (place + 1) (refusing way) c = λ c more has.
        let between = refusing-legal v.max (number_at m t) way n c more has.1 one.has.0 one.lowest one.highest in
        record { has = has; lowest = between.0; highest = between.1 } in
        elim (cases_Bool (alone_from m.base own (op_bounds v.max (refusing way n)) its)) [
          | inl lone ↦
              free-most (place + 1) (refusing way) refusing-places n one is (last_refused way v.max m.base own its.fall its.rise) (LoneAlike m.base totals own its)
              (refusing-lone m.base v.max totals own its fits (firm-by h extremes t) keeps.0 room (number_at m t) begins way n one.has.1 one.lowest one.highest one.has.0 lone) untrue more_is
              (stays-lone (place + 1) (refusing way) refusing-places n one is lone)
          | inr others ↦
              free-most (place + 1) (refusing way) refusing-places n one is (last_refused way v.max m.base own down up) (KeepsAlike m.base totals own its)
              (refusing-alike m.base v.max totals own its fits (firm-by h extremes t) keeps.0 room (number_at m t) begins way n one.has.0 one.has.1 one.lowest one.highest keeps.1) refused more_is
              (stays-kept (place + 1) (refusing way) refusing-places n one is others)
        ]

    pub never-kept : IsFreeFrom v way m t place u (first_kept way m.base totals own its) → IsFreeFrom v way m t place u (first_beyond way v.max m.base own down up) →
        IsFreeFrom v way m t place u (first_beyond way v.max m.base own its.fall its.rise) → IsFreeUpTo v way m t (place + 1) u (last_refused way v.max m.base own down up) →
        IsFreeUpTo v way m t (place + 1) u (last_refused way v.max m.base own its.fall its.rise) → (n : ℕ) → IsKeptByAmount m t place u n → ⊥
    never-kept kept beyond alone refused untrue n (k, inl same, here, is) = free-moving kept beyond alone n (subst (λ j. IsKeptFrom m t j u) same (here, is))
    never-kept kept beyond alone refused untrue n (k, inr same, here, is) = free-refusing refused untrue n (subst (λ j. IsKeptFrom m t j u) same (here, is))

-- what is told where the last place is free, or an amount is found there
pub by-last : (m : Meaning) (v : Number) (way : Way) (t place u stop : ℕ) → (IsFreeUpTo v way m t (place + 1) u stop → (n : ℕ) → IsKeptByAmount m t place u n → ⊥) → (found : Option ℕ) →
    MatchOption found (IsFreeUpTo v way m t (place + 1) u stop) (λ n. IsKeptFrom m t (operation_at (place + 1) (Some n)) u) → TellsKept m t place u found
by-last m v way t place u stop never None free = told-none m t place u (never free)
by-last m v way t place u stop never (Some n) is = told-some m t place u n (operation_at (place + 1) (Some n), inr refl, is.0, is.1)

-- ---- a read of the value

-- the number that t sees is at most the greatest value
pub number-inside : {m : Meaning} {marks : List OpenMark} {totals : Totals} → IsKeptInEscrow m marks totals → MarksAreExact → MarksFit → FirmIsLegal → (v : Number) → IsNumber v → m.checked.file ≡ number_file v → NumberTellsBounds → (t s : ℕ) →
    view_of m t ≡ Some s → s ≤ v.max
number-inside {m} h exact fit legal v known file tells t s is =
    let both : Some (number_at m t) ≡ Some s = sym (view-told h exact legal t) ∙ is in
    let same : number_at m t ≡ s = cc in
    let fits = subst (λ top. FitsIn top m.base (mark_at m t)) (greatest-is h v known file tells) (fits-of h fit legal t) in
    let up = fits.up in
    let end = fits.end in
    omega (arith, same, up, end)

-- of the operations of a read of the value one is legal
pub value-alone : {m : Meaning} {marks : List OpenMark} {totals : Totals} → IsKeptInEscrow m marks totals → NumberHasTable → (v : Number) → IsNumber v → m.checked.file ≡ number_file v → NumberTellsBounds → (t u place s : ℕ) →
    place < 256 → place % 2 ≡ 0 → slice_get v.calls (place / 2) ≡ Some calls.Value → view_of m t ≡ Some s → (IsKeptFrom m t (operation_at place (Some s)) u → ⊥) → (n : ℕ) → IsKeptByAmount m t place u n → ⊥
value-alone {m} h tables v known file tells t u place s low even at is free n (k, inl same, here, stops) =
    let found = legal-op h v known file tells t (operation_at place (Some n)) s is (subst (IsLegalFor m t) same here) in
    let done = found.done in
    let most = value-most v place n found.op low at done in
    let both : Some found.op ≡ Some (ops.Value n) = sym done ∙ value-at v place n low even at most in
    let op : found.op ≡ ops.Value n = cc in
    let least : n ≤ s = subst (λ o. (op_bounds v.max o).low ≤ s) op found.low in
    let greatest : s ≤ n = subst (λ o. s ≤ (op_bounds v.max o).high) op found.high in
    let alone : n ≡ s = omega (arith, least, greatest) in
    free (subst (λ j. IsKeptFrom m t (operation_at place (Some j)) u) alone (subst (λ j. IsKeptFrom m t j u) same (here, stops)))
value-alone {m} h tables v known file tells t u place s low even at is free n (k, inr same, here, stops) =
    none-legal tables v known m file t (operation_at (place + 1) (Some n)) (value-none v place n low even at) (subst (IsLegalFor m t) same here)
