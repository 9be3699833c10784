-- Who keeps a transaction from an operation that takes or gives an amount, by the amount. Numbers alone.
use Rattle.std.proofs.Common.{◌≡◌, ℕ, ◌+◌, ◌-◌, ◌<◌, ◌≤◌, ◌⊎◌, Bool, true, false, not, cond, ltb, ◌&&◌, ◌||◌, refl, inl, inr, arith}
use Rattle.std.specs.Prelude.{nat_le, nat_lt}
use Rattle.std.proofs.lemmas.Bool.{cases_lt, false≢true, and_from, and_left, and_right, le-leb, lt-leb, lt-ltb, le-ltb}
use Rattle.escrow_laws.specs.Marks.{mark_after, FitsIn, is_legal_from, is_low, is_high, mark_keeps}
use Rattle.escrow_laws.specs.declared.bounded.Bounded.{Bounded}
use Rattle.escrow_laws.specs.declared.mark.Mark.{Mark}
use Rattle.number_types.specs.Operations.{taking, giving, reading}
use Rattle.escrow_manager.specs.Marks.{mark_keeps_alone}
use Rattle.escrow_manager.specs.Totals.{need_of, mark_limit}

-- ---- what is legal from a number

legal-is : (x : Mark) (s : ℕ) → x.floor ≤ s → s < x.ceiling → is_legal_from x s ≡ true
legal-is x s low high = and_from (nat_le x.floor s) (nat_lt s x.ceiling) (le-leb x.floor s low) (lt-ltb s x.ceiling high)

legal-under : (x : Mark) (s : ℕ) → s < x.floor → is_legal_from x s ≡ false
legal-under x s under = and_left (nat_le x.floor s) (nat_lt s x.ceiling) (lt-leb x.floor s under)

legal-over : (x : Mark) (s : ℕ) → x.ceiling ≤ s → is_legal_from x s ≡ false
legal-over x s over = and_right (nat_le x.floor s) (nat_lt s x.ceiling) (le-ltb s x.ceiling over)

-- ---- who keeps t, by what is legal from the lowest and from the highest number

module _ (base fallen risen : ℕ) (t u : Mark) where
  by-low : (m n : ℕ) → is_low base fallen t ≡ true → is_high base risen t ≡ true → is_high base risen u ≡ true → (m < n → is_low base fallen u ≡ false) → (n ≤ m → is_low base fallen u ≡ true) →
      mark_keeps base fallen risen t u ≡ ltb m n
  by-low m n low high high_u fails holds = elim (cases_lt m n) [
    | inl below ↦ rw (low, high, high_u, fails below, lt-ltb m n below) refl
    | inr above ↦ rw (low, high, high_u, holds above, le-ltb m n above) refl
  ]

  by-high : (m n : ℕ) → is_low base fallen t ≡ true → is_high base risen t ≡ true → is_low base fallen u ≡ true → (m < n → is_high base risen u ≡ false) → (n ≤ m → is_high base risen u ≡ true) →
      mark_keeps base fallen risen t u ≡ ltb m n
  by-high m n low high low_u fails holds = elim (cases_lt m n) [
    | inl below ↦ rw (low, high, low_u, fails below, lt-ltb m n below) refl
    | inr above ↦ rw (low, high, low_u, holds above, le-ltb m n above) refl
  ]

  by-nobody : is_low base fallen t ≡ true → is_high base risen t ≡ true → is_low base fallen u ≡ true → is_high base risen u ≡ true → mark_keeps base fallen risen t u ≡ false
  by-nobody low high low_u high_u = rw (low, high, low_u, high_u) refl

  by-falling : is_low base fallen t ≡ false → is_high base risen t ≡ true → mark_keeps base fallen risen t u ≡ nat_lt 0 u.fall
  by-falling low high = rw (low, high) (or_none (nat_lt 0 u.fall))
    where
      or_none : (b : Bool) → (b || false) ≡ b
      or_none true = refl
      or_none false = refl

  by-rising : is_low base fallen t ≡ true → is_high base risen t ≡ false → mark_keeps base fallen risen t u ≡ nat_lt 0 u.rise
  by-rising low high = rw (low, high) refl

-- ---- with an operation

-- what is known of a mark where all is firm, and all together fall and rise so far
pub record IsFirmAt (base fallen risen : ℕ) (x : Mark) : Type 0 where
  pub needed : fallen + need_of x ≤ base
  pub limit : base + risen < mark_limit x
  pub fall : x.fall ≤ fallen
  pub rise : x.rise ≤ risen

-- who has the mark u keeps who has the mark t from an operation of these bounds
abbrev pub keeps_from : ℕ → ℕ → ℕ → Mark → Bounded → Mark → Bool
keeps_from base fallen risen t b u = mark_keeps base ((fallen - t.fall) + (mark_after t b).fall) ((risen - t.rise) + (mark_after t b).rise) (mark_after t b) u

module _ (base top fallen risen : ℕ) (t u : Mark) (fits : FitsIn top base t) (firm : IsFirmAt base fallen risen t) (other : IsFirmAt base fallen risen u) (room : base + risen ≤ top) where
  -- from a take, up to where t's operations are no longer legal where all have fallen: who falls too far for himself
  pub takes-within : (n : ℕ) → n + fallen ≤ base + t.above → keeps_from base fallen risen t (taking n top n) u ≡ ltb (base + t.above + u.fall) (n + fallen + u.floor)
  takes-within n few =
      let x : Mark = mark_after t (taking n top n) in
      by-low base ((fallen - t.fall) + x.fall) ((risen - t.rise) + x.rise) x u (base + t.above + u.fall) (n + fallen + u.floor)
      (legal-is x (base - (((fallen - t.fall) + x.fall) - x.fall)) (omega arith) (omega arith))
      (legal-is x (base + (((risen - t.rise) + x.rise) - x.rise)) (omega arith) (omega arith))
      (legal-is u (base + (((risen - t.rise) + x.rise) - u.rise)) (omega arith) (omega arith))
      (λ below. legal-under u (base - (((fallen - t.fall) + x.fall) - u.fall)) (omega arith))
      (λ above. legal-is u (base - (((fallen - t.fall) + x.fall) - u.fall)) (omega arith) (omega arith))

  -- beyond that: who falls
  pub takes-beyond : (n : ℕ) → base + t.above < n + fallen → n + t.fall ≤ base + t.above → keeps_from base fallen risen t (taking n top n) u ≡ ltb 0 u.fall
  takes-beyond n many legal =
      let x : Mark = mark_after t (taking n top n) in
      by-falling base ((fallen - t.fall) + x.fall) ((risen - t.rise) + x.rise) x u
      (legal-under x (base - (((fallen - t.fall) + x.fall) - x.fall)) (omega arith))
      (legal-is x (base + (((risen - t.rise) + x.rise) - x.rise)) (omega arith) (omega arith))

  -- from the reply that there is less than n
  pub short-within : (n : ℕ) → base + t.above < n + t.fall → base + (risen - t.rise) + t.above < n + t.fall → keeps_from base fallen risen t (reading 0 (n - 1)) u ≡ false
  short-within n refused far =
      let x : Mark = mark_after t (reading 0 (n - 1)) in
      by-nobody base ((fallen - t.fall) + x.fall) ((risen - t.rise) + x.rise) x u
      (legal-is x (base - (((fallen - t.fall) + x.fall) - x.fall)) (omega arith) (omega arith))
      (legal-is x (base + (((risen - t.rise) + x.rise) - x.rise)) (omega arith) (omega arith))
      (legal-is u (base - (((fallen - t.fall) + x.fall) - u.fall)) (omega arith) (omega arith))
      (legal-is u (base + (((risen - t.rise) + x.rise) - u.rise)) (omega arith) (omega arith))

  pub short-beyond : (n : ℕ) → base + t.above < n + t.fall → n + t.fall ≤ base + (risen - t.rise) + t.above → keeps_from base fallen risen t (reading 0 (n - 1)) u ≡ ltb 0 u.rise
  short-beyond n refused near =
      let x : Mark = mark_after t (reading 0 (n - 1)) in
      by-rising base ((fallen - t.fall) + x.fall) ((risen - t.rise) + x.rise) x u
      (legal-is x (base - (((fallen - t.fall) + x.fall) - x.fall)) (omega arith) (omega arith))
      (legal-over x (base + (((risen - t.rise) + x.rise) - x.rise)) (omega arith))

  -- from a give, up to where t's operations are no longer legal where all have risen: who rises too far for himself
  pub gives-within : (n : ℕ) → n ≤ top → n + base + (risen - t.rise) + t.above ≤ top + t.fall →
      keeps_from base fallen risen t (giving 0 (top - n) n) u ≡ ltb (u.ceiling + u.rise + t.fall) (n + base + (risen - t.rise) + t.above + 1)
  gives-within n most few =
      let x : Mark = mark_after t (giving 0 (top - n) n) in
      by-high base ((fallen - t.fall) + x.fall) ((risen - t.rise) + x.rise) x u (u.ceiling + u.rise + t.fall) (n + base + (risen - t.rise) + t.above + 1)
      (legal-is x (base - (((fallen - t.fall) + x.fall) - x.fall)) (omega arith) (omega arith))
      (legal-is x (base + (((risen - t.rise) + x.rise) - x.rise)) (omega arith) (omega arith))
      (legal-is u (base - (((fallen - t.fall) + x.fall) - u.fall)) (omega arith) (omega arith))
      (λ below. legal-over u (base + (((risen - t.rise) + x.rise) - u.rise)) (omega arith))
      (λ above. legal-is u (base + (((risen - t.rise) + x.rise) - u.rise)) (omega arith) (omega arith))

  -- beyond that: who rises
  pub gives-beyond : (n : ℕ) → n ≤ top → top + t.fall < n + base + (risen - t.rise) + t.above → n + base + t.above ≤ top + t.fall → keeps_from base fallen risen t (giving 0 (top - n) n) u ≡ ltb 0 u.rise
  gives-beyond n most many legal =
      let x : Mark = mark_after t (giving 0 (top - n) n) in
      by-rising base ((fallen - t.fall) + x.fall) ((risen - t.rise) + x.rise) x u
      (legal-is x (base - (((fallen - t.fall) + x.fall) - x.fall)) (omega arith) (omega arith))
      (legal-over x (base + (((risen - t.rise) + x.rise) - x.rise)) (omega arith))

  -- from the reply that there is no room for n
  pub full-within : (n : ℕ) → n ≤ top → top + t.fall < n + base + t.above → top + t.fall < (base - (fallen - t.fall)) + n + t.above → keeps_from base fallen risen t (reading (top - n + 1) top) u ≡ false
  full-within n most refused far =
      let x : Mark = mark_after t (reading (top - n + 1) top) in
      by-nobody base ((fallen - t.fall) + x.fall) ((risen - t.rise) + x.rise) x u
      (legal-is x (base - (((fallen - t.fall) + x.fall) - x.fall)) (omega arith) (omega arith))
      (legal-is x (base + (((risen - t.rise) + x.rise) - x.rise)) (omega arith) (omega arith))
      (legal-is u (base - (((fallen - t.fall) + x.fall) - u.fall)) (omega arith) (omega arith))
      (legal-is u (base + (((risen - t.rise) + x.rise) - u.rise)) (omega arith) (omega arith))

  pub full-beyond : (n : ℕ) → n ≤ top → top + t.fall < n + base + t.above → (base - (fallen - t.fall)) + n + t.above ≤ top + t.fall → keeps_from base fallen risen t (reading (top - n + 1) top) u ≡ ltb 0 u.fall
  full-beyond n most refused near =
      let x : Mark = mark_after t (reading (top - n + 1) top) in
      by-falling base ((fallen - t.fall) + x.fall) ((risen - t.rise) + x.rise) x u
      (legal-under x (base - (((fallen - t.fall) + x.fall) - x.fall)) (omega arith))
      (legal-is x (base + (((risen - t.rise) + x.rise) - x.rise)) (omega arith) (omega arith))

-- ---- who does so alone

-- what is known of another's mark beside t's: together they fall and rise no further than all do
pub record IsBeside (fallen risen : ℕ) (t u : Mark) : Type 0 where
  pub fall : t.fall + u.fall ≤ fallen
  pub rise : t.rise + u.rise ≤ risen

-- who has the mark u alone keeps who has the mark t from an operation of these bounds
abbrev pub alone_from : ℕ → Mark → Bounded → Mark → Bool
alone_from base t b u = mark_keeps_alone base (mark_after t b) u

module _ (base : ℕ) (x u : Mark) where
  by-lowest : (m n : ℕ) → is_legal_from x (base + u.rise) ≡ true → (m < n → is_legal_from x (base - u.fall) ≡ false) → (n ≤ m → is_legal_from x (base - u.fall) ≡ true) → mark_keeps_alone base x u ≡ ltb m n
  by-lowest m n high fails holds = elim (cases_lt m n) [
    | inl below ↦ rw (fails below, lt-ltb m n below) refl
    | inr above ↦ rw (holds above, high, le-ltb m n above) refl
  ]

  by-highest : (m n : ℕ) → is_legal_from x (base - u.fall) ≡ true → (m < n → is_legal_from x (base + u.rise) ≡ false) → (n ≤ m → is_legal_from x (base + u.rise) ≡ true) → mark_keeps_alone base x u ≡ ltb m n
  by-highest m n low fails holds = elim (cases_lt m n) [
    | inl below ↦ rw (low, fails below, lt-ltb m n below) refl
    | inr above ↦ rw (low, holds above, le-ltb m n above) refl
  ]

  -- where all is legal from base, who alone keeps t moves the number there
  lone-cases : x.floor ≤ base → base < x.ceiling → mark_keeps_alone base x u ≡ true → (base < x.floor + u.fall) ⊎ (x.ceiling ≤ base + u.rise)
  lone-cases low high alone = elim (cases_lt base (x.floor + u.fall)) [
    | inl under ↦ inl under
    | inr fits ↦ elim (cases_lt (base + u.rise) x.ceiling) [
      | inl below ↦
          let both = rw (legal-is x (base - u.fall) (omega (arith, fits)) (omega (arith, high)), legal-is x (base + u.rise) (omega (arith, low)) below) at alone in
          absurd (false≢true both)
      | inr over ↦ inr over
    ]
  ]

module _ (base fallen risen : ℕ) (t u : Mark) (b : Bounded) (beside : IsBeside fallen risen t u) where
  -- so who does so alone is one of those that do, where the operation is legal for t
  pub lone-keeps : fallen ≤ base → (mark_after t b).floor ≤ base → base < (mark_after t b).ceiling → alone_from base t b u ≡ true → keeps_from base fallen risen t b u ≡ true
  lone-keeps whole low high alone =
      let x : Mark = mark_after t b in
      let fall = beside.fall in
      let rise = beside.rise in
      elim (lone-cases base x u low high alone) [
        | inl under ↦
            rw (legal-under x (base - (((fallen - t.fall) + x.fall) - x.fall)) (omega (arith, under, fall, low, whole)), lt-ltb 0 u.fall (omega (arith, under, low))) refl
        | inr over ↦
            rw (legal-over x (base + (((risen - t.rise) + x.rise) - x.rise)) (omega (arith, over, rise)), lt-ltb 0 u.rise (omega (arith, over, high)))
            (highest (is_low base ((fallen - t.fall) + x.fall) x) (not (is_low base ((fallen - t.fall) + x.fall) u && is_high base ((risen - t.rise) + x.rise) u)) (nat_lt 0 u.fall))
      ]
    where
      highest : (low none down : Bool) → cond (low && false) none ((not low && down) || true) ≡ true
      highest true none down = refl
      highest false none true = refl
      highest false none false = refl

module _ (base top fallen risen : ℕ) (t u : Mark) (fits : FitsIn top base t) (firm : IsFirmAt base fallen risen t) (room : base + risen ≤ top) (beside : IsBeside fallen risen t u) where
  -- from a take: who falls so far that there is too little for t
  pub takes-alone : (n : ℕ) → n + t.fall ≤ base + t.above → alone_from base t (taking n top n) u ≡ ltb (base + t.above) (n + t.fall + u.fall)
  takes-alone n legal =
      let x : Mark = mark_after t (taking n top n) in
      by-lowest base x u (base + t.above) (n + t.fall + u.fall)
      (legal-is x (base + u.rise) (omega arith) (omega arith))
      (λ below. legal-under x (base - u.fall) (omega arith))
      (λ above. legal-is x (base - u.fall) (omega arith) (omega arith))

  -- from the reply that there is less than n: who rises so far that there is as much
  pub short-alone : (n : ℕ) → base + t.above < n + t.fall → alone_from base t (reading 0 (n - 1)) u ≡ ltb (n + t.fall) (base + u.rise + t.above + 1)
  short-alone n refused =
      let x : Mark = mark_after t (reading 0 (n - 1)) in
      by-highest base x u (n + t.fall) (base + u.rise + t.above + 1)
      (legal-is x (base - u.fall) (omega arith) (omega arith))
      (λ below. legal-over x (base + u.rise) (omega arith))
      (λ above. legal-is x (base + u.rise) (omega arith) (omega arith))

  -- from a give: who rises so far that there is too little room for t
  pub gives-alone : (n : ℕ) → n ≤ top → n + base + t.above ≤ top + t.fall → alone_from base t (giving 0 (top - n) n) u ≡ ltb (top + t.fall) (n + base + u.rise + t.above)
  gives-alone n most legal =
      let x : Mark = mark_after t (giving 0 (top - n) n) in
      by-highest base x u (top + t.fall) (n + base + u.rise + t.above)
      (legal-is x (base - u.fall) (omega arith) (omega arith))
      (λ below. legal-over x (base + u.rise) (omega arith))
      (λ above. legal-is x (base + u.rise) (omega arith) (omega arith))

  -- from the reply that there is no room for n: who falls so far that there is
  pub full-alone : (n : ℕ) → n ≤ top → top + t.fall < n + base + t.above → alone_from base t (reading (top - n + 1) top) u ≡ ltb ((base - u.fall) + n + t.above) (top + t.fall + 1)
  full-alone n most refused =
      let x : Mark = mark_after t (reading (top - n + 1) top) in
      by-lowest base x u ((base - u.fall) + n + t.above) (top + t.fall + 1)
      (legal-is x (base + u.rise) (omega arith) (omega arith))
      (λ below. legal-under x (base - u.fall) (omega arith))
      (λ above. legal-is x (base - u.fall) (omega arith) (omega arith))
