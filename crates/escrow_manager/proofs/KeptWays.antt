-- Whom a transaction is kept by from some amount of a call keeps it from one of a few.
use Rattle.std.proofs.Common.{◌≡◌, ℕ, ◌+◌, ◌-◌, ◌<◌, ◌≤◌, ◌⊎◌, true, sym, ◌∙◌, inl, inr, arith}
use Rattle.std.specs.Prelude.{min}
use Rattle.std.proofs.lemmas.Bool.{cases_lt, false≢true, ltb-true, lt-ltb}
use Rattle.escrow_laws.specs.Marks.{FitsIn}
use Rattle.escrow_laws.specs.declared.bounded.Bounded.{Bounded}
use Rattle.escrow_laws.specs.declared.mark.Mark.{Mark}
use Rattle.number_types.specs.declared.number_op.NumberOp.{NumberOp}
use Rattle.number_types.specs.Operations.{op_bounds, taking, giving, reading}
use Rattle.escrow_manager.specs.KeptAmount.{moving, refusing, first_kept, first_beyond, last_refused}
use Rattle.escrow_manager.specs.declared.totals.Totals.{Totals}
use Rattle.escrow_manager.specs.declared.way.Way.{Way}
use Rattle.escrow_manager.specs.declared.way.Way.TheVariants.{Take, Give}
use Rattle.escrow_manager.proofs.KeptMarks.{IsFirmAt, IsBeside, keeps_from, alone_from, takes-alone, short-alone, gives-alone, full-alone, takes-within, takes-beyond, short-within, short-beyond, gives-within, gives-beyond, full-within, full-beyond}

-- what is known of a mark where all is firm and has these totals
abbrev pub IsFirmBy : ℕ → Totals → Mark → Type 0
IsFirmBy base totals x = IsFirmAt base totals.fallen totals.risen x

abbrev pub IsBesideBy : Totals → Mark → Mark → Type 0
IsBesideBy totals t x = IsBeside totals.fallen totals.risen t x

-- what is known of others' marks
pub record IsOther (base : ℕ) (totals : Totals) (t v : Mark) : Type 0 where
  pub firm : IsFirmBy base totals v
  pub beside : IsBesideBy totals t v

-- u alone keeps t from an operation of the bounds d, and whoever alone keeps it from that does so from one of the bounds b
pub record LoneAlike (base : ℕ) (totals : Totals) (t u : Mark) (b d : Bounded) : Type 0 where
  pub fewer : (v : Mark) → IsOther base totals t v → alone_from base t d v ≡ true → alone_from base t b v ≡ true
  pub still : alone_from base t d u ≡ true

-- u keeps t from an operation of the bounds d; and whoever keeps it from that, or does so alone, does so from one of the bounds b
pub record KeepsAlike (base : ℕ) (totals : Totals) (t u : Mark) (b d : Bounded) : Type 0 where
  pub fewer : (v : Mark) → IsOther base totals t v → alone_from base t d v ≡ true → alone_from base t b v ≡ true
  pub each : (v : Mark) → IsOther base totals t v → keeps_from base totals.fallen totals.risen t d v ≡ true → keeps_from base totals.fallen totals.risen t b v ≡ true
  pub still : keeps_from base totals.fallen totals.risen t d u ≡ true

-- so it is for n, and each amount from one up to another
pub record AreAlike (Alike : Bounded → Bounded → Type 0) (top : ℕ) (op : ℕ → NumberOp) (least n most : ℕ) : Type 0 where
  pub above : least ≤ n
  pub below : n ≤ most
  pub alike : (c : ℕ) → least ≤ c → c ≤ most → Alike (op_bounds top (op n)) (op_bounds top (op c))

module _ (base top : ℕ) (totals : Totals) (t u : Mark) (fits : FitsIn top base t) (firm : IsFirmBy base totals t) (other : IsOther base totals t u) (room : base + totals.risen ≤ top) (seen : ℕ) (sees : seen + t.fall ≡ base + t.above) where
  -- all others together
  abbrev down : ℕ
  down = totals.fallen - t.fall

  abbrev up : ℕ
  up = totals.risen - t.rise

  -- ---- what is moved

  -- the less is moved, the fewer keep t from it alone
  takes-fewer : (n c : ℕ) → n ≤ seen → c ≤ n → (v : Mark) → IsOther base totals t v → alone_from base t (taking c top c) v ≡ true → alone_from base t (taking n top n) v ≡ true
  takes-fewer n c legal less v sure alone =
      let of = takes-alone base top totals.fallen totals.risen t v fits firm room sure.beside in
      let past = ltb-true (base + t.above) (c + t.fall + v.fall) (sym (of c (omega (arith, legal, less))) ∙ alone) in
      of n (omega (arith, legal)) ∙ lt-ltb (base + t.above) (n + t.fall + v.fall) (omega (arith, past, less))

  gives-fewer : (n c : ℕ) → n ≤ top → seen + n ≤ top → c ≤ n → (v : Mark) → IsOther base totals t v → alone_from base t (giving 0 (top - c) c) v ≡ true → alone_from base t (giving 0 (top - n) n) v ≡ true
  gives-fewer n c most legal less v sure alone =
      let of = gives-alone base top totals.fallen totals.risen t v fits firm room sure.beside in
      let past = ltb-true (top + t.fall) (c + base + v.rise + t.above) (sym (of c (omega (arith, most, less)) (omega (arith, legal, less))) ∙ alone) in
      of n most (omega (arith, legal)) ∙ lt-ltb (top + t.fall) (n + base + v.rise + t.above) (omega (arith, past, less))

  -- u does so from the least that is too much beside him
  pub moving-lone : (way : Way) (n : ℕ) → n ≤ top → (op_bounds top (moving way n)).low ≤ seen → seen ≤ (op_bounds top (moving way n)).high → alone_from base t (op_bounds top (moving way n)) u ≡ true →
      AreAlike (LoneAlike base totals t u) top (moving way) (first_beyond way top base t u.fall u.rise) n n
  moving-lone Take n most low high alone =
      let of = takes-alone base top totals.fallen totals.risen t u fits firm room other.beside in
      let past = ltb-true (base + t.above) (n + t.fall + u.fall) (sym (of n (omega (arith, low))) ∙ alone) in
      record {
        above = omega (arith, past);
        below = omega arith;
        alike = λ c from less. record {
          fewer = takes-fewer n c low less;
          still = of c (omega (arith, low, less)) ∙ lt-ltb (base + t.above) (c + t.fall + u.fall) (omega (arith, from));
        };
      }
  moving-lone Give n most low high alone =
      let of = gives-alone base top totals.fallen totals.risen t u fits firm room other.beside in
      let past = ltb-true (top + t.fall) (n + base + u.rise + t.above) (sym (of n most (omega (arith, high, most))) ∙ alone) in
      record {
        above = omega (arith, past);
        below = omega arith;
        alike = λ c from less. record {
          fewer = gives-fewer n c most (omega (arith, high, most)) less;
          still = of c (omega (arith, most, less)) (omega (arith, high, most, less)) ∙ lt-ltb (top + t.fall) (c + base + u.rise + t.above) (omega (arith, from));
        };
      }

  -- where all who fall keep t, or all who rise do, each amount is like the next
  takes-far : (n : ℕ) → base + t.above < n + totals.fallen → n ≤ seen → keeps_from base totals.fallen totals.risen t (taking n top n) u ≡ true →
      AreAlike (KeepsAlike base totals t u) top (moving Take) (first_beyond Take top base t down up) n n
  takes-far n many legal kept = record {
    above = omega arith;
    below = omega arith;
    alike = λ c from less.
        let same : (v : Mark) → IsOther base totals t v → keeps_from base totals.fallen totals.risen t (taking c top c) v ≡ keeps_from base totals.fallen totals.risen t (taking n top n) v =
        λ v sure. takes-beyond base top totals.fallen totals.risen t v fits firm sure.firm room c (omega arith) (omega arith) ∙ sym (takes-beyond base top totals.fallen totals.risen t v fits firm sure.firm room n many (omega arith)) in
        record { fewer = takes-fewer n c legal less; each = λ v sure keeps. sym (same v sure) ∙ keeps; still = same u other ∙ kept };
  }

  -- else a smaller amount is kept by fewer
  takes-near : (n : ℕ) → n ≤ seen → n + totals.fallen ≤ base + t.above → keeps_from base totals.fallen totals.risen t (taking n top n) u ≡ true → AreAlike (KeepsAlike base totals t u) top (moving Take) (first_kept Take base totals t u) n n
  takes-near n legal few kept =
      let within = λ (v : Mark) (sure : IsOther base totals t v) (c : ℕ) (less : c ≤ n). takes-within base top totals.fallen totals.risen t v fits firm sure.firm room c (omega (arith, less, few)) in
      let far = ltb-true (base + t.above + u.fall) (n + totals.fallen + u.floor) (sym (within u other n (omega arith)) ∙ kept) in
      record {
        above = omega (arith, far);
        below = omega arith;
        alike = λ c from less. record {
          fewer = takes-fewer n c legal less;
          each = λ v sure keeps.
              let past = ltb-true (base + t.above + v.fall) (c + totals.fallen + v.floor) (sym (within v sure c less) ∙ keeps) in
              within v sure n (omega arith) ∙ lt-ltb (base + t.above + v.fall) (n + totals.fallen + v.floor) (omega (arith, past, less));
          still = within u other c less ∙ lt-ltb (base + t.above + u.fall) (c + totals.fallen + u.floor) (omega (arith, from));
        };
      }

  gives-far : (n : ℕ) → n ≤ top → top + t.fall < n + base + (totals.risen - t.rise) + t.above → seen + n ≤ top → keeps_from base totals.fallen totals.risen t (giving 0 (top - n) n) u ≡ true →
      AreAlike (KeepsAlike base totals t u) top (moving Give) (first_beyond Give top base t down up) n n
  gives-far n most many legal kept = record {
    above = omega arith;
    below = omega arith;
    alike = λ c from less.
        let same : (v : Mark) → IsOther base totals t v → keeps_from base totals.fallen totals.risen t (giving 0 (top - c) c) v ≡ keeps_from base totals.fallen totals.risen t (giving 0 (top - n) n) v =
        λ v sure. gives-beyond base top totals.fallen totals.risen t v fits firm sure.firm room c (omega arith) (omega arith) (omega arith)
        ∙ sym (gives-beyond base top totals.fallen totals.risen t v fits firm sure.firm room n most many (omega arith)) in
        record { fewer = gives-fewer n c most legal less; each = λ v sure keeps. sym (same v sure) ∙ keeps; still = same u other ∙ kept };
  }

  gives-near : (n : ℕ) → n ≤ top → seen + n ≤ top → n + base + (totals.risen - t.rise) + t.above ≤ top + t.fall → keeps_from base totals.fallen totals.risen t (giving 0 (top - n) n) u ≡ true →
      AreAlike (KeepsAlike base totals t u) top (moving Give) (first_kept Give base totals t u) n n
  gives-near n most legal few kept =
      let risen : ℕ = base + (totals.risen - t.rise) + t.above in
      let within = λ (v : Mark) (sure : IsOther base totals t v) (c : ℕ) (less : c ≤ n). gives-within base top totals.fallen totals.risen t v fits firm sure.firm room c (omega (arith, less, most)) (omega (arith, less, few)) in
      let far = ltb-true (u.ceiling + u.rise + t.fall) (n + base + (totals.risen - t.rise) + t.above + 1) (sym (within u other n (omega arith)) ∙ kept) in
      record {
        above = omega (arith, far);
        below = omega arith;
        alike = λ c from less. record {
          fewer = gives-fewer n c most legal less;
          each = λ v sure keeps.
              let past = ltb-true (v.ceiling + v.rise + t.fall) (c + base + (totals.risen - t.rise) + t.above + 1) (sym (within v sure c less) ∙ keeps) in
              within v sure n (omega arith) ∙ lt-ltb (v.ceiling + v.rise + t.fall) (n + base + (totals.risen - t.rise) + t.above + 1) (omega (arith, past, less));
          still = within u other c less ∙ lt-ltb (u.ceiling + u.rise + t.fall) (c + base + (totals.risen - t.rise) + t.above + 1) (omega (arith, from));
        };
      }

  -- what is moved
  pub moving-alike : (way : Way) (n : ℕ) → n ≤ top → (op_bounds top (moving way n)).low ≤ seen → seen ≤ (op_bounds top (moving way n)).high →
      keeps_from base totals.fallen totals.risen t (op_bounds top (moving way n)) u ≡ true →
      AreAlike (KeepsAlike base totals t u) top (moving way) (first_kept way base totals t u) n n ⊎ AreAlike (KeepsAlike base totals t u) top (moving way) (first_beyond way top base t down up) n n
  moving-alike Take n most low high kept = elim (cases_lt (base + t.above) (n + totals.fallen)) [
    | inl many ↦ inr (takes-far n many low kept)
    | inr few ↦ inl (takes-near n low few kept)
  ]
  moving-alike Give n most low high kept = elim (cases_lt (top + t.fall) (n + base + (totals.risen - t.rise) + t.above)) [
    | inl many ↦ inr (gives-far n most many (omega (arith, high, most)) kept)
    | inr few ↦ inl (gives-near n most (omega (arith, high, most)) few kept)
  ]

  -- ---- what is refused

  -- the more is refused, the fewer keep t from that alone
  short-fewer : (n c : ℕ) → base + t.above < n + t.fall → n ≤ c → (v : Mark) → IsOther base totals t v → alone_from base t (reading 0 (c - 1)) v ≡ true → alone_from base t (reading 0 (n - 1)) v ≡ true
  short-fewer n c refused more v sure alone =
      let of = short-alone base top totals.fallen totals.risen t v fits firm room sure.beside in
      let past = ltb-true (c + t.fall) (base + v.rise + t.above + 1) (sym (of c (omega (arith, refused, more))) ∙ alone) in
      of n refused ∙ lt-ltb (n + t.fall) (base + v.rise + t.above + 1) (omega (arith, past, more))

  full-fewer : (n c : ℕ) → c ≤ top → top + t.fall < n + base + t.above → n ≤ c → (v : Mark) → IsOther base totals t v →
      alone_from base t (reading (top - c + 1) top) v ≡ true → alone_from base t (reading (top - n + 1) top) v ≡ true
  full-fewer n c most refused more v sure alone =
      let of = full-alone base top totals.fallen totals.risen t v fits firm room sure.beside in
      let past = ltb-true ((base - v.fall) + c + t.above) (top + t.fall + 1) (sym (of c most (omega (arith, refused, more))) ∙ alone) in
      of n (omega (arith, most, more)) refused ∙ lt-ltb ((base - v.fall) + n + t.above) (top + t.fall + 1) (omega (arith, past, more))

  -- an amount up to the greatest there is
  abbrev bounded : ℕ → ℕ
  bounded n = min n top

  -- u does so up to the last that is untrue beside him
  pub refusing-lone : (way : Way) (n : ℕ) → n ≤ top → (op_bounds top (refusing way n)).low ≤ seen → seen ≤ (op_bounds top (refusing way n)).high → 1 ≤ n → alone_from base t (op_bounds top (refusing way n)) u ≡ true →
      AreAlike (LoneAlike base totals t u) top (refusing way) n n (bounded (last_refused way top base t u.fall u.rise))
  refusing-lone Take n most low high some alone =
      let of = short-alone base top totals.fallen totals.risen t u fits firm room other.beside in
      let past = ltb-true (n + t.fall) (base + u.rise + t.above + 1) (sym (of n (omega (arith, high, some))) ∙ alone) in
      record {
        above = omega arith;
        below = omega (arith, past, most);
        alike = λ c more to. record {
          fewer = short-fewer n c (omega (arith, high, some)) more;
          still = of c (omega (arith, high, some, more)) ∙ lt-ltb (c + t.fall) (base + u.rise + t.above + 1) (omega (arith, to, more, some));
        };
      }
  refusing-lone Give n most low high some alone =
      let of = full-alone base top totals.fallen totals.risen t u fits firm room other.beside in
      let past = ltb-true ((base - u.fall) + n + t.above) (top + t.fall + 1) (sym (of n most (omega (arith, low, most))) ∙ alone) in
      record {
        above = omega arith;
        below = omega (arith, past, most);
        alike = λ c more to. record {
          fewer = full-fewer n c (omega (arith, to)) (omega (arith, low, most)) more;
          still = of c (omega (arith, to)) (omega (arith, low, most, more)) ∙ lt-ltb ((base - u.fall) + c + t.above) (top + t.fall + 1) (omega (arith, to, more, some));
        };
      }

  pub refusing-alike : (way : Way) (n : ℕ) → 1 ≤ n → n ≤ top → (op_bounds top (refusing way n)).low ≤ seen → seen ≤ (op_bounds top (refusing way n)).high →
      keeps_from base totals.fallen totals.risen t (op_bounds top (refusing way n)) u ≡ true →
      AreAlike (KeepsAlike base totals t u) top (refusing way) n n (bounded (last_refused way top base t down up))
  refusing-alike Take n some most low high kept =
      let far : base + t.above < n + t.fall = omega (arith, high, some) in
      let near : n + t.fall ≤ base + (totals.risen - t.rise) + t.above =
      elim (cases_lt (base + (totals.risen - t.rise) + t.above) (n + t.fall)) [
        | inl beyond ↦ absurd (false≢true (sym (short-within base top totals.fallen totals.risen t u fits firm other.firm room n far beyond) ∙ kept))
        | inr near ↦ near
      ] in
      record {
        above = omega arith;
        below = omega (arith, near, most);
        alike = λ c more to.
            let same : (v : Mark) → IsOther base totals t v → keeps_from base totals.fallen totals.risen t (reading 0 (c - 1)) v ≡ keeps_from base totals.fallen totals.risen t (reading 0 (n - 1)) v =
            λ v sure. short-beyond base top totals.fallen totals.risen t v fits firm sure.firm room c (omega (arith, far, more)) (omega (arith, to, more, some))
            ∙ sym (short-beyond base top totals.fallen totals.risen t v fits firm sure.firm room n far near) in
            record { fewer = short-fewer n c far more; each = λ v sure keeps. sym (same v sure) ∙ keeps; still = same u other ∙ kept };
      }
  refusing-alike Give n some most low high kept =
      let far : top + t.fall < n + base + t.above = omega (arith, low, most) in
      let near : (base - (totals.fallen - t.fall)) + n + t.above ≤ top + t.fall =
      elim (cases_lt (top + t.fall) ((base - (totals.fallen - t.fall)) + n + t.above)) [
        | inl beyond ↦ absurd (false≢true (sym (full-within base top totals.fallen totals.risen t u fits firm other.firm room n most far beyond) ∙ kept))
        | inr near ↦ near
      ] in
      record {
        above = omega arith;
        below = omega (arith, near, most);
        alike = λ c more to.
            let same : (v : Mark) → IsOther base totals t v →
            keeps_from base totals.fallen totals.risen t (reading (top - c + 1) top) v ≡ keeps_from base totals.fallen totals.risen t (reading (top - n + 1) top) v =
            λ v sure. full-beyond base top totals.fallen totals.risen t v fits firm sure.firm room c (omega (arith, to)) (omega (arith, far, more)) (omega (arith, to, more, some))
            ∙ sym (full-beyond base top totals.fallen totals.risen t v fits firm sure.firm room n most far near) in
            record { fewer = full-fewer n c (omega (arith, to)) far more; each = λ v sure keeps. sym (same v sure) ∙ keeps; still = same u other ∙ kept };
      }
