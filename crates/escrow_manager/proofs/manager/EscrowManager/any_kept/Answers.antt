use Rattle.std.proofs.Common.{◌≡◌, ℕ, ◌+◌, ◌-◌, ◌≤◌, refl, sym, ap, subst, ◌∙◌, arith}
use Rattle.escrow_laws.specs.Marks.{FitsIn}
use Rattle.escrow_laws.specs.declared.mark.Mark.{Mark}
use Rattle.number_types.specs.Number.{Number}
use Rattle.object_trait.specs.Meaning.{Meaning}
use Rattle.escrow_manager.specs.Numeric.{greatest}
use Rattle.escrow_manager.specs.KeptAmount.{IsFreeFrom, IsFreeUpTo, first_kept, first_beyond, last_refused}
use Rattle.escrow_manager.specs.declared.totals.Totals.{Totals}
use Rattle.escrow_manager.specs.declared.way.Way.{Way}
use Rattle.escrow_manager.proofs.Keeping.{mark_at, fits-of, top-small}
use Rattle.escrow_manager.proofs.Keepers.{base-seen, room-of}
use Rattle.escrow_manager.proofs.KeptAmounts.{fits-wide, never-kept, by-last}
use Rattle.escrow_manager.proofs.manager.EscrowManager.any_kept.Goals as goal

-- the base that was read is the object's, and the marks are its
base : (c : goal.After-saturating_sub-up) → c.state-base.result ≡ c.args.self.now.base
base c = base-seen c.totals-totals.ensures.1 c.state-base.result c.state-base.ensures.exact

wide : (c : goal.After-saturating_sub-up) (u : ℕ) (x : Mark) → x ≡ mark_at c.args.self.now u → FitsIn 4294967295 c.state-base.result x
wide c u x is =
    let h = c.totals-totals.ensures.1 in
    let m : Meaning = c.args.self.now in
    subst (λ b. FitsIn 4294967295 b x) (sym (base c))
    (subst (λ y. FitsIn 4294967295 m.base y) (sym is) (fits-wide (greatest m.checked) m.base (mark_at m u) (top-small h) (fits-of h c.marks_fit.ensures c.firm_is_legal.ensures u)))

pub first_kept-kept-requires-clause-fallen : goal.first_kept-kept-requires-clause-fallen
first_kept-kept-requires-clause-fallen c =
    let is = base c in
    let room = room-of c.totals-totals.ensures.1 c.extremes_tell_firm.ensures in
    omega (arith, is, room.0)

risen : (c : goal.After-saturating_sub-up) → c.state-base.result + c.totals-totals.result.risen ≤ 4294967295
risen c =
    let is = base c in
    let room = room-of c.totals-totals.ensures.1 c.extremes_tell_firm.ensures in
    let top = top-small c.totals-totals.ensures.1 in
    omega (arith, is, room.1, top)

pub first_kept-kept-requires-clause-risen : goal.first_kept-kept-requires-clause-risen
first_kept-kept-requires-clause-risen c = risen c

pub first_kept-kept-requires-clause-own : goal.first_kept-kept-requires-clause-own
first_kept-kept-requires-clause-own c = wide c c.args.t c.mark_of-own.result c.mark_of-own.ensures

pub first_kept-kept-requires-clause-other : goal.first_kept-kept-requires-clause-other
first_kept-kept-requires-clause-other c = wide c c.args.u c.mark_of-other.result c.mark_of-other.ensures

-- a function of five, of the same
of_same : (f : ℕ → ℕ → Mark → ℕ → ℕ → ℕ) {a b c d : ℕ} {x y : Mark} {p q r s : ℕ} → a ≡ b → c ≡ d → x ≡ y → p ≡ q → r ≡ s → f a c x p r ≡ f b d y q s
of_same f one two three four five = rw (one, two, three, four, five) refl

-- so far all others fall and rise
down-fits : (c : goal.After-saturating_sub-up) (d : ℕ) → d ≤ c.totals-totals.result.fallen → d ≤ c.state-base.result
down-fits c d less =
    let is = base c in
    let room = room-of c.totals-totals.ensures.1 c.extremes_tell_firm.ensures in
    omega (arith, is, room.0, less)

up-fits : (c : goal.After-saturating_sub-up) (r : ℕ) → r ≤ c.totals-totals.result.risen → c.state-base.result + r ≤ 4294967295
up-fits c r less = let all = risen c in omega (arith, all, less)

-- and so far u
its-fits : (c : goal.After-saturating_sub-up) → FitsIn 4294967295 c.state-base.result c.mark_of-other.result
its-fits c = wide c c.args.u c.mark_of-other.result c.mark_of-other.ensures

own-fits : (c : goal.After-saturating_sub-up) → FitsIn 4294967295 c.state-base.result c.mark_of-own.result
own-fits c = wide c c.args.t c.mark_of-own.result c.mark_of-own.ensures

pub first_beyond-beyond-requires-clause-down : goal.first_beyond-beyond-requires-clause-down
first_beyond-beyond-requires-clause-down c = let less = c.before.saturating_sub-down.ensures in down-fits (c.before) c.saturating_sub-down.result (omega (arith, less))

pub first_beyond-beyond-requires-clause-up : goal.first_beyond-beyond-requires-clause-up
first_beyond-beyond-requires-clause-up c = let less = c.before.saturating_sub-up.ensures in up-fits (c.before) c.saturating_sub-up.result (omega (arith, less))

pub first_beyond-beyond-requires-clause-own : goal.first_beyond-beyond-requires-clause-own
first_beyond-beyond-requires-clause-own c = own-fits c.before

pub first_beyond-alone-requires-clause-down : goal.first_beyond-alone-requires-clause-down
first_beyond-alone-requires-clause-down c = (its-fits c.before.before).down

pub first_beyond-alone-requires-clause-up : goal.first_beyond-alone-requires-clause-up
first_beyond-alone-requires-clause-up c = (its-fits c.before.before).up

pub first_beyond-alone-requires-clause-own : goal.first_beyond-alone-requires-clause-own
first_beyond-alone-requires-clause-own c = own-fits c.before.before

pub last_refused-refused-requires-clause-down : goal.last_refused-refused-requires-clause-down
last_refused-refused-requires-clause-down c = let less = c.before.before.before.saturating_sub-down.ensures in down-fits (c.before.before.before) c.saturating_sub-down.result (omega (arith, less))

pub last_refused-refused-requires-clause-up : goal.last_refused-refused-requires-clause-up
last_refused-refused-requires-clause-up c = let less = c.before.before.before.saturating_sub-up.ensures in up-fits (c.before.before.before) c.saturating_sub-up.result (omega (arith, less))

pub last_refused-refused-requires-clause-own : goal.last_refused-refused-requires-clause-own
last_refused-refused-requires-clause-own c = own-fits c.before.before.before

pub last_refused-untrue-requires-clause-down : goal.last_refused-untrue-requires-clause-down
last_refused-untrue-requires-clause-down c = (its-fits c.before.before.before.before).down

pub last_refused-untrue-requires-clause-up : goal.last_refused-untrue-requires-clause-up
last_refused-untrue-requires-clause-up c = (its-fits c.before.before.before.before).up

pub last_refused-untrue-requires-clause-own : goal.last_refused-untrue-requires-clause-own
last_refused-untrue-requires-clause-own c = own-fits c.before.before.before.before

-- the amounts that are tried
pub returns : goal.returns
returns c =
    let v : Number = c.args.number.now in
    let m : Meaning = c.args.self.now in
    let way : Way = c.args.way in
    let t : ℕ = c.args.t in
    let u : ℕ = c.args.u in
    let h = c.totals-totals.ensures.1 in
    let totals : Totals = c.totals-totals.result in
    let own : Mark = mark_at m t in
    let its : Mark = mark_at m u in
    let begun : c.state-base.result ≡ m.base = base-seen h c.state-base.result c.state-base.ensures.exact in
    let top : c.max-top.result ≡ v.max = c.max-top.ensures in
    let down : c.saturating_sub-down.result ≡ totals.fallen - own.fall = c.saturating_sub-down.ensures ∙ ap (λ (x : Mark). totals.fallen - x.fall) c.mark_of-own.ensures in
    let up : c.saturating_sub-up.result ≡ totals.risen - own.rise = c.saturating_sub-up.ensures ∙ ap (λ (x : Mark). totals.risen - x.rise) c.mark_of-own.ensures in
    let kept : c.first_kept-kept.result ≡ first_kept way m.base totals own its =
    c.first_kept-kept.ensures ∙ ap (λ b. first_kept way b totals c.mark_of-own.result c.mark_of-other.result) begun
    ∙ ap (λ x. first_kept way m.base totals x c.mark_of-other.result) c.mark_of-own.ensures ∙ ap (first_kept way m.base totals own) c.mark_of-other.ensures in
    let beyond : c.first_beyond-beyond.result ≡ first_beyond way v.max m.base own (totals.fallen - own.fall) (totals.risen - own.rise) =
    c.first_beyond-beyond.ensures ∙ of_same (first_beyond way) top begun c.mark_of-own.ensures down up in
    let alone : c.first_beyond-alone.result ≡ first_beyond way v.max m.base own its.fall its.rise =
    c.first_beyond-alone.ensures ∙ of_same (first_beyond way) top begun c.mark_of-own.ensures (ap (λ (x : Mark). x.fall) c.mark_of-other.ensures) (ap (λ (x : Mark). x.rise) c.mark_of-other.ensures) in
    let refused : c.last_refused-refused.result ≡ last_refused way v.max m.base own (totals.fallen - own.fall) (totals.risen - own.rise) =
    c.last_refused-refused.ensures ∙ of_same (last_refused way) top begun c.mark_of-own.ensures down up in
    let untrue : c.last_refused-untrue.result ≡ last_refused way v.max m.base own its.fall its.rise =
    c.last_refused-untrue.ensures ∙ of_same (last_refused way) top begun c.mark_of-own.ensures (ap (λ (x : Mark). x.fall) c.mark_of-other.ensures) (ap (λ (x : Mark). x.rise) c.mark_of-other.ensures) in
    by-last m v way t c.args.place u c.last_refused-untrue.result
    (λ last. never-kept h c.marks_are_exact.ensures c.marks_fit.ensures c.marks_tell.ensures c.extremes_tell_firm.ensures c.firm_is_legal.ensures v c.calls-calls.ensures.number c.requires.number c.number_tells_bounds.ensures way t u c.args.place
    (omega arith) c.requires.place c.requires.call
    (subst (IsFreeFrom v way m t c.args.place u) kept c.in_default.ensures)
    (subst (IsFreeFrom v way m t c.args.place u) beyond c.in_default-kept_with.ensures)
    (subst (IsFreeFrom v way m t c.args.place u) alone c.in_default-kept_with-2.ensures)
    (subst (IsFreeUpTo v way m t (c.args.place + 1) u) refused c.in_default-kept_up_to.ensures)
    (subst (IsFreeUpTo v way m t (c.args.place + 1) u) untrue last))
    c.kept_up_to-2.result c.kept_up_to-2.ensures
