use Rattle.std.proofs.Common.{◌≡◌, ℕ, ◌<◌, true, Some, sym, ap, subst, ◌∙◌, arith}
use Rattle.std.specs.Prelude.{slice_get}
use Rattle.escrow_laws.specs.Marks.{mark_after, is_legal_from}
use Rattle.escrow_laws.specs.declared.mark.Mark.{Mark}
use Rattle.object_trait.specs.Meaning.{Meaning}
use Rattle.escrow_manager.specs.Numeric.{bounds_in, greatest}
use Rattle.escrow_manager.specs.Marks.{IsSmall}
use Rattle.escrow_manager.specs.Totals.{totals_with, AreFirm}
use Rattle.escrow_manager.specs.declared.totals.Totals.{Totals}
use Rattle.escrow_manager.proofs.Telling.{more-short, with-small}
use Rattle.escrow_manager.proofs.Keeping.{meant, mark_at, top-small, sums-of, short-of}
use Rattle.escrow_manager.proofs.Blocking.{mark_with, totals_after, first_of, stopper-none, stopper-marks}
use Rattle.escrow_manager.proofs.manager.EscrowManager.keeper_of.Goals as goal
use Rattle.escrow_manager.proofs.manager.EscrowManager.keeper_of.Goals.{After-marked-mark}

-- the mark is t's in what the manager keeps
exact : (c : After-marked-mark) → c.args.old ≡ mark_at (meant c.self.inside) c.args.t
exact c = c.requires.mark ∙ ap (λ (m : Meaning). mark_at m c.args.t) (sym c.self.view_is)

-- and it stays small
small : (c : After-marked-mark) → IsSmall (greatest c.self.inside.checked.value) c.args.old c.args.op
small c = subst (λ (m : Meaning). IsSmall (greatest m.checked) c.args.old c.args.op) (sym c.self.view_is) c.requires.small

pub marked-mark-requires-clause-fall : goal.marked-mark-requires-clause-fall
marked-mark-requires-clause-fall c =
    let one = subst (λ (m : Meaning). IsSmall (greatest m.checked) c.args.old c.args.op) (sym c.self.view_is) c.requires.small in
    let fall = one.fall in
    let top = top-small c.self.invariant in
    omega (arith, fall, top)

pub marked-mark-requires-clause-above : goal.marked-mark-requires-clause-above
marked-mark-requires-clause-above c =
    let one = subst (λ (m : Meaning). IsSmall (greatest m.checked) c.args.old c.args.op) (sym c.self.view_is) c.requires.small in
    let above = one.above in
    let top = top-small c.self.invariant in
    omega (arith, above, top)

pub with-totals-requires-clause-short : goal.with-totals-requires-clause-short
with-totals-requires-clause-short c =
    more-short (greatest c.self.inside.checked.value) c.args.old c.marked-mark.result c.args.op (top-small c.self.invariant) (small c.before) c.marked-mark.ensures

pub with-totals-requires-clause-fallen : goal.with-totals-requires-clause-fallen
with-totals-requires-clause-fallen c =
    let all = sums-of c.self.invariant c.extremes_tell_firm.ensures in
    let fallen = all.fallen in
    let same = ap (λ (x : Totals). x.fallen) c.self.invariant.summed in
    let top = top-small c.self.invariant in
    omega (arith, fallen, same, top)

pub with-totals-requires-clause-risen : goal.with-totals-requires-clause-risen
with-totals-requires-clause-risen c =
    let all = sums-of c.self.invariant c.extremes_tell_firm.ensures in
    let risen = all.risen in
    let same = ap (λ (x : Totals). x.risen) c.self.invariant.summed in
    let top = top-small c.self.invariant in
    omega (arith, risen, same, top)

-- the totals with the new mark are small
bounded : (c : goal.After-with-totals) → (c.with-totals.result.fallen < 17179869184) × (c.with-totals.result.risen < 17179869184) × (c.with-totals.result.needed < 17179869184)
bounded c =
    let h = c.self.invariant in
    with-small (greatest c.self.inside.checked.value) c.self.inside.marks.items c.self.inside.totals c.with-totals.result c.args.old c.marked-mark.result c.args.op
    (top-small h) h.summed (sums-of h c.extremes_tell_firm.ensures) (small c.before.before) c.marked-mark.ensures c.with-totals.ensures

pub are_firm-requires-clause-fallen : goal.are_firm-requires-clause-fallen
are_firm-requires-clause-fallen c = let few = (bounded c).0 in omega (arith, few)

pub are_firm-requires-clause-risen : goal.are_firm-requires-clause-risen
are_firm-requires-clause-risen c = let few = (bounded c).1 in omega (arith, few)

pub are_firm-requires-clause-needed : goal.are_firm-requires-clause-needed
are_firm-requires-clause-needed c = let few = (bounded c).2 in omega (arith, few)

pub named_keeper-requires-clause-risen : goal.named_keeper-requires-clause-risen
named_keeper-requires-clause-risen c = let few = (bounded c.before.before.before.before).1 in omega (arith, few)

pub named_keeper-requires-clause-short : goal.named_keeper-requires-clause-short
named_keeper-requires-clause-short c = short-of c.self.invariant c.marks_fit.ensures c.firm_is_legal.ensures

-- what t did with it is legal
pub named_keeper-requires-clause-legal : goal.named_keeper-requires-clause-legal
named_keeper-requires-clause-legal c =
    subst (λ x. is_legal_from x c.self.inside.base ≡ true) (sym c.marked-mark.ensures)
    (subst (λ (m : Meaning). is_legal_from (mark_after c.args.old c.args.op) m.base ≡ true) (sym c.self.view_is) c.requires.legal)

-- the totals are those after it
same_mark : (c : goal.After-with-totals) → c.marked-mark.result ≡ mark_with (meant c.self.inside) c.args.t c.args.op
same_mark c = c.marked-mark.ensures ∙ ap (λ (x : Mark). mark_after x c.args.op) (exact c.before.before)

same_totals : (c : goal.After-with-totals) → c.with-totals.result ≡ totals_after (meant c.self.inside) c.self.inside.totals c.args.t c.args.op
same_totals c =
    c.with-totals.ensures ∙ ap (λ (x : Mark). totals_with c.self.inside.totals c.args.old x) (same_mark c)
    ∙ ap (λ (x : Mark). totals_with c.self.inside.totals x (mark_with (meant c.self.inside) c.args.t c.args.op)) (exact c.before.before)

-- the bounds are those of an operation of what the manager keeps
found : (c : After-marked-mark) (k : ℕ) → slice_get (bounds_in c.args.self.now.checked) k ≡ Some c.args.op → slice_get (bounds_in c.self.inside.checked.value) k ≡ Some c.args.op
found c k is = subst (λ (m : Meaning). slice_get (bounds_in m.checked) k ≡ Some c.args.op) (sym c.self.view_is) is

pub returns-then-are_firm : goal.returns-then-are_firm
returns-then-are_firm c = λ k is.
    rw (← c.self.view_is)
    (sym
    (stopper-none c.self.invariant c.args.t k c.args.op (found c.before.before.before.before k is) c.extremes_tell_firm.ensures c.firm_keeps_nobody.ensures
    (subst (λ x. AreFirm c.self.inside.base x) (same_totals c.before.before) (c.are_firm.ensures.0 c.if-are_firm.true))))

pub returns : goal.returns
returns c = λ k is.
    let inside = c.self.inside in
    let m = meant inside in
    let t = c.args.t in
    let log = inside.log.items in
    let marks = inside.marks.items in
    rw (← c.self.view_is)
    (c.named_keeper.ensures ∙ ap (λ x. first_of log marks inside.base x c.marked-mark.result c.greatest-top.result t) (same_totals c.before.before.before.before.before)
    ∙ ap (λ x. first_of log marks inside.base (totals_after m inside.totals t c.args.op) x c.greatest-top.result t) (same_mark c.before.before.before.before.before)
    ∙ ap (λ x. first_of log marks inside.base (totals_after m inside.totals t c.args.op) (mark_with m t c.args.op) x t) (c.greatest-top.ensures.exact ∙ ap greatest c.deref.ensures)
    ∙ sym
    (stopper-marks c.self.invariant t k c.args.op (found c.before.before.before.before.before.before.before k is) c.marks_are_exact.ensures c.marks_fit.ensures c.firm_is_legal.ensures
    c.marks_tell.ensures))
