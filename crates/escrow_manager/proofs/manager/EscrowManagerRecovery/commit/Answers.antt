use Rattle.std.proofs.Common.{◌≡◌, ◌+◌, ◌-◌, All, List, Some, sym, ap, subst, ◌∙◌, arith}
use Rattle.escrow_laws.specs.Marks.{FitsIn, fallen_of, risen_of}
use Rattle.escrow_laws.specs.declared.mark.Mark.{Mark}
use Rattle.escrow_laws.specs.declared.mark.OpenMark.{OpenMark}
use Rattle.object_trait.specs.Meaning.{Meaning, view_of}
use Rattle.object_trait.specs.Steps.{IsCommit}
use Rattle.escrow_manager.specs.Numeric.{greatest}
use Rattle.escrow_manager.specs.Marks.{mark_in, without_mark}
use Rattle.escrow_manager.specs.Totals.{totals_of, HasShortSums}
use Rattle.escrow_manager.specs.Kept.{IsKeptInEscrow}
use Rattle.escrow_manager.specs.declared.totals.Totals.{Totals}
use Rattle.escrow_manager.proofs.Telling.{fits-short}
use Rattle.escrow_manager.proofs.Keeping.{meant, mark_at, all-open, top-small, inside-of, fits-of, fits-32, view-told, short-of, sums-of}
use Rattle.escrow_manager.proofs.Changing.{totals_at, committed, commits-told, committed-kept, kept-told, told-without}
use Rattle.escrow_manager.proofs.manager.EscrowManagerRecovery.commit.Goals as goal

pub place_of-at-requires : goal.place_of-at-requires
place_of-at-requires c = c.self.invariant.listed.ordered

pub mark_at-old-requires-clause-ordered : goal.mark_at-old-requires-clause-ordered
mark_at-old-requires-clause-ordered c = c.self.invariant.listed.ordered

pub drop_mark-requires-clause-ordered : goal.drop_mark-requires-clause-ordered
drop_mark-requires-clause-ordered c = c.self.invariant.listed.ordered

pub number_after-self-inside-requires : goal.number_after-self-inside-requires
number_after-self-inside-requires c =
    let top = c.greatest-top.ensures.exact ∙ ap greatest c.deref.ensures in
    let exact = c.mark_at-old.ensures ∙ ap (λ n. mark_in n c.args.t c.self.inside.marks.items) top ∙ c.self.invariant.listed.exact c.args.t in
    subst (FitsIn 4294967295 c.self.inside.base) (sym exact) (fits-32 c.self.invariant c.marks_fit.ensures c.firm_is_legal.ensures c.args.t)

top_is : (c : goal.After-without-arg-2-1) → c.greatest-top.result ≡ greatest c.self.inside.checked.value
top_is c = c.greatest-top.ensures.exact ∙ ap greatest c.deref.ensures

exact : (c : goal.After-without-arg-2-1) → c.mark_at-old.result ≡ mark_at (meant c.self.inside) c.args.t
exact c = c.mark_at-old.ensures ∙ ap (λ n. mark_in n c.args.t c.self.inside.marks.items) (top_is c) ∙ c.self.invariant.listed.exact c.args.t

-- what t sees
seen : (c : goal.After-without-arg-2-1) → view_of (meant c.self.inside) c.args.t ≡ Some c.number_after-self-inside.result
seen c =
    view-told c.self.invariant c.marks_are_exact.ensures c.firm_is_legal.ensures c.args.t ∙ ap (λ (x : Mark). Some (c.self.inside.base + x.above - x.fall)) (sym (exact c))
    ∙ ap (λ n. Some n) (sym c.number_after-self-inside.ensures)

pub take_out-requires : goal.take_out-requires
take_out-requires c = all-open c.self.invariant

kept : (c : goal.After-without-arg-2-1) →
    IsKeptInEscrow (committed (meant c.self.inside) c.number_after-self-inside.result c.take_out.new.log.items) (without_mark c.args.t c.self.inside.marks.items)
    (totals_at (meant c.self.inside) (without_mark c.args.t c.self.inside.marks.items))
kept c =
    committed-kept c.sound_after_commit.ensures c.marks_are_exact.ensures c.marks_fit.ensures c.firm_is_legal.ensures c.self.invariant c.args.t c.number_after-self-inside.result c.take_out.new.log.items (seen c) c.take_out.ensures

pub without-self-inside-requires-clause-before : goal.without-self-inside-requires-clause-before
without-self-inside-requires-clause-before c =
    let all = sums-of c.self.invariant c.extremes_tell_firm.ensures in
    let fallen = all.fallen in
    let risen = all.risen in
    let down = ap (λ (x : Totals). x.fallen) c.self.invariant.summed in
    let up = ap (λ (x : Totals). x.risen) c.self.invariant.summed in
    let top = top-small c.self.invariant in
    (omega (arith, fallen, down, top), omega (arith, risen, up, top))

pub without-self-inside-requires-clause-old : goal.without-self-inside-requires-clause-old
without-self-inside-requires-clause-old c =
    subst HasShortSums (sym (exact c))
    (fits-short (greatest c.self.inside.checked.value) c.self.inside.base (mark_at (meant c.self.inside) c.args.t) (top-small c.self.invariant) (inside-of c.self.invariant) (fits-of c.self.invariant c.marks_fit.ensures c.firm_is_legal.ensures c.args.t))

pub without-self-inside-requires-clause-short : goal.without-self-inside-requires-clause-short
without-self-inside-requires-clause-short c =
    subst (λ (V : List OpenMark). All (λ (o : OpenMark). HasShortSums o.mark) V) (sym c.drop_mark.ensures) (short-of (kept c) c.marks_fit.ensures c.firm_is_legal.ensures)

pub without-self-inside-requires-clause-fallen : goal.without-self-inside-requires-clause-fallen
without-self-inside-requires-clause-fallen c =
    let all = sums-of (kept c) c.extremes_tell_firm.ensures in
    let few = all.fallen in
    let same = ap (λ (V : List OpenMark). fallen_of V) c.drop_mark.ensures in
    let top = top-small c.self.invariant in
    omega (arith, few, same, top)

pub without-self-inside-requires-clause-risen : goal.without-self-inside-requires-clause-risen
without-self-inside-requires-clause-risen c =
    let all = sums-of (kept c) c.extremes_tell_firm.ensures in
    let few = all.risen in
    let same = ap (λ (V : List OpenMark). risen_of V) c.drop_mark.ensures in
    let top = top-small c.self.invariant in
    omega (arith, few, same, top)

pub without-self-inside-requires-clause-told : goal.without-self-inside-requires-clause-told
without-self-inside-requires-clause-told c =
    told-without c.self.invariant c.args.t c.greatest-top.result c.mark_at-old.result c.drop_mark.new.marks.items (top_is c) c.mark_at-old.ensures c.drop_mark.ensures

pub invariant_of-self : goal.invariant_of-self
invariant_of-self c =
    let inside = c.self.inside in
    kept-told (without_mark c.args.t inside.marks.items) (kept c.before.before) c.drop_mark.ensures
    (c.without-self-inside.ensures ∙ ap (λ top. totals_of top c.drop_mark.new.marks.items) (top_is c.before.before))

pub returns : goal.returns
returns c =
    subst (λ (old : Meaning). IsCommit old c.args.t (committed (meant c.self.inside) c.number_after-self-inside.result c.take_out.new.log.items)) c.self.view_is
    (commits-told (meant c.self.inside) c.self.invariant.numeric c.args.t c.number_after-self-inside.result c.take_out.new.log.items (seen c.before.before) c.take_out.ensures)
