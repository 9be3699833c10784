use Rattle.std.proofs.Common.{◌≡◌, ◌++◌, ◌∷◌, [], false, All, List, Some, sym, ap, subst, ◌∙◌, arith}
use Rattle.std.specs.Prelude.{slice_get}
use Rattle.escrow_laws.specs.Marks.{mark_after, fallen_of, risen_of}
use Rattle.escrow_laws.specs.declared.bounded.Bounded.{Bounded}
use Rattle.escrow_laws.specs.declared.mark.Mark.{Mark}
use Rattle.escrow_laws.specs.declared.mark.OpenMark.{OpenMark}
use Rattle.table_checker.specs.Checked.{Checked}
use Rattle.object_trait.specs.Meaning.{Meaning}
use Rattle.object_trait.specs.Steps.{MayApply, applied}
use Rattle.object_trait.specs.declared.log_entry.LogEntry.{LogEntry}
use Rattle.escrow_manager.specs.Numeric.{bounds_in, greatest}
use Rattle.escrow_manager.specs.Marks.{MarksAscend, mark_in, with_mark, IsSmall}
use Rattle.escrow_manager.specs.Totals.{totals_of, HasShortSums}
use Rattle.escrow_manager.specs.Kept.{IsKeptInEscrow}
use Rattle.escrow_manager.specs.declared.totals.Totals.{Totals}
use Rattle.escrow_manager.proofs.Keeping.{meant, mark_at, op-found, top-small, small-of, short-of, sums-of}
use Rattle.escrow_manager.proofs.Telling.{small-short, more-short}
use Rattle.escrow_manager.proofs.Blocking.{mark_with}
use Rattle.escrow_manager.proofs.Changing.{totals_at, applied-kept, kept-told, told-with}
use Rattle.escrow_manager.proofs.manager.EscrowManagerRecovery.apply.Goals as goal

first_may : (c : goal.After-bounded) → MayApply (meant c.self.inside) c.args.t c.args.k
first_may c = subst (λ (m : Meaning). MayApply m c.args.t c.args.k) (sym c.self.view_is) c.requires

-- the bounds of k
abbrev first_op : goal.After-bounded → Bounded
first_op c = c.bounded.result

first_found : (c : goal.After-bounded) → slice_get (bounds_in c.self.inside.checked.value) c.args.k ≡ Some (first_op c)
first_found c =
    let checked : Checked = c.self.inside.checked.value in
    op-found checked c.deref-2.result.now c.args.k c.bounded.result c.deref-2.ensures c.bounded.ensures

first_top_is : (c : goal.After-bounded) → c.greatest-top.result ≡ greatest c.self.inside.checked.value
first_top_is c = c.greatest-top.ensures.exact ∙ ap greatest c.deref.ensures

first_old_is : (c : goal.After-bounded) → c.mark_at-old.result ≡ mark_in (greatest c.self.inside.checked.value) c.args.t c.self.inside.marks.items
first_old_is c =
    c.mark_at-old.ensures ∙ ap (λ n. mark_in n c.args.t c.reserve-2.new.self.items) (first_top_is c)
    ∙ ap (mark_in (greatest c.self.inside.checked.value) c.args.t) c.in_ok-reserve-2.ensures.items

first_exact : (c : goal.After-bounded) → c.mark_at-old.result ≡ mark_at (meant c.self.inside) c.args.t
first_exact c = first_old_is c ∙ c.self.invariant.listed.exact c.args.t

first_small : (c : goal.After-bounded) → IsSmall (greatest c.self.inside.checked.value) c.mark_at-old.result (first_op c)
first_small c =
    subst (λ x. IsSmall (greatest c.self.inside.checked.value) x (first_op c)) (sym (first_exact c))
    (small-of c.self.invariant c.marks_are_exact.ensures c.marks_fit.ensures c.firm_is_legal.ensures c.args.t c.args.k (first_op c) (first_found c) (first_may c).legal)

pub place_of-at-requires : goal.place_of-at-requires
place_of-at-requires c = subst (λ V. MarksAscend V) (sym c.in_ok-reserve-2.ensures.items) c.self.invariant.listed.ordered

pub mark_at-old-requires-clause-ordered : goal.mark_at-old-requires-clause-ordered
mark_at-old-requires-clause-ordered c = subst (λ V. MarksAscend V) (sym c.in_ok-reserve-2.ensures.items) c.self.invariant.listed.ordered

pub put_mark-requires-clause-ordered : goal.put_mark-requires-clause-ordered
put_mark-requires-clause-ordered c = subst (λ V. MarksAscend V) (sym c.in_ok-reserve-2.ensures.items) c.self.invariant.listed.ordered

pub marked-mark-requires-clause-fall : goal.marked-mark-requires-clause-fall
marked-mark-requires-clause-fall c =
    let one = first_small c in
    let fall = one.fall in
    let top = top-small c.self.invariant in
    omega (arith, fall, top)

pub marked-mark-requires-clause-above : goal.marked-mark-requires-clause-above
marked-mark-requires-clause-above c =
    let one = first_small c in
    let above = one.above in
    let top = top-small c.self.invariant in
    omega (arith, above, top)

may : (c : goal.After-after-arg-2-1) → MayApply (meant c.self.inside) c.args.t c.args.k
may c = subst (λ (m : Meaning). MayApply m c.args.t c.args.k) (sym c.self.view_is) c.requires

-- the bounds of k
abbrev op : goal.After-after-arg-2-1 → Bounded
op c = c.bounded.result

found : (c : goal.After-after-arg-2-1) → slice_get (bounds_in c.self.inside.checked.value) c.args.k ≡ Some (op c)
found c =
    let checked : Checked = c.self.inside.checked.value in
    op-found checked c.deref-2.result.now c.args.k c.bounded.result c.deref-2.ensures c.bounded.ensures

top_is : (c : goal.After-after-arg-2-1) → c.greatest-top.result ≡ greatest c.self.inside.checked.value
top_is c = c.greatest-top.ensures.exact ∙ ap greatest c.deref.ensures

old_is : (c : goal.After-after-arg-2-1) → c.mark_at-old.result ≡ mark_in (greatest c.self.inside.checked.value) c.args.t c.self.inside.marks.items
old_is c =
    c.mark_at-old.ensures ∙ ap (λ n. mark_in n c.args.t c.reserve-2.new.self.items) (top_is c)
    ∙ ap (mark_in (greatest c.self.inside.checked.value) c.args.t) c.in_ok-reserve-2.ensures.items

exact : (c : goal.After-after-arg-2-1) → c.mark_at-old.result ≡ mark_at (meant c.self.inside) c.args.t
exact c = old_is c ∙ c.self.invariant.listed.exact c.args.t

same_mark : (c : goal.After-after-arg-2-1) → c.marked-mark.result ≡ mark_with (meant c.self.inside) c.args.t (op c)
same_mark c = c.marked-mark.ensures ∙ ap (λ (x : Mark). mark_after x (op c)) (exact c)

-- with t's new mark
abbrev now : goal.After-after-arg-2-1 → List OpenMark
now c = with_mark (record { by = c.args.t; mark = mark_with (meant c.self.inside) c.args.t (op c) }) c.self.inside.marks.items

made : (c : goal.After-after-arg-2-1) → c.put_mark.new.marks.items ≡ with_mark (record { by = c.args.t; mark = c.marked-mark.result }) c.self.inside.marks.items
made c = c.put_mark.ensures ∙ ap (with_mark (record { by = c.args.t; mark = c.marked-mark.result })) c.in_ok-reserve-2.ensures.items

now_is : (c : goal.After-after-arg-2-1) → c.put_mark.new.marks.items ≡ now c
now_is c = made c ∙ ap (λ (x : Mark). with_mark (record { by = c.args.t; mark = x }) c.self.inside.marks.items) (same_mark c)

kept : (c : goal.After-after-arg-2-1) → IsKeptInEscrow (applied (meant c.self.inside) c.args.t c.args.k) (now c) (totals_at (meant c.self.inside) (now c))
kept c = applied-kept c.sound_after_apply.ensures c.self.invariant c.args.t c.args.k (op c) (found c) (may c)

pub after-self-inside-requires-clause-before : goal.after-self-inside-requires-clause-before
after-self-inside-requires-clause-before c =
    let all = sums-of c.self.invariant c.extremes_tell_firm.ensures in
    let fallen = all.fallen in
    let risen = all.risen in
    let down = ap (λ (x : Totals). x.fallen) c.self.invariant.summed in
    let up = ap (λ (x : Totals). x.risen) c.self.invariant.summed in
    let top = top-small c.self.invariant in
    (omega (arith, fallen, down, top), omega (arith, risen, up, top))

small : (c : goal.After-after-arg-2-1) → IsSmall (greatest c.self.inside.checked.value) c.mark_at-old.result (op c)
small c =
    subst (λ x. IsSmall (greatest c.self.inside.checked.value) x (op c)) (sym (exact c))
    (small-of c.self.invariant c.marks_are_exact.ensures c.marks_fit.ensures c.firm_is_legal.ensures c.args.t c.args.k (op c) (found c) (may c).legal)

pub after-self-inside-requires-clause-old : goal.after-self-inside-requires-clause-old
after-self-inside-requires-clause-old c = small-short (greatest c.self.inside.checked.value) c.mark_at-old.result (op c) (top-small c.self.invariant) (small c)

pub after-self-inside-requires-clause-new : goal.after-self-inside-requires-clause-new
after-self-inside-requires-clause-new c = more-short (greatest c.self.inside.checked.value) c.mark_at-old.result c.marked-mark.result (op c) (top-small c.self.invariant) (small c) c.marked-mark.ensures

pub after-self-inside-requires-clause-short : goal.after-self-inside-requires-clause-short
after-self-inside-requires-clause-short c =
    subst (λ (V : List OpenMark). All (λ (o : OpenMark). HasShortSums o.mark) V) (sym (now_is c)) (short-of (kept c) c.marks_fit.ensures c.firm_is_legal.ensures)

pub after-self-inside-requires-clause-fallen : goal.after-self-inside-requires-clause-fallen
after-self-inside-requires-clause-fallen c =
    let all = sums-of (kept c) c.extremes_tell_firm.ensures in
    let few = all.fallen in
    let same = ap (λ (V : List OpenMark). fallen_of V) (now_is c) in
    let top = top-small c.self.invariant in
    omega (arith, few, same, top)

pub after-self-inside-requires-clause-risen : goal.after-self-inside-requires-clause-risen
after-self-inside-requires-clause-risen c =
    let all = sums-of (kept c) c.extremes_tell_firm.ensures in
    let few = all.risen in
    let same = ap (λ (V : List OpenMark). risen_of V) (now_is c) in
    let top = top-small c.self.invariant in
    omega (arith, few, same, top)

pub after-self-inside-requires-clause-told : goal.after-self-inside-requires-clause-told
after-self-inside-requires-clause-told c =
    told-with c.self.invariant c.args.t c.greatest-top.result c.mark_at-old.result c.marked-mark.result c.put_mark.new.marks.items (top_is c) (old_is c) (made c)

pub invariant_of-self-2 : goal.invariant_of-self-2
invariant_of-self-2 c =
    let inside = c.self.inside in
    let entry : LogEntry = record { by = c.args.t; op = c.args.k; done = false } in
    let log : c.push_reserved.new.self.items ≡ inside.log.items ++ entry ∷ [] = c.push_reserved.ensures.items ∙ ap (λ V. V ++ entry ∷ []) c.in_ok-reserve.ensures.items in
    subst (λ L. IsKeptInEscrow (record { checked = inside.checked.value; base = inside.base; log = L }) c.put_mark.new.marks.items c.after-self-inside.result) (sym log)
    (kept-told (now c.before.before) (kept c.before.before) (now_is c.before.before) (c.after-self-inside.ensures ∙ ap (λ top. totals_of top c.put_mark.new.marks.items) (top_is c.before.before)))

pub returns-clause-applied : goal.returns-clause-applied
returns-clause-applied c =
    let inside = c.self.inside in
    let entry : LogEntry = record { by = c.args.t; op = c.args.k; done = false } in
    ap (λ (log : List LogEntry). record { checked = inside.checked.value; base = inside.base; log = log }) (c.push_reserved.ensures.items ∙ ap (λ log. log ++ entry ∷ []) c.in_ok-reserve.ensures.items)
    ∙ ap (λ (m : Meaning). applied m c.args.t c.args.k) c.self.view_is
