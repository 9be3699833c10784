use Rattle.std.proofs.Common.{◌≡◌, ◌-◌, ◌<◌, ◌≤◌, List, All, Some, false, length, sym, ap, subst, ◌∙◌, arith}
use Rattle.type_table.specs.Run.{IsLegal}
use Rattle.escrow_laws.specs.Marks.{mark_of, fallen_of, risen_of}
use Rattle.escrow_laws.specs.declared.mark.OpenMark.{OpenMark}
use Rattle.table_checker.specs.Checked.{Checked}
use Rattle.object_trait.specs.Strike.{keep_first}
use Rattle.object_trait.specs.Meaning.{Meaning, is_open_of, open_of, own_of}
use Rattle.object_trait.specs.Steps.{Keeps}
use Rattle.object_trait.specs.declared.log_entry.LogEntry.{LogEntry}
use Rattle.object_trait.proofs.Leaving.{each-left}
use Rattle.escrow_manager.specs.Numeric.{bounds_in, greatest}
use Rattle.escrow_manager.specs.Marks.{with_mark}
use Rattle.escrow_manager.specs.Totals.{totals_of, HasShortSums}
use Rattle.escrow_manager.specs.Kept.{IsKeptInEscrow}
use Rattle.escrow_manager.proofs.Keeping.{meant, all-open, inside-of, top-small, short-of, sums-of}
use Rattle.escrow_manager.proofs.Changing.{totals_at, with_log, left-keeps, struck-legal, rewound-kept, listed-some, kept-told}
use Rattle.escrow_manager.proofs.manager.EscrowManagerRecovery.strike.Goals as goal

pub count_of-requires : goal.count_of-requires
count_of-requires c = all-open c.self.invariant

pub overflow_sub-left : goal.overflow_sub-left
overflow_sub-left c =
    let few = subst (λ (m : Meaning). c.args.m ≤ length (open_of c.args.t m.log)) (sym c.self.view_is) c.requires in
    let count = c.count_of.ensures in
    omega (arith, few, count)

-- ---- nothing is left

pub returns-then-left-eq0 : goal.returns-then-left-eq0
returns-then-left-eq0 c =
    let count = c.count_of.ensures ∙ ap (λ (m : Meaning). length (open_of c.args.t m.log)) c.self.view_is in
    let nothing : length (open_of c.args.t c.args.self.now.log) - c.args.m ≡ 0 = ap (λ n. n - c.args.m) (sym count) ∙ c.if-left-eq0.true in
    subst (λ n. Keeps c.args.self.now c.args.t n c.abort.new.self) (sym nothing) c.abort.ensures

-- ---- something is left

pub keep_first-requires : goal.keep_first-requires
keep_first-requires c = all-open c.self.invariant

-- these of t's entries are left
left : (c : goal.After-deref) → c.keep_first.new.log.items ≡ keep_first (is_open_of c.args.t) (length (open_of c.args.t c.self.inside.log.items) - c.args.m) c.self.inside.log.items
left c = c.keep_first.ensures ∙ ap (λ n. keep_first (is_open_of c.args.t) (n - c.args.m) c.self.inside.log.items) c.count_of.ensures

pub mark_of-mark-requires-clause-opens : goal.mark_of-mark-requires-clause-opens
mark_of-mark-requires-clause-opens c =
    each-left (λ (e : LogEntry). e.done ≡ false) c.args.t (length (open_of c.args.t c.self.inside.log.items) - c.args.m) c.self.inside.log.items c.keep_first.new.log.items (left c) (all-open c.self.invariant)

pub mark_of-mark-requires-clause-operations : goal.mark_of-mark-requires-clause-operations
mark_of-mark-requires-clause-operations c =
    let checked : Checked = c.self.inside.checked.value in
    subst (λ (x : Checked). All (λ (e : LogEntry). e.op < length x.file.table.ops) c.keep_first.new.log.items) (sym c.deref.ensures)
    (each-left (λ (e : LogEntry). e.op < length checked.file.table.ops) c.args.t (length (open_of c.args.t c.self.inside.log.items) - c.args.m) c.self.inside.log.items c.keep_first.new.log.items (left c) c.self.invariant.ops_fit)

pub mark_of-mark-requires-clause-base : goal.mark_of-mark-requires-clause-base
mark_of-mark-requires-clause-base c = subst (λ (x : Checked). c.self.inside.base ≤ greatest x) (sym c.deref.ensures) (inside-of c.self.invariant)

pub mark_of-mark-requires-clause-legal : goal.mark_of-mark-requires-clause-legal
mark_of-mark-requires-clause-legal c =
    subst (λ (x : Checked). IsLegal x.file.table (Some c.self.inside.base) (own_of c.keep_first.new.log.items c.args.t)) (sym c.deref.ensures)
    (struck-legal c.sound_after_strike.ensures c.firm_is_legal.ensures c.self.invariant c.args.t (length (open_of c.args.t c.self.inside.log.items) - c.args.m) c.keep_first.new.log.items (left c))

pub put_mark-requires-clause-room : goal.put_mark-requires-clause-room
put_mark-requires-clause-room c =
    let count = c.count_of.ensures in
    let more : 0 < c.count_of.result - c.args.m = omega arith in
    λ none. absurd (listed-some c.self.invariant c.args.t (omega (arith, count, more)) none)

-- with t's new mark
abbrev now : goal.After-greatest → List OpenMark
now c = with_mark (record { by = c.args.t; mark = c.mark_of-mark.result }) c.self.inside.marks.items

kept : (c : goal.After-greatest) → IsKeptInEscrow (with_log (meant c.self.inside) c.keep_first.new.log.items) (now c) (totals_at (meant c.self.inside) (now c))
kept c =
    let inside = c.self.inside in
    let n = length (open_of c.args.t inside.log.items) - c.args.m in
    let many : n ≤ length (open_of c.args.t inside.log.items) = omega arith in
    let count = c.count_of.ensures in
    let more : 0 < c.count_of.result - c.args.m = omega arith in
    let some : 0 < n = omega (arith, count, more) in
    rewound-kept c.sound_after_strike.ensures c.keeps_first.ensures c.keeps_others.ensures c.self.invariant c.args.t n c.keep_first.new.log.items c.mark_of-mark.result many some (c.keep_first.ensures ∙ ap (λ n. keep_first (is_open_of c.args.t) (n - c.args.m) c.self.inside.log.items) c.count_of.ensures)
    (c.mark_of-mark.ensures ∙ ap (λ (x : Checked). mark_of (greatest x) (bounds_in x) (own_of c.keep_first.new.log.items c.args.t)) c.deref.ensures)

pub of-self-inside-requires-clause-short : goal.of-self-inside-requires-clause-short
of-self-inside-requires-clause-short c =
    subst (λ (V : List OpenMark). All (λ (o : OpenMark). HasShortSums o.mark) V) (sym c.put_mark.ensures) (short-of (kept c) c.marks_fit.ensures c.firm_is_legal.ensures)

pub of-self-inside-requires-clause-fallen : goal.of-self-inside-requires-clause-fallen
of-self-inside-requires-clause-fallen c =
    let all = sums-of (kept c) c.extremes_tell_firm.ensures in
    let few = all.fallen in
    let same = ap (λ (V : List OpenMark). fallen_of V) c.put_mark.ensures in
    let top = top-small c.self.invariant in
    omega (arith, few, same, top)

pub of-self-inside-requires-clause-risen : goal.of-self-inside-requires-clause-risen
of-self-inside-requires-clause-risen c =
    let all = sums-of (kept c) c.extremes_tell_firm.ensures in
    let few = all.risen in
    let same = ap (λ (V : List OpenMark). risen_of V) c.put_mark.ensures in
    let top = top-small c.self.invariant in
    omega (arith, few, same, top)

pub invariant_of-self : goal.invariant_of-self
invariant_of-self c =
    kept-told (now c.before.before) (kept c.before.before) c.put_mark.ensures
    (c.of-self-inside.ensures ∙ ap (λ top. totals_of top c.put_mark.new.marks.items) (c.greatest.ensures.exact ∙ ap greatest c.deref-2.ensures))

pub returns : goal.returns
returns c =
    subst (λ (old : Meaning). Keeps old c.args.t (length (open_of c.args.t old.log) - c.args.m) (with_log (meant c.self.inside) c.keep_first.new.log.items)) c.self.view_is
    (left-keeps (meant c.self.inside) c.self.invariant.numeric c.args.t (length (open_of c.args.t c.self.inside.log.items) - c.args.m) c.keep_first.new.log.items (c.keep_first.ensures ∙ ap (λ n. keep_first (is_open_of c.args.t) (n - c.args.m) c.self.inside.log.items) c.count_of.ensures))
