use Rattle.std.proofs.Common.{◌+◌, List, Some, take, sym, ap, subst, ◌∙◌, arith}
use Rattle.type_table.specs.Run.{IsLegal}
use Rattle.escrow_laws.specs.Marks.{mark_of}
use Rattle.table_checker.specs.Checked.{Checked}
use Rattle.object_trait.specs.Meaning.{own_of}
use Rattle.object_trait.specs.declared.log_entry.LogEntry.{LogEntry}
use Rattle.escrow_manager.specs.Numeric.{bounds_in, greatest}
use Rattle.escrow_manager.proofs.Remarking.{mark-next, next-small}
use Rattle.escrow_manager.proofs.entries.mark_of.Goals as goal

pub marked_if-mark-requires : goal.marked_if-mark-requires
marked_if-mark-requires c =
    let numeric : Checked = c.args.checked.now in
    let log : List LogEntry = c.deref-entry-items.result.now in
    let same = c.deref-entry-items.ensures.value in
    let i = c.loop-entry.entry-index in
    let t = c.args.t in
    let known = c.requires.numeric in
    let states = known.numeric.states_fit in
    λ mine. next-small c.marks_fit.ensures c.runs_along.ensures numeric.file.table (greatest numeric) c.args.base (bounds_in numeric) known.bounds c.requires.base (omega (arith, states)) log t i c.entry-item.result c.bounded.result
    c.loop-entry.mark c.loop-entry-test.true c.entry-item.is c.bounded.ensures (sym c.is_of-mine.ensures ∙ mine) (subst (λ V. IsLegal numeric.file.table (Some c.args.base) (own_of V t)) (sym same) c.requires.legal)
    (c.loop-entry.invariant ∙ ap (λ V. mark_of (greatest numeric) (bounds_in numeric) (own_of (take i V) t)) (sym same))

pub loop-entry-preserved : goal.loop-entry-preserved
loop-entry-preserved c =
    let numeric : Checked = c.args.checked.now in
    let log : List LogEntry = c.deref-entry-items.result.now in
    let same = c.deref-entry-items.ensures.value in
    let i = c.loop-entry.entry-index in
    let t = c.args.t in
    c.marked_if-mark.ensures
    ∙ mark-next (greatest numeric) (bounds_in numeric) log t i c.entry-item.result c.bounded.result c.loop-entry.mark c.is_of-mine.result c.loop-entry-test.true c.entry-item.is c.bounded.ensures c.is_of-mine.ensures
    (c.loop-entry.invariant ∙ ap (λ V. mark_of (greatest numeric) (bounds_in numeric) (own_of (take i V) t)) (sym same))
    ∙ ap (λ V. mark_of (greatest numeric) (bounds_in numeric) (own_of (take (i + 1) V) t)) same
