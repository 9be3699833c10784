use Rattle.std.proofs.Common.{◌<◌, length, get_or, not, sym, ap, subst, ◌∙◌}
use Rattle.std.proofs.lemmas.Bool.{and_right}
use Rattle.std.proofs.lemmas.List.{get_or_default}
use Rattle.type_table.specs.ConflictTable.{conflicts}
use Rattle.op_locks.specs.Locks.{HasBits, is_held_by}
use Rattle.op_locks.specs.declared.held.Held.{Held}
use Rattle.op_locks.proofs.Words.{nobody_blocks, passed, own-passes}
use Rattle.op_locks.proofs.op_locks.OpLocks.blocker.Goals as goal
use Rattle.op_locks.proofs.op_locks.OpLocks.blocker.Goals.{else-held-t-via-then-held-t+else-has_bit, else-held-t-via-else-held-t}

nobody : Held
nobody = record { by = 0; op = 0 }

pub returns-then-row-self-eq0 : goal.returns-then-row-self-eq0
returns-then-row-self-eq0 c =
    let bits = subst (HasBits c.self.inside.word) (ap (λ s. s.held) c.self.view_is) c.self.invariant in
    sym (nobody_blocks c.args.table.now c.args.t c.args.k c.row-row.result c.self.inside.word c.args.self.now.held c.row-row.ensures c.if-row-self-eq0.true c.requires.held bits)

pub loop-held-preserved : goal.loop-held-preserved
unfolding nobody
loop-held-preserved c =
    let rows = c.args.table.now in
    let held = c.as_slice-held-items.result.now in
    let i = c.loop-held.held-index in
    let e : Held = get_or held i nobody in
    let inside : i < length held = c.loop-held-test.true in
    let op_fits : e.op < length rows = rw (← c.self.view_is, ← c.as_slice-held-items.ensures) at c.requires.held i nobody inside in
    passed rows c.args.t c.args.k i held e inside (get_or_default held i nobody e inside)
    (elim c.else-held-t.branch [
      | else-held-t-via-then-held-t+else-has_bit w ↦
          and_right (not (is_held_by c.args.t e)) (conflicts rows c.args.k e.op) (sym (c.row-row.ensures e.op op_fits) ∙ sym w.has_bit.ensures ∙ w.if-has_bit.false)
      | else-held-t-via-else-held-t w ↦ own-passes rows c.args.t c.args.k e w.if-held-t.false
    ])
    ∙ c.loop-held.invariant
