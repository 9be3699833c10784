use Rattle.std.proofs.Common.{◌∙◌, ◌-◌, sym, ap, subst}
use Rattle.object_trait.specs.Strike.{keep_first}
use Rattle.op_locks.specs.Locks.{is_held_by}
use Rattle.undo_manager.specs.Held.{held_in}
use Rattle.undo_manager.specs.Log.{entries}
use Rattle.undo_manager.proofs.Striking.{strike-legal, struck}
use Rattle.table_checker.specs.Checked.{Checked}
use Rattle.declared_types.specs.Declarations.{IsByTable}
use Rattle.undo_manager.proofs.recovery.UndoManagerRecovery.strike.Goals as goal

pub table-requires : goal.table-requires
table-requires c = subst IsByTable (sym (ap (λ (x : Checked). x.kind) c.deref.ensures ∙ c.self.invariant.0.in_place)) tt

pub take_back-self-inside-requires-clause-legal : goal.take_back-self-inside-requires-clause-legal
take_back-self-inside-requires-clause-legal c =
    let m = c.self.inside in
    rw (c.table.ensures, c.deref.ensures)
    (λ place passed. strike-legal c.runs_along.ensures c.keeps_none.ensures c.keeps_parts.ensures c.struck_log_is_legal.ensures m.checked.value m.base m.state m.log.items m.opened.items c.args.t c.args.m
    place c.self.invariant.0 passed)

pub invariant_of-self : goal.invariant_of-self
invariant_of-self c =
    let m = c.self.inside in
    let back = rw (c.table.ensures, c.deref.ensures) at c.take_back-self-inside.ensures in
    let recount = rw (c.self.invariant.0.counted.exact c.args.t) at c.count_fewer-left.ensures.counts in
    let done = struck c.ends_within.ensures c.sound_after_strike.ensures c.keeps_first.ensures c.keeps_none.ensures c.keeps_parts.ensures c.keeps_others.ensures
    m.checked.value m.base m.state m.log.items m.opened.items c.args.t c.args.m c.take_back-self-inside.new.log.items c.take_back-self-inside.result c.count_fewer-left.new.counts.items
    c.self.invariant.0 back recount in (
      rw (c.settle-self-inside.ensures.base, c.settle-self-inside.ensures.log) done.kept,
      c.release_behind.ensures.list ∙ ap (keep_first (is_held_by c.args.t) c.count_fewer-left.result) c.self.invariant.1
          ∙ ap (λ k. keep_first (is_held_by c.args.t) k (held_in (entries m.log.items))) (c.count_fewer-left.ensures.left ∙ ap (λ k. k - c.args.m) (c.self.invariant.0.counted.exact c.args.t))
          ∙ sym done.held ∙ ap (λ log. held_in (entries log)) (sym c.settle-self-inside.ensures.log),
    )

pub returns : goal.returns
returns c =
    let m = c.self.inside in
    let back = rw (c.table.ensures, c.deref.ensures) at c.take_back-self-inside.ensures in
    let recount = rw (c.self.invariant.0.counted.exact c.args.t) at c.count_fewer-left.ensures.counts in
    let done = struck c.ends_within.ensures c.sound_after_strike.ensures c.keeps_first.ensures c.keeps_none.ensures c.keeps_parts.ensures c.keeps_others.ensures
    m.checked.value m.base m.state m.log.items m.opened.items c.args.t c.args.m c.take_back-self-inside.new.log.items c.take_back-self-inside.result c.count_fewer-left.new.counts.items
    c.self.invariant.0 back recount in
    rw (← c.self.view_is, c.settle-self-inside.ensures.base, c.settle-self-inside.ensures.log) done.strike
