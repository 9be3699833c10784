use Rattle.undo_manager.proofs.Idling.{idle-kept, idle-commits}
use Rattle.undo_manager.proofs.undo_manager.UndoManager.commit_alone.Goals as goal

pub invariant_of-self : goal.invariant_of-self
invariant_of-self c =
    let m = c.self.inside in
    let may = rw (← c.self.view_is) at c.requires.may in
    let idle = rw (← c.self.view_is) at c.requires.idle in
    let step = rw (c.table.ensures, c.deref.ensures) at c.next_state-state.ensures in (
      idle-kept c.steps_within.ensures c.ends_within.ensures c.sound_after_apply.ensures c.sound_after_commit.ensures m.checked.value m.base m.state m.opened.items c.args.t c.args.k
          c.next_state-state.result step m.log.items idle c.self.invariant.0 may,
      c.self.invariant.1,
    )

pub returns : goal.returns
returns c =
    let m = c.self.inside in
    let may = rw (← c.self.view_is) at c.requires.may in
    let idle = rw (← c.self.view_is) at c.requires.idle in
    let step = rw (c.table.ensures, c.deref.ensures) at c.next_state-state.ensures in
    rw (← c.self.view_is)
    (idle-commits c.steps_within.ensures c.ends_within.ensures c.sound_after_apply.ensures c.sound_after_commit.ensures m.checked.value m.base m.state m.opened.items c.args.t c.args.k
    c.next_state-state.result step m.log.items idle c.self.invariant.0 may)
