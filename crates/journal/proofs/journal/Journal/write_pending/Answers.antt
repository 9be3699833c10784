use Rattle.std.proofs.Common.{◌≡◌, ap, arith, length, subst, sym, ◌∙◌}
use Rattle.sqlite_trees.specs.View.{View}
use Rattle.journal.specs.Contents.{contents_by, with_pending}
use Rattle.journal.specs.OutcomeIndex.{CountsOutcomes}
use Rattle.journal.proofs.Outcomes.{by-numbers}
use Rattle.journal.proofs.Writes.{grouped, groups, none-pending}
use Rattle.journal.proofs.journal.Journal.write_pending.Goals as goal

pub returns-clause-kept : goal.returns-clause-kept
returns-clause-kept g c = λ clean.
    let it = c.args.self.now in
    let was = c.requires (c.put_group.ensures.clean clean) in
    let position : c.len-position.result ≡ length it.starts.items = omega (arith, c.len-position.ensures) in (
      rw (c.in_ok-push.ensures.items, was.1) (groups (g.S.Store.view it.store) (g.S.Store.view c.put_group.new.store) c.len-position.result it.settled it.prepared it.starts.items it.header it.pending
          (c.in_ok-put_group.ensures.ok clean) was.0 position c.in_ok-put_group.ensures.short),
      rw c.clear.ensures (omega arith),
      subst (λ (v : View). CountsOutcomes v it.numbers it.index) (sym (c.in_ok-put_group.ensures.ok clean).is) was.2,
    )

pub returns-clause-written : goal.returns-clause-written
returns-clause-written g c = λ clean.
    let it = c.args.self.now in
    let was = c.requires (c.put_group.ensures.clean clean) in
    let position : c.len-position.result ≡ length it.starts.items = omega (arith, c.len-position.ensures) in
    let new = g.S.Store.view c.put_group.new.store in
    let sets = c.in_ok-put_group.ensures.ok clean in
    ap (with_pending (contents_by it.numbers new.trees)) c.clear.ensures
    ∙ none-pending (contents_by it.numbers new.trees)
    ∙ by-numbers new.trees (g.S.Store.view it.store).trees it.numbers _
    (grouped (g.S.Store.view it.store) new c.len-position.result it.settled it.prepared it.starts.items it.header it.pending sets was.0 position) (ap (λ (v : View). v.trees 6) sets.is)
