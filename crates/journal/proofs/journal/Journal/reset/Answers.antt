use Rattle.std.proofs.Common.{ap, arith, ◌∙◌}
use Rattle.journal.specs.Contents.{contents_by, with_pending}
use Rattle.journal.proofs.Outcomes.{by-numbers}
use Rattle.journal.proofs.Rewritten.{at-states, outcome-rows-same, resets, resets-numbers}
use Rattle.journal.proofs.Writes.{none-pending}
use Rattle.journal.proofs.journal.Journal.reset.Goals as goal

pub returns-clause-kept : goal.returns-clause-kept
returns-clause-kept g c = λ clean.
    let between = c.rewrite_states.ensures.clean clean in
    let was = c.requires.journal (c.empty_epoch.ensures.clean between) in (
      rw c.clear.ensures.items (resets _ (g.S.Store.view c.empty_epoch.new.store) _ _ _ _ _ _ was.0 (c.in_ok-empty_epoch.ensures.ok between) (c.in_ok-rewrite_states.ensures.ok clean)),
      rw c.clear-2.ensures (omega arith),
      resets-numbers _ (g.S.Store.view c.empty_epoch.new.store) _ _ _ _ _ _ was.0 (c.in_ok-empty_epoch.ensures.ok between) (c.in_ok-rewrite_states.ensures.ok clean) c.args.self.now.numbers c.args.self.now.index was.2,
    )

pub returns-clause-written : goal.returns-clause-written
returns-clause-written g c = λ clean.
    let between = c.rewrite_states.ensures.clean clean in
    let was = c.requires.journal (c.empty_epoch.ensures.clean between) in
    let new = g.S.Store.view c.rewrite_states.new.store in
    let it = c.args.self.now in
    ap (with_pending (contents_by it.numbers new.trees)) c.clear-2.ensures
    ∙ none-pending (contents_by it.numbers new.trees)
    ∙ by-numbers new.trees (g.S.Store.view it.store).trees it.numbers _
    (at-states _ (g.S.Store.view c.empty_epoch.new.store) _ _ _ _ _ _ was.0 (c.in_ok-empty_epoch.ensures.ok between) (c.in_ok-rewrite_states.ensures.ok clean))
    (outcome-rows-same _ (g.S.Store.view c.empty_epoch.new.store) _ _ _ _ _ _ was.0 (c.in_ok-empty_epoch.ensures.ok between) (c.in_ok-rewrite_states.ensures.ok clean))
