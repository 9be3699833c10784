use Rattle.std.proofs.Common.{ap, arith, subst, sym}
use Rattle.sqlite_trees.specs.View.{View}
use Rattle.journal.specs.Contents.{with_pending}
use Rattle.journal.specs.OutcomeIndex.{CountsOutcomes}
use Rattle.journal.proofs.Outcomes.{by-numbers}
use Rattle.journal.proofs.PreparedRows.{prepares, prepares-file}
use Rattle.journal.proofs.journal.Journal.prepare.Goals as goal

pub returns-clause-kept : goal.returns-clause-kept
returns-clause-kept g c = λ clean.
    let was = c.requires (c.append.ensures.clean clean) in
    (prepares-file _ _ _ _ _ _ c.args.prepared.now (c.in_ok-append.ensures.ok clean) was.0 (λ low. omega (arith, c.if-self-lt-FORMAT.false, low)), was.1, subst (λ (v : View). CountsOutcomes v c.args.self.now.numbers c.args.self.now.index) (sym (c.in_ok-append.ensures.ok clean).is) was.2)

pub returns-clause-written : goal.returns-clause-written
returns-clause-written g c = λ clean.
    let was = c.requires (c.append.ensures.clean clean) in
    let it = c.args.self.now in
    let sets = c.in_ok-append.ensures.ok clean in
    ap (λ x. with_pending x it.pending)
    (by-numbers (g.S.Store.view c.append.new.store).trees (g.S.Store.view it.store).trees it.numbers _ (prepares _ _ _ _ _ _ c.args.prepared.now sets was.0 (λ low. omega (arith, c.if-self-lt-FORMAT.false, low))) (ap (λ (v : View). v.trees 6) sets.is))
