use Rattle.std.proofs.Common.{ap, subst, sym, ◌∙◌}
use Rattle.sqlite_trees.specs.View.{View}
use Rattle.journal.specs.Contents.{contents_by, with_pending}
use Rattle.journal.specs.OutcomeIndex.{CountsOutcomes}
use Rattle.journal.proofs.Outcomes.{freed-file, freed-known, freed-same, read-file}
use Rattle.journal.proofs.journal.Journal.sweep_number.Goals as goal

pub returns-in_ok-free_number-in-Some-clause-kept : goal.returns-in_ok-free_number-in-Some-clause-kept
returns-in_ok-free_number-in-Some-clause-kept g c = λ clean.
    let it = c.args.self.now in
    let mid = g.S.Store.view c.first_numbered.new.store in
    let new = g.S.Store.view c.free_number.new.store in
    let between = c.free_number.ensures.clean clean in
    let was = c.requires (c.in_ok-number.ensures.clean between) in
    let only = c.in_ok-number.ensures.same between in
    let kept = read-file (g.S.Store.view it.store) mid it.starts.items it.settled it.prepared it.header only was.0 in
    let has = subst (λ (v : View). CountsOutcomes v it.numbers it.index) (sym only) was.2 in
    let frees = c.in_ok-free_number-in-Some.ensures.frees clean in
    let below = c.freed_below.ensures in (
      freed-file mid new it.starts.items it.settled it.prepared it.header it.numbers it.index _ below.first below.awaiting kept has frees,
      was.1,
      freed-known mid new it.starts.items it.settled it.prepared it.header it.numbers it.index _ below.first below.awaiting kept has frees,
    )

pub returns-in_ok-free_number-in-Some-clause-written : goal.returns-in_ok-free_number-in-Some-clause-written
returns-in_ok-free_number-in-Some-clause-written g c = λ clean.
    let it = c.args.self.now in
    let mid = g.S.Store.view c.first_numbered.new.store in
    let new = g.S.Store.view c.free_number.new.store in
    let between = c.free_number.ensures.clean clean in
    let was = c.requires (c.in_ok-number.ensures.clean between) in
    let only = c.in_ok-number.ensures.same between in
    let kept = read-file (g.S.Store.view it.store) mid it.starts.items it.settled it.prepared it.header only was.0 in
    let has = subst (λ (v : View). CountsOutcomes v it.numbers it.index) (sym only) was.2 in
    let below = c.freed_below.ensures in
    ap (λ x. with_pending x it.pending)
    (freed-same mid new it.starts.items it.settled it.prepared it.header it.numbers it.index _ below.first below.awaiting kept has (c.in_ok-free_number-in-Some.ensures.frees clean)
    ∙ ap (λ (v : View). contents_by it.numbers v.trees) only)
