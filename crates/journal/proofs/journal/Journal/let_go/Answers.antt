use Rattle.std.proofs.Common.{◌≡◌, ◌<◌, ◌≤◌, ◌-◌, ◌∙◌, ap, arith, subst, sym}
use Rattle.sqlite_trees.specs.Tree.{put_row}
use Rattle.sqlite_trees.specs.View.{SetsTree, View}
use Rattle.journal.specs.Contents.{contents_by, with_let_go, with_outcomes, with_pending}
use Rattle.journal.specs.Outcomes.{Outcomes}
use Rattle.journal.specs.declared.numbers.Numbers.{Numbers}
use Rattle.journal.specs.Numbers.{numbers_row}
use Rattle.journal.proofs.Outcomes.{lets-go-file, lets-go-numbers, lets-go-says, lets-none-go}
use Rattle.journal.proofs.journal.Journal.let_go.Goals as goal

pub returns-clause-kept : goal.returns-clause-kept
returns-clause-kept g c = λ clean.
    let it = c.count_outcomes.new.self in
    let found = c.in_ok-found.found in
    let old = g.S.Store.view it.store in
    let new = g.S.Store.view c.put_numbers.new.store in
    let between = c.put_numbers.ensures.clean clean in
    let was = c.in_ok-count_outcomes.ensures.kept (c.in_ok-found.ensures.clean between) in
    let all = c.in_ok-count_outcomes.ensures.counted in
    let counts = subst (λ (v : View). SetsTree v new 6 (put_row (numbers_row (record { next = found.next; first = c.saturating_sub-first.result; least = found.least; awaiting = found.awaiting })))) (c.in_ok-found.ensures.same between) (c.in_ok-put_numbers.ensures.ok clean) in
    let at : c.saturating_sub-first.result ≡ found.next - found.least = c.saturating_sub-first.ensures in
    let after : found.first < c.saturating_sub-first.result = omega (arith, c.if-first-found.false) in (
      lets-go-file old new it.starts.items it.settled it.prepared it.header it.numbers found it.index _ was.0 (c.in_ok-found.ensures.sound between) was.2 all (c.in_ok-found.ensures.found between) at after counts,
      was.1,
      lets-go-numbers old new it.starts.items it.settled it.prepared it.header it.numbers found it.index _ was.0 (c.in_ok-found.ensures.sound between) was.2 all (c.in_ok-found.ensures.found between) at after counts,
    )

pub returns-clause-written : goal.returns-clause-written
returns-clause-written g c = λ clean.
    let it = c.count_outcomes.new.self in
    let found = c.in_ok-found.found in
    let old = g.S.Store.view it.store in
    let new = g.S.Store.view c.put_numbers.new.store in
    let between = c.put_numbers.ensures.clean clean in
    let before = c.in_ok-found.ensures.clean between in
    let was = c.in_ok-count_outcomes.ensures.kept before in
    let all = c.in_ok-count_outcomes.ensures.counted in
    let counts = subst (λ (v : View). SetsTree v new 6 (put_row (numbers_row (record { next = found.next; first = c.saturating_sub-first.result; least = found.least; awaiting = found.awaiting })))) (c.in_ok-found.ensures.same between) (c.in_ok-put_numbers.ensures.ok clean) in
    let at : c.saturating_sub-first.result ≡ found.next - found.least = c.saturating_sub-first.ensures in
    let after : found.first < c.saturating_sub-first.result = omega (arith, c.if-first-found.false) in
    ap (λ x. with_pending x it.pending)
    (lets-go-says old new it.starts.items it.settled it.prepared it.header it.numbers found it.index _ was.0 (c.in_ok-found.ensures.sound between) was.2 all (c.in_ok-found.ensures.found between) at after counts)
    ∙ ap with_let_go (c.in_ok-count_outcomes.ensures.written before)

pub returns-then-first-found-clause-written : goal.returns-then-first-found-clause-written
returns-then-first-found-clause-written g c = λ clean.
    let it = c.count_outcomes.new.self in
    let found = c.in_ok-found.found in
    let old = g.S.Store.view it.store in
    let before = c.in_ok-found.ensures.clean clean in
    let was = c.in_ok-count_outcomes.ensures.kept before in
    let is : found ≡ it.numbers = c.in_ok-found.ensures.found clean ∙ sym ((was.2 (c.in_ok-found.ensures.sound clean)).numbers c.in_ok-count_outcomes.ensures.counted) in
    let at = c.saturating_sub-first.ensures in
    let few : found.next - found.least ≤ found.first = omega (arith, at, c.if-first-found.true) in
    ap (λ (v : View). with_pending (contents_by it.numbers v.trees) it.pending) (c.in_ok-found.ensures.same clean)
    ∙ ap (λ (all : Outcomes). with_pending (with_outcomes (contents_by it.numbers old.trees) all) it.pending) (lets-none-go (old.trees 6) it.numbers (subst (λ (k : Numbers). k.next - k.least ≤ k.first) is few))
    ∙ ap with_let_go (c.in_ok-count_outcomes.ensures.written before)
