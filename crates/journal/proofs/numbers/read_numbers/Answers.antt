use Rattle.journal.proofs.PlacedRows.{none-nowhere, one-nowhere}
use Rattle.journal.proofs.numbers.read_numbers.Goals as goal

pub returns-then-not-branch-clause-found : goal.returns-then-not-branch-clause-found
returns-then-not-branch-clause-found g c = λ clean.
    none-nowhere ((g.S.Store.view c.args.store.now).trees 6) c.get.new.row c.in_ok-get.field-0 c.if-not-branch.true (c.in_ok-get.ensures.ok clean)

pub returns-in-Some-clause-found : goal.returns-in-Some-clause-found
returns-in-Some-clause-found g c = λ clean.
    one-nowhere ((g.S.Store.view c.args.store.now).trees 6) c.get.new.row c.in_ok-get.field-0 c.in-Some.numbers c.if-not-branch.false (c.in_ok-get.ensures.ok clean) c.in-Some.ensures.told
