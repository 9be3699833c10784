use Rattle.std.proofs.Common.{◌≡◌, ◌+◌, ◌∙◌, SFits, arith, subst, to_z-of_z, w64}
use Rattle.std.specs.Prelude.{IfSome}
use Rattle.sqlite_trees.specs.View.{Finds}
use Rattle.journal.specs.OutcomeIndex.{numbered_from}
use Rattle.journal.specs.OutcomeRow.{outcome_told}
use Rattle.journal.proofs.PlacedRows.{no-row-there, numbered-none, numbered-there, row-there}
use Rattle.journal.proofs.outcome_row.numbered_at.Goals as goal

pub returns-then-not-branch-clause-found : goal.returns-then-not-branch-clause-found
returns-then-not-branch-clause-found g c = λ clean.
    let rows = (g.S.Store.view c.args.store.now).trees 6 in
    let fits : SFits w64 c.rowid_of.result = rw c.rowid_of.ensures (omega arith) in
    let finds = subst (λ id. Finds rows id c.get.new.row c.in_ok-get.field-0) (to_z-of_z fits ∙ c.rowid_of.ensures) (c.in_ok-get.ensures.ok clean) in
    numbered-none rows c.args.number (no-row-there rows _ c.get.new.row c.in_ok-get.field-0 c.if-not-branch.true finds)

pub returns-else-found-number-clause-found : goal.returns-else-found-number-clause-found
returns-else-found-number-clause-found g c = λ clean.
    let rows = (g.S.Store.view c.args.store.now).trees 6 in
    let fits : SFits w64 c.rowid_of.result = rw c.rowid_of.ensures (omega arith) in
    let finds = subst (λ id. Finds rows id c.get.new.row c.in_ok-get.field-0) (to_z-of_z fits ∙ c.rowid_of.ensures) (c.in_ok-get.ensures.ok clean) in
    let there = row-there rows (numbered_from + c.args.number) c.get.new.row c.in_ok-get.field-0 c.if-not-branch.false finds in
    let read = subst (λ f. IfSome f (λ o. outcome_told c.get.new.row ≡ o)) c.in-Some.is c.in_ok-found.ensures in
    numbered-there rows c.args.number c.get.new.row c.in-Some.found there read c.if-found-number.false
