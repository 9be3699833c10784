use Rattle.std.proofs.Common.{◌≡◌, ◌∙◌, SFits, arith, subst, to_z-of_z, w64}
use Rattle.std.specs.Prelude.{IfSome}
use Rattle.sqlite_value.specs.Order.{column}
use Rattle.sqlite_trees.specs.Objects.{number_in}
use Rattle.sqlite_trees.specs.View.{Finds}
use Rattle.journal.proofs.PlacedRows.{no-number-there, no-row-there, number-there, row-there}
use Rattle.journal.proofs.swept_rows.number_at.Goals as goal

pub returns-then-not-branch-clause-found : goal.returns-then-not-branch-clause-found
returns-then-not-branch-clause-found g c = λ clean.
    let rows = (g.S.Store.view c.args.store.now).trees 6 in
    let fits : SFits w64 c.rowid_of.result = rw c.rowid_of.ensures (omega (arith, c.requires.low)) in
    let finds = subst (λ id. Finds rows id c.get.new.row c.in_ok-get.field-0) (to_z-of_z fits ∙ c.rowid_of.ensures) (c.in_ok-get.ensures.ok clean) in
    no-number-there rows c.args.place (no-row-there rows c.args.place c.get.new.row c.in_ok-get.field-0 c.if-not-branch.true finds)

pub returns-in-Some-clause-found : goal.returns-in-Some-clause-found
returns-in-Some-clause-found g c = λ clean.
    let rows = (g.S.Store.view c.args.store.now).trees 6 in
    let fits : SFits w64 c.rowid_of.result = rw c.rowid_of.ensures (omega (arith, c.requires.low)) in
    let finds = subst (λ id. Finds rows id c.get.new.row c.in_ok-get.field-0) (to_z-of_z fits ∙ c.rowid_of.ensures) (c.in_ok-get.ensures.ok clean) in
    let there = row-there rows c.args.place c.get.new.row c.in_ok-get.field-0 c.if-not-branch.false finds in
    let read = subst (λ f. IfSome f (λ n. number_in (column c.get.new.row 5) ≡ n)) c.in-Some.is c.long_number.ensures in
    number-there rows c.args.place c.in-Some.number c.get.new.row c.requires.low there read
