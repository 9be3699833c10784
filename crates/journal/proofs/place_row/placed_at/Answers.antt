use Rattle.std.proofs.Common.{◌≡◌, ◌∙◌, SFits, Some, ap, arith, subst, sym, to_z-of_z, w64}
use Rattle.std.specs.Prelude.{IfSome}
use Rattle.sqlite_trees.specs.View.{Finds}
use Rattle.journal.specs.PlaceRow.{place_told}
use Rattle.journal.proofs.PlacedRows.{no-row-there, placed-none, placed-there, row-there}
use Rattle.journal.proofs.place_row.placed_at.Goals as goal

pub returns-then-not-branch-clause-found : goal.returns-then-not-branch-clause-found
returns-then-not-branch-clause-found g c = λ clean.
    let rows = (g.S.Store.view c.args.store.now).trees 6 in
    let fits : SFits w64 c.rowid_of.result = rw c.rowid_of.ensures (omega (arith, c.requires.low)) in
    let finds = subst (λ id. Finds rows id c.get.new.row c.in_ok-get.field-0) (to_z-of_z fits ∙ c.rowid_of.ensures) (c.in_ok-get.ensures.ok clean) in
    sym (placed-none rows c.args.place (no-row-there rows c.args.place c.get.new.row c.in_ok-get.field-0 c.if-not-branch.true finds))

pub returns-in-Some-clause-found : goal.returns-in-Some-clause-found
returns-in-Some-clause-found g c = λ clean.
    let rows = (g.S.Store.view c.args.store.now).trees 6 in
    let fits : SFits w64 c.rowid_of.result = rw c.rowid_of.ensures (omega (arith, c.requires.low)) in
    let finds = subst (λ id. Finds rows id c.get.new.row c.in_ok-get.field-0) (to_z-of_z fits ∙ c.rowid_of.ensures) (c.in_ok-get.ensures.ok clean) in
    let there = row-there rows c.args.place c.get.new.row c.in_ok-get.field-0 c.if-not-branch.false finds in
    let read = subst (λ f. IfSome f (λ it. place_told c.get.new.row ≡ it)) c.in-Some.is c.in_ok-found.ensures in
    sym (placed-there rows c.args.place c.get.new.row c.requires.low there ∙ ap Some read)
