use Rattle.std.proofs.Common.{◌++◌, ◌∷◌, [], ap, arith, ◌∙◌, Some}
use Rattle.open_transactions.specs.Transactions.{count_open, begun_by}
use Rattle.open_transactions.proofs.Calls.{begin-known, begin-shown}
use Rattle.open_transactions.proofs.Counts.{count-more}
use Rattle.open_transactions.proofs.open_transactions.OpenTransactions.begin.Goals as goal

pub invariant_of-self : goal.invariant_of-self
invariant_of-self c =
    rw (c.push_reserved.ensures.items, c.push_reserved-2.ensures.slots)
    (begin-known c.self.inside.slots.items c.self.inside.index.slots c.self.invariant c.args.self.now.rows (ap (λ a. a.rows) c.self.view_is) c.len-slot.result
    (omega (arith, c.len-slot.ensures, c.self.inside.slots.ok.0)) c.requires.few c.requires.fits _ c.begun-number.ensures)

pub returns-clause-rows : goal.returns-clause-rows
returns-clause-rows c =
    rw (c.push_reserved.ensures.items, c.push_reserved-2.ensures.slots)
    (begin-shown c.self.inside.slots.items c.self.inside.index.slots c.self.invariant c.args.self.now.rows (ap (λ a. a.rows) c.self.view_is) c.len-slot.result
    (omega (arith, c.len-slot.ensures, c.self.inside.slots.ok.0)) c.requires.few c.requires.fits _
    ∙ ap (λ places. c.args.self.now.rows ++ Some (record { worker = c.args.worker; places = places }) ∷ []) c.new-places.ensures.items)

pub returns-clause-count : goal.returns-clause-count
returns-clause-count c = ap count_open (returns-clause-rows c) ∙ count-more c.args.self.now.rows (begun_by c.args.worker)
