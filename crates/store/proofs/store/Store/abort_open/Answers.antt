use Rattle.std.proofs.Common.{◌++◌, ◌≡◌, false, map, sym, ◌∙◌}
use Rattle.std.proofs.lemmas.Bool.{both_ways}
use Rattle.serial_order.specs.History.{summary, is_open}
use Rattle.store_laws.specs.Kept.{Keeping, keeping}
use Rattle.store.proofs.Opens.{open-alike}
use Rattle.store.proofs.Closings.{kept-shown, aborts-once}
use Rattle.store.proofs.store.Store.abort_open.Goals as goal

pub returns-then-is_open-clause-aborts : goal.returns-then-is_open-clause-aborts
returns-then-is_open-clause-aborts g c =
    λ opened.
    let inside = c.self.inside in
    let ms = map g.R.Recovery.meaning inside.objects.items in
    let k : Keeping = keeping ms inside.transactions.rows in
    aborts-once ms inside.transactions.rows c.args.self.now c.abort.new.self c.worker-w.result c.args.t
    (kept-shown k (inside.past.items ++ inside.history.items) inside.limits inside.forgotten c.args.self.now c.self.view_is c.self.invariant.1.store.kept)
    (sym c.is_open.ensures ∙ c.if-is_open.true) opened c.worker-w.ensures c.abort.ensures.1

pub returns-else-is_open-clause-aborts : goal.returns-else-is_open-clause-aborts
returns-else-is_open-clause-aborts g c =
    λ opened.
    let inside = c.self.inside in
    let ms = map g.R.Recovery.meaning inside.objects.items in
    let k : Keeping = keeping ms inside.transactions.rows in
    let closed : is_open (summary c.args.self.now.history) c.args.t ≡ false =
    open-alike c.rows_say_who_is_open.ensures ms inside.transactions.rows c.args.self.now.history c.args.t
    (kept-shown k (inside.past.items ++ inside.history.items) inside.limits inside.forgotten c.args.self.now c.self.view_is c.self.invariant.1.store.kept) ∙ sym c.is_open.ensures ∙ c.if-is_open.false in
    absurd (both_ways (is_open (summary c.args.self.now.history) c.args.t) closed opened)
