use Rattle.std.proofs.Common.{◌≡◌, ◌++◌, map, length, sym, arith}
use Rattle.std.proofs.lemmas.Bool.Decides.{nat_tests}
use Rattle.store.proofs.Closings.{closed-already}
use Rattle.store.proofs.store.Store.has_open.Goals as goal

pub returns-clause-none : goal.returns-clause-none
returns-clause-none g c = λ test.
    let inside = c.self.inside in
    let many : c.oldest.result ≡ length inside.transactions.rows = grind (arith, nat_tests, test, c.oldest.ensures.within, c.begun.ensures) in
    (closed-already c.run_goes_on.ensures c.summary_after.ensures c.transactions_in_run.ensures c.opens_after.ensures c.beginners_after.ensures c.rows_say_who_is_open.ensures
    (map g.R.Recovery.meaning inside.objects.items) inside.transactions.rows (inside.past.items ++ inside.history.items) inside.limits inside.forgotten
    c.oldest.result c.args.self.now c.self.view_is c.self.invariant.1.store.kept many c.oldest.ensures.ended).left

pub returns-clause-closed : goal.returns-clause-closed
returns-clause-closed g c = λ test.
    sym
    let inside = c.self.inside in
    let many : c.oldest.result ≡ length inside.transactions.rows = grind (arith, nat_tests, test, c.oldest.ensures.within, c.begun.ensures) in
    (closed-already c.run_goes_on.ensures c.summary_after.ensures c.transactions_in_run.ensures c.opens_after.ensures c.beginners_after.ensures c.rows_say_who_is_open.ensures
    (map g.R.Recovery.meaning inside.objects.items) inside.transactions.rows (inside.past.items ++ inside.history.items) inside.limits inside.forgotten
    c.oldest.result c.args.self.now c.self.view_is c.self.invariant.1.store.kept many c.oldest.ensures.ended).whole
