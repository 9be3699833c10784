use Rattle.std.proofs.Common.{◌++◌, ◌≡◌, length, map, ap, ◌∙◌, arith}
use Rattle.serial_order.specs.Machine.{IsRun}
use Rattle.store_laws.specs.Stored.{Stored, objects}
use Rattle.store_laws.specs.Kept.{Keeping, keeping, IsKept}
use Rattle.store.proofs.Closings.{kept-shown, run-shown, closed-each, closed-none, next-turn, closed_below, closed-all}
use Rattle.store.proofs.store.Store.abort_all_but.Goals as goal

pub loop-t-init : goal.loop-t-init
loop-t-init g c =
    let s = c.args.self.now in
    let inside = c.self.inside in
    let ms = map g.R.Recovery.meaning inside.objects.items in
    let kept : IsKept (keeping ms inside.transactions.rows) s.history =
    kept-shown (keeping ms inside.transactions.rows) (inside.past.items ++ inside.history.items) inside.limits inside.forgotten s c.self.view_is c.self.invariant.1.store.kept in
    closed-none c.rows_say_who_is_open.ensures c.args.those.now ms inside.transactions.rows s c.oldest-t.result kept c.oldest-t.ensures.ended

pub loop-t-preserved : goal.loop-t-preserved
loop-t-preserved g c =
    let s = c.args.self.now in
    let inside = c.self.inside in
    let k : Keeping = keeping (map g.R.Recovery.meaning inside.objects.items) inside.transactions.rows in
    let run : IsRun (objects s) s.history = run-shown k (inside.past.items ++ inside.history.items) inside.limits inside.forgotten s c.self.view_is c.self.invariant.1.store.kept in
    next-turn c.args.those.now (objects s) s c.loop-t.self c.abort_other.new.self c.loop-t.t
    (closed-each c.run_goes_on.ensures c.summary_after.ensures c.transactions_in_run.ensures c.opens_after.ensures c.beginners_after.ensures c.args.those.now (objects s) s.history run c.loop-t.t)
    c.loop-t.invariant c.abort_other.ensures.aborts c.abort_other.ensures.stays

pub returns-clause-aborts : goal.returns-clause-aborts
returns-clause-aborts g c =
    let s = c.args.self.now in
    let inside = c.self.inside in
    let k : Keeping = keeping (map g.R.Recovery.meaning inside.objects.items) inside.transactions.rows in
    let kept : IsKept k s.history = kept-shown k (inside.past.items ++ inside.history.items) inside.limits inside.forgotten s c.self.view_is c.self.invariant.1.store.kept in
    let many : c.loop-t.t ≡ length inside.transactions.rows = omega (arith, c.loop-t.auto.t-end, c.loop-t-test.false, c.begun-t-end.ensures) in
    c.loop-t.invariant ∙ ap (λ n. closed_below c.args.those.now s n) (many ∙ kept.begun)

pub returns-clause-left : goal.returns-clause-left
returns-clause-left g c =
    let s = c.args.self.now in
    let inside = c.self.inside in
    let k : Keeping = keeping (map g.R.Recovery.meaning inside.objects.items) inside.transactions.rows in
    let kept : IsKept k s.history = kept-shown k (inside.past.items ++ inside.history.items) inside.limits inside.forgotten s c.self.view_is c.self.invariant.1.store.kept in
    let run : IsRun (objects s) s.history = run-shown k (inside.past.items ++ inside.history.items) inside.limits inside.forgotten s c.self.view_is c.self.invariant.1.store.kept in
    let many : c.loop-t.t ≡ length inside.transactions.rows = omega (arith, c.loop-t.auto.t-end, c.loop-t-test.false, c.begun-t-end.ensures) in
    (closed-all c.run_goes_on.ensures c.summary_after.ensures c.transactions_in_run.ensures c.opens_after.ensures c.beginners_after.ensures c.args.those.now s k
    c.loop-t.self.history c.loop-t.t kept run many (ap (λ (z : Stored). z.history) c.loop-t.invariant)).left
