use Rattle.std.proofs.Common.{◌≡◌, ◌++◌, map, sym, subst, arith}
use Rattle.std.proofs.lemmas.Result.{IfOk-weaker}
use Rattle.carried_runs.specs.Objects.{HaveShortLogs}
use Rattle.store_laws.specs.Stored.{Stored, types_of}
use Rattle.store.specs.Carries.{Carries}
use Rattle.store.proofs.CarriedEpochs.{committed-inside, short-logs, few-carried, told-is, made-with, may-do-again, carries}
use Rattle.store.proofs.store.Store.carried_with.Goals as goal

pub committed_objects-requires-after_bounds : goal.committed_objects-requires-after_bounds
committed_objects-requires-after_bounds g c κs within =
    let inside = c.self.inside in
    let meaning = g.R.Recovery.meaning in
    let H = inside.past.items ++ inside.history.items in
    committed-inside (map meaning inside.objects.items) inside.transactions.rows H c.self.invariant.1.store.kept inside.limits inside.forgotten c.args.self.now c.self.view_is c.checked_is_covered.ensures c.committed_is_there.ensures

pub carried_events-requires-clause-short : goal.carried_events-requires-clause-short
carried_events-requires-clause-short g c κs within =
    let inside = c.self.inside in
    let meaning = g.R.Recovery.meaning in
    let H = inside.past.items ++ inside.history.items in
    subst (λ xs. HaveShortLogs (map meaning xs)) (sym c.deref.ensures.value)
    (short-logs (map meaning inside.objects.items) inside.transactions.rows H c.self.invariant.1.store.kept inside.limits inside.forgotten c.args.self.now c.self.view_is c.logs_are_counted.ensures (omega (arith, c.self.invariant.1.store.limited)))

pub carried_events-requires-clause-few : goal.carried_events-requires-clause-few
carried_events-requires-clause-few g c κs within =
    let inside = c.self.inside in
    let meaning = g.R.Recovery.meaning in
    let H = inside.past.items ++ inside.history.items in
    few-carried (map meaning inside.objects.items) inside.transactions.rows H c.self.invariant.1.store.kept inside.limits inside.forgotten c.args.self.now c.self.view_is c.args.those.now c.requires
    c.carried_fits.ensures c.logs_tell_order.ensures c.self.invariant.1.few_open c.self.invariant.1.within.slotted

pub redone-requires-clause-run : goal.redone-requires-clause-run
redone-requires-clause-run g c κs within =
    let inside = c.self.inside in
    let meaning = g.R.Recovery.meaning in
    let H = inside.past.items ++ inside.history.items in
    (may-do-again (map meaning inside.objects.items) inside.transactions.rows H c.self.invariant.1.store.kept inside.limits inside.forgotten c.args.self.now c.self.view_is
    c.checked_is_covered.ensures c.committed_is_there.ensures (map meaning c.in_ok-objects.objects.items) (map meaning c.args.added.items) c.in_ok-objects.ensures
    c.in-Ok.store c.in-Ok.ensures.checked (made-with meaning c.in_ok-objects.objects.items c.args.added.items c.add_all.new.objects.items inside.limits c.in-Ok.store c.in_ok-add_all.ensures c.in-Ok.ensures.made.1)
    c.carried_in_any_order.ensures c.carried_works.ensures c.carried_fits.ensures c.logs_tell_order.ensures c.args.w c.args.those.now c.requires
    c.as_slice-run.result.now (told-is meaning c.args.w c.args.those.now inside.objects.items c.deref.result.now c.in_ok-events.events.items c.as_slice-run.result.now c.as_slice-run.ensures.value c.in_ok-events.ensures c.deref.ensures.value)
    c.self.invariant.1.store.limited c.self.invariant.1.few_open).run

pub redone-requires-clause-room : goal.redone-requires-clause-room
redone-requires-clause-room g c κs within =
    let inside = c.self.inside in
    let meaning = g.R.Recovery.meaning in
    let H = inside.past.items ++ inside.history.items in
    (may-do-again (map meaning inside.objects.items) inside.transactions.rows H c.self.invariant.1.store.kept inside.limits inside.forgotten c.args.self.now c.self.view_is
    c.checked_is_covered.ensures c.committed_is_there.ensures (map meaning c.in_ok-objects.objects.items) (map meaning c.args.added.items) c.in_ok-objects.ensures
    c.in-Ok.store c.in-Ok.ensures.checked (made-with meaning c.in_ok-objects.objects.items c.args.added.items c.add_all.new.objects.items inside.limits c.in-Ok.store c.in_ok-add_all.ensures c.in-Ok.ensures.made.1)
    c.carried_in_any_order.ensures c.carried_works.ensures c.carried_fits.ensures c.logs_tell_order.ensures c.args.w c.args.those.now c.requires
    c.as_slice-run.result.now (told-is meaning c.args.w c.args.those.now inside.objects.items c.deref.result.now c.in_ok-events.events.items c.as_slice-run.result.now c.as_slice-run.ensures.value c.in_ok-events.ensures c.deref.ensures.value)
    c.self.invariant.1.store.limited c.self.invariant.1.few_open).room

pub redone-requires-clause-few : goal.redone-requires-clause-few
redone-requires-clause-few g c κs within =
    let inside = c.self.inside in
    let meaning = g.R.Recovery.meaning in
    let H = inside.past.items ++ inside.history.items in
    (may-do-again (map meaning inside.objects.items) inside.transactions.rows H c.self.invariant.1.store.kept inside.limits inside.forgotten c.args.self.now c.self.view_is
    c.checked_is_covered.ensures c.committed_is_there.ensures (map meaning c.in_ok-objects.objects.items) (map meaning c.args.added.items) c.in_ok-objects.ensures
    c.in-Ok.store c.in-Ok.ensures.checked (made-with meaning c.in_ok-objects.objects.items c.args.added.items c.add_all.new.objects.items inside.limits c.in-Ok.store c.in_ok-add_all.ensures c.in-Ok.ensures.made.1)
    c.carried_in_any_order.ensures c.carried_works.ensures c.carried_fits.ensures c.logs_tell_order.ensures c.args.w c.args.those.now c.requires
    c.as_slice-run.result.now (told-is meaning c.args.w c.args.those.now inside.objects.items c.deref.result.now c.in_ok-events.events.items c.as_slice-run.result.now c.as_slice-run.ensures.value c.in_ok-events.ensures c.deref.ensures.value)
    c.self.invariant.1.store.limited c.self.invariant.1.few_open).few

pub returns-in-Ok-clause-carried : goal.returns-in-Ok-clause-carried
returns-in-Ok-clause-carried g c =
    let inside = c.self.inside in
    let meaning = g.R.Recovery.meaning in
    let H = inside.past.items ++ inside.history.items in
    IfOk-weaker c.redone.result (λ (store : Stored). store ≡ record c.in-Ok.store { history = c.as_slice-run.result.now }) (λ store. Carries c.args.self.now c.args.w c.args.those.now (types_of (map meaning c.args.added.items)) store)
    (λ store does. carries (map meaning inside.objects.items) inside.transactions.rows H c.self.invariant.1.store.kept inside.limits inside.forgotten c.args.self.now c.self.view_is
    c.checked_is_covered.ensures c.committed_is_there.ensures (map meaning c.in_ok-objects.objects.items) (map meaning c.args.added.items) c.in_ok-objects.ensures
    c.in-Ok.store c.in-Ok.ensures.checked (made-with meaning c.in_ok-objects.objects.items c.args.added.items c.add_all.new.objects.items inside.limits c.in-Ok.store c.in_ok-add_all.ensures c.in-Ok.ensures.made.1)
    c.carried_in_any_order.ensures c.carried_works.ensures c.carried_fits.ensures c.logs_tell_order.ensures c.args.w c.args.those.now c.requires
    store c.as_slice-run.result.now (told-is meaning c.args.w c.args.those.now inside.objects.items c.deref.result.now c.in_ok-events.events.items c.as_slice-run.result.now c.as_slice-run.ensures.value c.in_ok-events.ensures c.deref.ensures.value) does)
    c.redone.ensures.done
