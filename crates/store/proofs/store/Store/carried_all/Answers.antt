use Rattle.std.proofs.Common.{◌≡◌, ◌<◌, ◌++◌, true, map, sym, ap, subst, ◌∙◌, arith}
use Rattle.std.specs.List.{AllByRecursion}
use Rattle.std.proofs.lemmas.Result.{IfOk-weaker}
use Rattle.carried_runs.specs.Objects.{HaveShortLogs}
use Rattle.object_trait.specs.Orders.{Pairs}
use Rattle.open_transactions.specs.Transactions.{has_row}
use Rattle.carried_orders.specs.Orders.{AreStrong}
use Rattle.store_laws.specs.Stored.{Stored, types_of}
use Rattle.store.specs.CarriesAll.{CarriesAll, IsUnseen, open_ones}
use Rattle.store.proofs.CarriedEpochs.{made-with}
use Rattle.store.proofs.CarriedAll.{begins-inside, logs-short, open-ascend, rows-there, rows-inside, merged-as, inside-as, may-go-over, carries-all, goes-unseen}
use Rattle.store.proofs.store.Store.carried_all.Goals as goal

pub committed_objects-requires-after_bounds : goal.committed_objects-requires-after_bounds
committed_objects-requires-after_bounds g c κs within =
    let inside = c.self.inside in
    let ms = map g.R.Recovery.meaning inside.objects.items in
    let rows = inside.transactions.rows in
    let H = inside.past.items ++ inside.history.items in
    let kept = c.self.invariant.1.store.kept in
    begins-inside ms rows H kept c.checked_is_covered.ensures c.committed_is_there.ensures

pub merged_events-requires-clause-short : goal.merged_events-requires-clause-short
merged_events-requires-clause-short g c κs within =
    let inside = c.self.inside in
    let ms = map g.R.Recovery.meaning inside.objects.items in
    let rows = inside.transactions.rows in
    let H = inside.past.items ++ inside.history.items in
    let kept = c.self.invariant.1.store.kept in
    subst (λ xs. HaveShortLogs (map g.R.Recovery.meaning xs)) (sym c.deref.ensures.value)
    (logs-short ms rows H kept c.logs_are_counted.ensures (omega (arith, c.self.invariant.1.store.limited)))

pub merged_events-requires-clause-ascend : goal.merged_events-requires-clause-ascend
merged_events-requires-clause-ascend g c κs within =
    let H = c.self.inside.past.items ++ c.self.inside.history.items in
    let those = c.deref-2.ensures.value ∙ c.in_ok-those.ensures ∙ sym (ap (λ (z : Stored). open_ones z.history) c.self.view_is) in
    subst (Pairs (λ a b. a < b)) (sym those) (open-ascend H)

pub merged_events-requires-clause-are_open : goal.merged_events-requires-clause-are_open
merged_events-requires-clause-are_open g c κs within =
    let inside = c.self.inside in
    let ms = map g.R.Recovery.meaning inside.objects.items in
    let rows = inside.transactions.rows in
    let H = inside.past.items ++ inside.history.items in
    let kept = c.self.invariant.1.store.kept in
    let those = c.deref-2.ensures.value ∙ c.in_ok-those.ensures ∙ sym (ap (λ (z : Stored). open_ones z.history) c.self.view_is) in
    subst (AllByRecursion (λ t. has_row rows t ≡ true)) (sym those) (rows-there ms rows H kept c.rows_say_who_is_open.ensures)

pub merged_events-requires-clause-inside : goal.merged_events-requires-clause-inside
merged_events-requires-clause-inside g c κs within =
    let inside = c.self.inside in
    let ms = map g.R.Recovery.meaning inside.objects.items in
    let rows = inside.transactions.rows in
    let H = inside.past.items ++ inside.history.items in
    let kept = c.self.invariant.1.store.kept in
    let those = c.deref-2.ensures.value ∙ c.in_ok-those.ensures ∙ sym (ap (λ (z : Stored). open_ones z.history) c.self.view_is) in
    inside-as g.R.Recovery.meaning rows inside.objects.items c.deref.result.now (open_ones H) c.deref-2.result.now c.deref.ensures.value those
    (rows-inside ms rows H kept c.rows_say_who_is_open.ensures c.places_are_inside.ensures)

pub redone-requires-clause-run : goal.redone-requires-clause-run
redone-requires-clause-run g c κs within =
    let inside = c.self.inside in
    let ms = map g.R.Recovery.meaning inside.objects.items in
    let rows = inside.transactions.rows in
    let H = inside.past.items ++ inside.history.items in
    let kept = c.self.invariant.1.store.kept in
    let those = c.deref-2.ensures.value ∙ c.in_ok-those.ensures ∙ sym (ap (λ (z : Stored). open_ones z.history) c.self.view_is) in
    let merged = merged-as g.R.Recovery.meaning rows inside.objects.items c.deref.result.now (open_ones H) c.deref-2.result.now c.in_ok-events.events.items c.deref.ensures.value those c.in_ok-events.ensures in
    (may-go-over ms rows H kept c.checked_is_covered.ensures c.committed_is_there.ensures inside.limits inside.forgotten c.args.self.now c.self.view_is
    (map g.R.Recovery.meaning c.in_ok-objects.objects.items) (map g.R.Recovery.meaning c.args.added.items) c.in_ok-objects.ensures
    c.in-Ok.store c.in-Ok.ensures.checked (made-with g.R.Recovery.meaning c.in_ok-objects.objects.items c.args.added.items c.add_all.new.objects.items inside.limits c.in-Ok.store c.in_ok-add_all.ensures c.in-Ok.ensures.made.1)
    c.rows_say_who_is_open.ensures c.merged_keeps_orders.ensures c.in_ok-events.events.items merged
    c.carried_in_any_order.ensures c.carried_works.ensures c.carried_fits.ensures c.as_slice-run.result.now c.as_slice-run.ensures.value
    c.self.invariant.1.store.limited c.self.invariant.1.few_open).run

pub redone-requires-clause-room : goal.redone-requires-clause-room
redone-requires-clause-room g c κs within =
    let inside = c.self.inside in
    let ms = map g.R.Recovery.meaning inside.objects.items in
    let rows = inside.transactions.rows in
    let H = inside.past.items ++ inside.history.items in
    let kept = c.self.invariant.1.store.kept in
    let those = c.deref-2.ensures.value ∙ c.in_ok-those.ensures ∙ sym (ap (λ (z : Stored). open_ones z.history) c.self.view_is) in
    let merged = merged-as g.R.Recovery.meaning rows inside.objects.items c.deref.result.now (open_ones H) c.deref-2.result.now c.in_ok-events.events.items c.deref.ensures.value those c.in_ok-events.ensures in
    (may-go-over ms rows H kept c.checked_is_covered.ensures c.committed_is_there.ensures inside.limits inside.forgotten c.args.self.now c.self.view_is
    (map g.R.Recovery.meaning c.in_ok-objects.objects.items) (map g.R.Recovery.meaning c.args.added.items) c.in_ok-objects.ensures
    c.in-Ok.store c.in-Ok.ensures.checked (made-with g.R.Recovery.meaning c.in_ok-objects.objects.items c.args.added.items c.add_all.new.objects.items inside.limits c.in-Ok.store c.in_ok-add_all.ensures c.in-Ok.ensures.made.1)
    c.rows_say_who_is_open.ensures c.merged_keeps_orders.ensures c.in_ok-events.events.items merged
    c.carried_in_any_order.ensures c.carried_works.ensures c.carried_fits.ensures c.as_slice-run.result.now c.as_slice-run.ensures.value
    c.self.invariant.1.store.limited c.self.invariant.1.few_open).room

pub redone-requires-clause-few : goal.redone-requires-clause-few
redone-requires-clause-few g c κs within =
    let inside = c.self.inside in
    let ms = map g.R.Recovery.meaning inside.objects.items in
    let rows = inside.transactions.rows in
    let H = inside.past.items ++ inside.history.items in
    let kept = c.self.invariant.1.store.kept in
    let those = c.deref-2.ensures.value ∙ c.in_ok-those.ensures ∙ sym (ap (λ (z : Stored). open_ones z.history) c.self.view_is) in
    let merged = merged-as g.R.Recovery.meaning rows inside.objects.items c.deref.result.now (open_ones H) c.deref-2.result.now c.in_ok-events.events.items c.deref.ensures.value those c.in_ok-events.ensures in
    (may-go-over ms rows H kept c.checked_is_covered.ensures c.committed_is_there.ensures inside.limits inside.forgotten c.args.self.now c.self.view_is
    (map g.R.Recovery.meaning c.in_ok-objects.objects.items) (map g.R.Recovery.meaning c.args.added.items) c.in_ok-objects.ensures
    c.in-Ok.store c.in-Ok.ensures.checked (made-with g.R.Recovery.meaning c.in_ok-objects.objects.items c.args.added.items c.add_all.new.objects.items inside.limits c.in-Ok.store c.in_ok-add_all.ensures c.in-Ok.ensures.made.1)
    c.rows_say_who_is_open.ensures c.merged_keeps_orders.ensures c.in_ok-events.events.items merged
    c.carried_in_any_order.ensures c.carried_works.ensures c.carried_fits.ensures c.as_slice-run.result.now c.as_slice-run.ensures.value
    c.self.invariant.1.store.limited c.self.invariant.1.few_open).few

pub returns-in-Ok-clause-carried : goal.returns-in-Ok-clause-carried
returns-in-Ok-clause-carried g c =
    let inside = c.self.inside in
    let ms = map g.R.Recovery.meaning inside.objects.items in
    let rows = inside.transactions.rows in
    let H = inside.past.items ++ inside.history.items in
    let kept = c.self.invariant.1.store.kept in
    let those = c.deref-2.ensures.value ∙ c.in_ok-those.ensures ∙ sym (ap (λ (z : Stored). open_ones z.history) c.self.view_is) in
    let merged = merged-as g.R.Recovery.meaning rows inside.objects.items c.deref.result.now (open_ones H) c.deref-2.result.now c.in_ok-events.events.items c.deref.ensures.value those c.in_ok-events.ensures in
    IfOk-weaker c.redone.result (λ (store : Stored). store ≡ record c.in-Ok.store { history = c.as_slice-run.result.now }) (λ store. CarriesAll c.args.self.now (types_of (map g.R.Recovery.meaning c.args.added.items)) store)
    (λ store does. carries-all ms rows H kept c.checked_is_covered.ensures c.committed_is_there.ensures inside.limits inside.forgotten c.args.self.now c.self.view_is
    (map g.R.Recovery.meaning c.in_ok-objects.objects.items) (map g.R.Recovery.meaning c.args.added.items) c.in_ok-objects.ensures
    c.in-Ok.store c.in-Ok.ensures.checked (made-with g.R.Recovery.meaning c.in_ok-objects.objects.items c.args.added.items c.add_all.new.objects.items inside.limits c.in-Ok.store c.in_ok-add_all.ensures c.in-Ok.ensures.made.1)
    c.rows_say_who_is_open.ensures c.merged_keeps_orders.ensures c.in_ok-events.events.items merged
    store c.as_slice-run.result.now c.as_slice-run.ensures.value does)
    c.redone.ensures.done

pub returns-in-Ok-clause-unseen : goal.returns-in-Ok-clause-unseen
returns-in-Ok-clause-unseen g c =
    let inside = c.self.inside in
    let ms = map g.R.Recovery.meaning inside.objects.items in
    let rows = inside.transactions.rows in
    let H = inside.past.items ++ inside.history.items in
    let kept = c.self.invariant.1.store.kept in
    let those = c.deref-2.ensures.value ∙ c.in_ok-those.ensures ∙ sym (ap (λ (z : Stored). open_ones z.history) c.self.view_is) in
    let merged = merged-as g.R.Recovery.meaning rows inside.objects.items c.deref.result.now (open_ones H) c.deref-2.result.now c.in_ok-events.events.items c.deref.ensures.value those c.in_ok-events.ensures in
    IfOk-weaker c.redone.result (λ (store : Stored). store ≡ record c.in-Ok.store { history = c.as_slice-run.result.now }) (λ store. AreStrong (c.args.self.now.types ++ types_of (map g.R.Recovery.meaning c.args.added.items)) → IsUnseen c.args.self.now (types_of (map g.R.Recovery.meaning c.args.added.items)) store)
    (λ store does. goes-unseen ms rows H kept c.checked_is_covered.ensures c.committed_is_there.ensures inside.limits inside.forgotten c.args.self.now c.self.view_is
    (map g.R.Recovery.meaning c.in_ok-objects.objects.items) (map g.R.Recovery.meaning c.args.added.items) c.in_ok-objects.ensures
    c.in-Ok.store c.in-Ok.ensures.checked (made-with g.R.Recovery.meaning c.in_ok-objects.objects.items c.args.added.items c.add_all.new.objects.items inside.limits c.in-Ok.store c.in_ok-add_all.ensures c.in-Ok.ensures.made.1)
    c.rows_say_who_is_open.ensures c.merged_keeps_orders.ensures c.in_ok-events.events.items merged
    store c.as_slice-run.result.now c.as_slice-run.ensures.value does c.ordered_is_unseen.ensures)
    c.redone.ensures.done
