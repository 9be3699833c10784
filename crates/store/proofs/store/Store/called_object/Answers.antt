use Rattle.std.proofs.Common.{◌++◌, ◌≡◌, true, false, None, map, slice_get, sym, ◌∙◌}
use Rattle.serial_order.specs.History.{summary, is_open}
use Rattle.store_laws.specs.Stored.{objects}
use Rattle.store.proofs.OpCalls.{object-found, object-missed}
use Rattle.store.proofs.Calls.{open-shown, closed-refusal, closed-unnumbered, objectless-refusal, objectless-unnumbered}
use Rattle.store.proofs.store.Store.called_object.Goals as goal

pub returns-then-not-is_open-clause-refused : goal.returns-then-not-is_open-clause-refused
returns-then-not-is_open-clause-refused g c =
    let inside = c.self.inside in
    let s = c.args.self.now in
    let ms = map g.R.Recovery.meaning inside.objects.items in
    let closed : is_open (summary s.history) c.args.t ≡ false =
    open-shown ms inside.transactions.rows (inside.past.items ++ inside.history.items) inside.limits inside.forgotten s c.self.view_is c.rows_say_who_is_open.ensures c.args.t c.self.invariant.1.store.kept
    ∙ sym c.is_open.ensures ∙ c.if-not-is_open.true in
    closed-refusal s c.args.t c.args.x closed

pub returns-then-not-is_open-clause-unnumbered : goal.returns-then-not-is_open-clause-unnumbered
returns-then-not-is_open-clause-unnumbered g c =
    let inside = c.self.inside in
    let s = c.args.self.now in
    let ms = map g.R.Recovery.meaning inside.objects.items in
    let closed : is_open (summary s.history) c.args.t ≡ false =
    open-shown ms inside.transactions.rows (inside.past.items ++ inside.history.items) inside.limits inside.forgotten s c.self.view_is c.rows_say_who_is_open.ensures c.args.t c.self.invariant.1.store.kept
    ∙ sym c.is_open.ensures ∙ c.if-not-is_open.true in
    sym (closed-unnumbered s c.args.t c.args.x closed)

pub returns-in_default-clause-refused : goal.returns-in_default-clause-refused
returns-in_default-clause-refused g c =
    let inside = c.self.inside in
    let s = c.args.self.now in
    let ms = map g.R.Recovery.meaning inside.objects.items in
    let H = inside.past.items ++ inside.history.items in
    let going : is_open (summary s.history) c.args.t ≡ true =
    open-shown ms inside.transactions.rows H inside.limits inside.forgotten s c.self.view_is c.rows_say_who_is_open.ensures c.args.t c.self.invariant.1.store.kept
    ∙ sym c.is_open.ensures ∙ c.if-not-is_open.false in
    let nowhere : slice_get (objects s) c.args.x ≡ None =
    object-missed g.R.Recovery.meaning inside.objects.items c.deref.result.now inside.transactions.rows H inside.limits inside.forgotten s c.args.x c.self.view_is c.deref.ensures.value c.in_default.ensures.lookup.0 in
    objectless-refusal s c.args.t c.args.x going nowhere

pub returns-in_default-clause-unnumbered : goal.returns-in_default-clause-unnumbered
returns-in_default-clause-unnumbered g c =
    let inside = c.self.inside in
    let s = c.args.self.now in
    let ms = map g.R.Recovery.meaning inside.objects.items in
    let H = inside.past.items ++ inside.history.items in
    let going : is_open (summary s.history) c.args.t ≡ true =
    open-shown ms inside.transactions.rows H inside.limits inside.forgotten s c.self.view_is c.rows_say_who_is_open.ensures c.args.t c.self.invariant.1.store.kept
    ∙ sym c.is_open.ensures ∙ c.if-not-is_open.false in
    let nowhere : slice_get (objects s) c.args.x ≡ None =
    object-missed g.R.Recovery.meaning inside.objects.items c.deref.result.now inside.transactions.rows H inside.limits inside.forgotten s c.args.x c.self.view_is c.deref.ensures.value c.in_default.ensures.lookup.0 in
    sym (objectless-unnumbered s c.args.t c.args.x going nowhere)

pub returns-clause-still_open : goal.returns-clause-still_open
returns-clause-still_open g c =
    let inside = c.self.inside in
    let s = c.args.self.now in
    let ms = map g.R.Recovery.meaning inside.objects.items in
    open-shown ms inside.transactions.rows (inside.past.items ++ inside.history.items) inside.limits inside.forgotten s c.self.view_is c.rows_say_who_is_open.ensures c.args.t c.self.invariant.1.store.kept
    ∙ sym c.is_open.ensures ∙ c.if-not-is_open.false

pub returns-clause-there : goal.returns-clause-there
returns-clause-there g c =
    let inside = c.self.inside in
    object-found g.R.Recovery.meaning inside.objects.items c.deref.result.now inside.transactions.rows (inside.past.items ++ inside.history.items) inside.limits inside.forgotten c.args.self.now c.args.x
    c.self.view_is c.deref.ensures.value c.in-Some.object.now c.in-Some.ensures.lookup.0 c.in-Some.ensures.lookup.1
