use Rattle.std.proofs.Common.{◌++◌, ◌∷◌, [], filter, map, sym, ap, ◌∙◌}
use Rattle.serial_order.specs.History.{summary, is_open}
use Rattle.store_laws.specs.Kept.{keeping, IsKept}
use Rattle.store.proofs.CarriedAll.{open-more, open-none}
use Rattle.store.proofs.Closings.{kept-shown}
use Rattle.store.proofs.Opens.{open-alike}
use Rattle.store.proofs.store.Store.open_ones.Goals as goal

pub loop-t-init : goal.loop-t-init
loop-t-init g c =
    let s = c.args.self.now in
    let inside = c.self.inside in
    let ms = map g.R.Recovery.meaning inside.objects.items in
    let kept : IsKept (keeping ms inside.transactions.rows) s.history =
    kept-shown (keeping ms inside.transactions.rows) (inside.past.items ++ inside.history.items) inside.limits inside.forgotten s c.self.view_is c.self.invariant.1.store.kept in
    c.new-those.ensures.items
    ∙ sym (open-none s.history c.oldest-t.result (λ t low. open-alike c.rows_say_who_is_open.ensures ms inside.transactions.rows s.history t kept ∙ c.oldest-t.ensures.ended t low))

pub loop-t-preserved : goal.loop-t-preserved
loop-t-preserved g c =
    let H = c.args.self.now.history in
    c.in_ok-push_open.ensures ∙ ap (λ ts. ts ++ filter (is_open (summary H)) (c.loop-t.t ∷ [])) c.loop-t.invariant ∙ sym (open-more H c.loop-t.t)
