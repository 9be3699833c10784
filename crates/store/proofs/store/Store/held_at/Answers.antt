use Rattle.std.proofs.Common.{◌≡◌, ◌∙◌, ◌&&◌, ◌++◌, true, false, map, sym, ap, subst}
use Rattle.std.proofs.lemmas.List.Filters.{dedup_is}
use Rattle.serial_order.specs.History.{summary, is_open, surviving}
use Rattle.serial_order.specs.Operations.{is_among, of}
use Rattle.carried_orders.specs.Merging.{worked_at}
use Rattle.store_laws.specs.Kept.{keeping, IsKept}
use Rattle.store.specs.HeldAt.{AreHeldAt}
use Rattle.store.proofs.CarriedAll.{open-all, rows-of}
use Rattle.store.proofs.Closings.{kept-shown}
use Rattle.store.proofs.Opens.{open-alike}
use Rattle.store.proofs.SortedNumbers.{none-ascend, sorted-once}
use Rattle.store.proofs.store.Store.held_at.Goals as goal

pub returns-then-not-is_open : goal.returns-then-not-is_open
returns-then-not-is_open g c =
    let s = c.args.self.now in
    let inside = c.self.inside in
    let ms = map g.R.Recovery.meaning inside.objects.items in
    let rows = inside.transactions.rows in
    let kept : IsKept (keeping ms rows) s.history =
    kept-shown (keeping ms rows) (inside.past.items ++ inside.history.items) inside.limits inside.forgotten s c.self.view_is c.self.invariant.1.store.kept in
    let closed : is_open (summary s.history) c.args.t ≡ false =
    open-alike c.rows_say_who_is_open.ensures ms rows s.history c.args.t kept ∙ sym c.is_open.ensures ∙ c.if-not-is_open.true in
    subst (λ xs. AreHeldAt s.history c.args.t xs) (sym c.new.ensures.items) (record {
      ascend = none-ascend;
      are = λ x. ap (λ b. b && is_among (worked_at (of c.args.t (surviving s.history))) x) (sym closed);
    })

pub returns : goal.returns
returns g c =
    let s = c.args.self.now in
    let inside = c.self.inside in
    let ms = map g.R.Recovery.meaning inside.objects.items in
    let rows = inside.transactions.rows in
    let kept : IsKept (keeping ms rows) s.history =
    kept-shown (keeping ms rows) (inside.past.items ++ inside.history.items) inside.limits inside.forgotten s c.self.view_is c.self.invariant.1.store.kept in
    let going : is_open (summary s.history) c.args.t ≡ true =
    open-alike c.rows_say_who_is_open.ensures ms rows s.history c.args.t kept ∙ sym c.is_open.ensures ∙ c.if-not-is_open.false in
    let worked : c.places.result.now ≡ worked_at (of c.args.t (surviving s.history)) =
    c.places.ensures ∙ rows-of ms rows s.history kept c.rows_say_who_is_open.ensures c.args.t (open-all s.history c.args.t going) in
    let its = sorted-once _ _ _ c.sort_unstable.ensures.permutation c.sort_unstable.ensures.sorted (dedup_is _ _ _ c.dedup.ensures.filtered) in
    record {
      ascend = its.0;
      are = λ x. its.1 x ∙ ap (λ ns. is_among ns x) (c.in_ok-held.ensures ∙ worked) ∙ ap (λ b. b && is_among (worked_at (of c.args.t (surviving s.history))) x) (sym going);
    }
