use Rattle.std.proofs.Common.{◌≡◌, [], ◌++◌, map, sym, ap, subst, ◌∙◌, append-nil}
use Rattle.std.proofs.lemmas.Result.{IfErr-weaker}
use Rattle.store.specs.Renews.{RefusesRenew}
use Rattle.carried_orders.specs.Orders.{AreStrong}
use Rattle.store_laws.specs.Stored.{types_of}
use Rattle.store.specs.CarriesAll.{CarriesAll, IsUnseen, StaysBehind, carried}
use Rattle.store.proofs.CarriedAll.{stays-behind}
use Rattle.store.proofs.store.Store.renew_unseen.Goals as goal

pub returns-then-not-has_open-clause-refused : goal.returns-then-not-has_open-clause-refused
returns-then-not-has_open-clause-refused g c =
    IfErr-weaker c.renew.result (λ e. RefusesRenew c.args.self e.1) (λ e. StaysBehind c.args.self e.1)
    (λ e why. stays-behind c.args.self (c.has_open.ensures.none c.if-not-has_open.true) e.1 why) c.renew.ensures.refused

pub returns-in-Ok-clause-over : goal.returns-in-Ok-clause-over
returns-in-Ok-clause-over g c =
    let strong = c.is_strong.ensures.0 c.if-not-is_strong.false in
    let none : types_of (map g.R.Recovery.meaning c.new.result.items) ≡ [] = ap (λ xs. types_of (map g.R.Recovery.meaning xs)) c.new.ensures.items in
    let all : AreStrong (c.args.self.types ++ types_of (map g.R.Recovery.meaning c.new.result.items)) =
    subst AreStrong (sym (ap (λ ts. c.args.self.types ++ ts) none ∙ append-nil c.args.self.types)) strong in
    carried (c.has_open.ensures.some c.if-not-has_open.false) strong (subst (λ ts. CarriesAll c.args.self ts c.in-Ok.store) none c.in-Ok.ensures.carried)
    (subst (λ ts. IsUnseen c.args.self ts c.in-Ok.store) none (c.in-Ok.ensures.unseen all))
