use Rattle.std.proofs.Common.{◌-◌, map, refl, arith}
use Rattle.table_checker.specs.Checked.{IsStrong}
use Rattle.store_laws.specs.Stored.{types_of}
use Rattle.store.proofs.StrongTypes.{type-at, told-at, strong-by}
use Rattle.store.proofs.strong_types.is_strong_at.Goals as goal

pub returns-then-is_at : goal.returns-then-is_at
returns-then-is_at g c = λ d here.
    let meaning = g.R.Recovery.meaning in
    let types = types_of (map meaning c.args.objects.now) in
    let its = type-at meaning c.args.objects.now c.args.x c.index-objects-x.result c.requires.there c.index-objects-x.is in
    let prior = type-at meaning c.args.objects.now (c.args.x - 1) c.index-objects-x-2.result (omega arith) c.index-objects-x-2.is in
    let strong : IsStrong d =
    strong-by c.at_is_strong.ensures types c.args.x (c.args.x - 1) c.initial.result c.checked-checked.result.now (meaning c.index-objects-x.result).checked c.checked.result.now
    (meaning c.index-objects-x-2.result).checked d its c.checked-checked.ensures prior c.checked.ensures (λ e earlier. c.requires.before (c.args.x - 1) e (omega arith) earlier)
    (c.is_at.ensures c.if-is_at.true) here in
    (λ yes. strong, λ is. refl)

pub returns : goal.returns
returns g c = λ d here.
    let meaning = g.R.Recovery.meaning in
    told-at (types_of (map meaning c.args.objects.now)) c.args.x d (meaning c.index-objects-x.result).checked c.checked-checked.result.now c.is_strong-2.result
    (type-at meaning c.args.objects.now c.args.x c.index-objects-x.result c.requires.there c.index-objects-x.is) c.checked-checked.ensures c.is_strong-2.ensures here
