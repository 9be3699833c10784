use Rattle.std.proofs.Common.{Some, sym, subst}
use Rattle.object_calls.proofs.WithoutReply.{IsFound, none_finds, odd_finds, listed_finds, with_place, with_finds}
use Rattle.object_calls.proofs.unreplied.number_unreplied.Goals as goal

pub returns-in_err-u-clause-found : goal.returns-in_err-u-clause-found
returns-in_err-u-clause-found g c =
    let m = g.R.Recovery.meaning c.args.object.now in
    subst (λ h. IsFound m c.args.t c.args.place h c.from_residual.result) (sym c.in_err-u.was)
    (none_finds c.number_has_table.ensures c.numbers_answer.ensures m c.args.t c.args.number.now c.calls-calls.ensures.number c.requires c.view-seen.result c.view-seen.ensures.exact
    c.view-seen.ensures.inside c.args.place c.from_residual.result)

pub returns-then-place-ne0-clause-found : goal.returns-then-place-ne0-clause-found
returns-then-place-ne0-clause-found g c =
    odd_finds c.number_has_table.ensures c.numbers_answer.ensures (g.R.Recovery.meaning c.args.object.now) c.args.t c.args.number.now c.calls-calls.ensures.number c.requires c.view-seen.result
    c.view-seen.ensures.exact c.view-seen.ensures.inside c.args.place c.args.holder _ c.if-place-ne0.true

pub returns-in-Some-clause-place : goal.returns-in-Some-clause-place
returns-in-Some-clause-place g c =
    with_place c.number_has_table.ensures c.numbers_answer.ensures (g.R.Recovery.meaning c.args.object.now) c.args.t c.args.number.now c.calls-calls.ensures.number c.requires c.view-seen.result
    c.view-seen.ensures.exact c.view-seen.ensures.inside c.args.place c.in_ok-u.u c.ranges.place.fits c.if-place-ne0.false c.amount_kept.result c.amount_kept.ensures c.in-Some.n c.in-Some.is
    c.first_with.result c.first_with.ensures

pub returns-in-Some-clause-found : goal.returns-in-Some-clause-found
returns-in-Some-clause-found g c =
    let m = g.R.Recovery.meaning c.args.object.now in
    subst (λ h. IsFound m c.args.t c.args.place h c.first_with.result) (sym c.in_ok-u.was)
    (with_finds c.number_has_table.ensures c.numbers_answer.ensures m c.args.t c.args.number.now c.calls-calls.ensures.number c.requires c.view-seen.result c.view-seen.ensures.exact
    c.view-seen.ensures.inside c.args.place c.in_ok-u.u c.ranges.place.fits c.if-place-ne0.false c.amount_kept.result c.amount_kept.ensures c.in-Some.n c.in-Some.is
    c.first_with.result c.first_with.ensures)

pub returns-in-None-clause-found : goal.returns-in-None-clause-found
returns-in-None-clause-found g c =
    let m = g.R.Recovery.meaning c.args.object.now in
    subst (λ k. IsFound m c.args.t c.args.place c.args.holder (Some k)) (sym c.listed.ensures)
    (subst (λ h. IsFound m c.args.t c.args.place h (Some c.args.place)) (sym c.in_ok-u.was)
    (listed_finds c.number_has_table.ensures c.numbers_answer.ensures m c.args.t c.args.number.now c.calls-calls.ensures.number c.requires c.view-seen.result c.view-seen.ensures.exact
    c.view-seen.ensures.inside c.args.place c.in_ok-u.u c.ranges.place.fits c.if-place-ne0.false c.amount_kept.result c.amount_kept.ensures c.in-None.is))
