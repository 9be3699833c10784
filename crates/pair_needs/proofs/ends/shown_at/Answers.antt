use Rattle.std.proofs.Common.{◌∙◌, Option, Some, MatchOption, refl}
use Rattle.std.proofs.lemmas.Result.{IfOk-weaker}
use Rattle.type_table.specs.Commute.{Commutes}
use Rattle.pair_needs.specs.Ends.{AreAlike, IsFirstParting, IsFirstShown}
use Rattle.pair_needs.specs.Needs.{only}
use Rattle.pair_needs.specs.declared.ends.Shown.{Shown}
use Rattle.pair_needs.proofs.Parting.{commutes-unasked, first-illegal, first-shown_here, first-unheld, first-ends}
use Rattle.pair_needs.proofs.ends.shown_at.Goals as goal

pub returns-in_default : goal.returns-in_default
returns-in_default c = commutes-unasked c.args.table.now c.args.pair.p c.args.pair.q c.args.s c.args.pair.kind c.in_default.ensures

pub returns-in_default-requested_first : goal.returns-in_default-requested_first
returns-in_default-requested_first c =
    let ends = c.in-Some.ensures in
    first-shown_here c.args.table.now c.args.pair.p c.args.pair.q c.args.s c.args.pair.kind c.in-Some.ends.held_first _ _ ends.asked ends.held_first
    (ends.requested_first ∙ c.in_default-requested_first.is) (first-illegal c.args.pair.kind c.args.table.now c.in-Some.ends.held_first _ refl c.new.ensures.items)

pub returns-in_default-held_first : goal.returns-in_default-held_first
returns-in_default-held_first c =
    let ends = c.in-Some.ensures in
    first-unheld c.args.table.now c.args.pair.p c.args.pair.q c.args.s c.args.pair.kind c.in-Some-requested_first.requested _ ends.asked
    (ends.held_first ∙ c.in_default-held_first.is) (ends.requested_first ∙ c.in-Some-requested_first.is) refl c.new-in_default-held_first.ensures.items

pub returns : goal.returns
returns c =
    let T = c.args.table.now in
    let kind = c.args.pair.kind in
    let p = c.args.pair.p in
    let q = c.args.pair.q in
    let held = c.in-Some-held_first.held in
    let requested = c.in-Some-requested_first.requested in
    IfOk-weaker c.told_at.result (λ (found : Option Shown). MatchOption found (AreAlike kind T (Some held) (Some requested)) (IsFirstParting kind T (Some held) (Some requested)))
    (λ (found : Option Shown). MatchOption found (Commutes kind T (only c.args.s) p q) (IsFirstShown kind T p q c.args.s))
    (λ found is. first-ends T p q c.args.s kind held requested found c.in-Some.ensures.asked (c.in-Some.ensures.held_first ∙ c.in-Some-held_first.is) (c.in-Some.ensures.requested_first ∙ c.in-Some-requested_first.is) is)
    c.told_at.ensures
