use Rattle.std.proofs.Common.{◌≡◌, ◌∙◌, false, is_some, refl, sym}
use Rattle.std.proofs.lemmas.Bool.{false≢true, or_left, or_right}
use Rattle.pair_needs.proofs.Parting.{strongly-unasked, strongly-illegal, strongly-unheld, strongly-measured}
use Rattle.pair_needs.proofs.ends.fails_strongly.Goals as goal

pub returns-in_default : goal.returns-in_default
returns-in_default c = (
  (λ t. absurd (false≢true t)),
  (λ fails. absurd (fails (strongly-unasked c.args.table.now c.args.pair.p c.args.pair.q c.args.s c.args.pair.kind c.in_default.ensures))),
)

pub returns-in_default-requested_first : goal.returns-in_default-requested_first
returns-in_default-requested_first c = (
  (λ t. strongly-illegal c.args.table.now c.args.pair.p c.args.pair.q c.args.s c.args.pair.kind c.in-Some.ensures.asked (c.in-Some.ensures.requested_first ∙ c.in_default-requested_first.is)),
  (λ fails. refl),
)

pub returns-in_default-held_first : goal.returns-in_default-held_first
returns-in_default-held_first c = (
  (λ t. strongly-unheld c.args.table.now c.args.pair.p c.args.pair.q c.args.s c.args.pair.kind c.in-Some.ensures.asked (c.in-Some.ensures.held_first ∙ c.in_default-held_first.is)),
  (λ fails. refl),
)

pub returns-then-is_some : goal.returns-then-is_some
returns-then-is_some c =
    let known = strongly-measured c.args.table.now c.args.distances.now c.args.pair c.args.s c.in-Some.ends c.in-Some-held_first.held c.in-Some-requested_first.requested c.between-one_way.result c.between-other_way.result c.requires.distances
    c.in-Some.ensures c.in-Some-held_first.is c.in-Some-requested_first.is c.between-one_way.ensures c.between-other_way.ensures in
    ((λ t. known.0 (or_left (is_some c.between-one_way.result) (is_some c.between-other_way.result) (sym c.is_some.ensures ∙ t))), (λ fails. c.if-is_some.true))

pub returns-else-is_some : goal.returns-else-is_some
returns-else-is_some c =
    let known = strongly-measured c.args.table.now c.args.distances.now c.args.pair c.args.s c.in-Some.ends c.in-Some-held_first.held c.in-Some-requested_first.requested c.between-one_way.result c.between-other_way.result c.requires.distances
    c.in-Some.ensures c.in-Some-held_first.is c.in-Some-requested_first.is c.between-one_way.ensures c.between-other_way.ensures in
    let none : is_some c.between-one_way.result ≡ false = sym c.is_some.ensures ∙ c.if-is_some.false in (
      (λ t. known.0 (or_right (is_some c.between-one_way.result) (is_some c.between-other_way.result) (sym c.is_some-else-is_some.ensures ∙ t))),
      (λ fails. c.is_some-else-is_some.ensures ∙ rw none at (known.1 fails)),
    )
