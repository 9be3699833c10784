use Rattle.std.proofs.Common.{ℕ, List, length, sym, subst, ◌∙◌, arith}
use Rattle.pair_needs.specs.LedPairs.{AreListed, is_lacking}
use Rattle.pair_needs.specs.Mends.{AreLacking}
use Rattle.pair_needs.specs.declared.ends.Pair.{Pair}
use Rattle.pair_needs.proofs.Gathered.{listed-none, listed-lacking}
use Rattle.pair_needs.proofs.mends.lacking_pairs.Goals as goal

pub loop-a-init : goal.loop-a-init
loop-a-init c =
    let test = is_lacking c.in_ok-led.led.seen c.args.file.now.relation in
    let states = length c.args.file.now.relation in
    subst (λ (V : List (ℕ × ℕ)). AreListed test states 0 0 V) (sym c.new-lacking.ensures.items) (listed-none test states)

pub list_row-requires-clause-fits : goal.list_row-requires-clause-fits
list_row-requires-clause-fits c = ((c.in_ok-led.ensures.all).square).height ∙ sym c.args.file.now.relation_fits

pub returns : goal.returns
returns c =
    let file = c.args.file.now in
    let led = c.in_ok-led.led in
    let lacking = c.loop-a.lacking.items in
    subst (λ (p : Pair). AreLacking p.kind file p.p p.q lacking) c.in_ok-led.ensures.pair
    (listed-lacking c.ends_within.ensures file led c.loop-a.a lacking (c.requires.leads).table c.in_ok-led.ensures.all c.states-a-end.ensures.relation file.relation_fits
    (omega (arith, c.loop-a-test.false, c.states-a-end.ensures.exact, file.relation_fits))
    (subst (λ (n : ℕ). AreListed (is_lacking led.seen file.relation) n c.loop-a.a 0 lacking) file.relation_fits c.loop-a.invariant))
