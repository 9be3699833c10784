use Rattle.std.proofs.Common.{◌≡◌, ◌+◌, ◌*◌, ◌<◌, length, sym, ap, ◌∙◌, arith}
use Rattle.std.proofs.lemmas.Grind.{get_or_default_zero}
use Rattle.std.proofs.lemmas.Nat.{mul-add-lt}
use Rattle.exact_tables.specs.Search.{Marked}
use Rattle.exact_tables.proofs.Strikes.{strikes-shown}
use Rattle.exact_tables.proofs.search.Search.strike.Goals as goal

pub returns : goal.returns
returns c =
    let states = c.self.inside.states in
    let cells = c.self.inside.cells.items in
    let same : states ≡ c.args.self.now.states = ap (λ (m : Marked). m.states) c.self.view_is in
    let fits : c.args.s * states + c.args.t < length cells =
    omega (arith, c.self.invariant, mul-add-lt c.args.s states c.args.t states (omega (arith, c.requires.first, same)) (omega (arith, c.requires.second, same))) in
    strikes-shown c.args.n c.args.s c.args.t states cells c.self.inside.found.items c.push.new.self.items c.args.self.now c.self.view_is c.in_ok-push.ensures.items
    c.requires.some c.requires.first c.requires.second c.self.invariant
    (sym (get_or_default_zero cells (c.args.s * states + c.args.t) c.index.result.now fits) ∙ sym c.index.ensures ∙ c.if-index-ne0.false)
