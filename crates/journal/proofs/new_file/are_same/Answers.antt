use Rattle.std.proofs.Common.{◌<◌, ◌≤◌, ◌∷◌, [], ◌++◌, length, take, refl, sym, ap, ◌∙◌, arith}
use Rattle.std.proofs.lemmas.List.{take_all}
use Rattle.std.proofs.lemmas.Option.{slice_get_read}
use Rattle.type_table.proofs.Elements.{take-found}
use Rattle.journal.proofs.new_file.are_same.Goals as goal

pub loop-i-preserved : goal.loop-i-preserved
loop-i-preserved g c =
    let found = c.args.found.now in
    let said = c.args.said.now in
    let i = c.loop-i.i in
    let one = c.index-found-i.result in
    let other = c.index-said-i.result in
    let low : i < length said = omega (arith, c.loop-i-test.true, c.if-found-said.false) in
    take-found found i one (slice_get_read found _ i one refl c.loop-i-test.true c.index-found-i.is)
    ∙ ap (λ front. front ++ one ∷ []) c.loop-i.invariant
    ∙ ap (λ e. take i said ++ e ∷ []) (c.is_same.ensures c.if-not-is_same.false)
    ∙ sym (take-found said i other (slice_get_read said _ i other refl low c.index-said-i.is))

pub returns : goal.returns
returns g c = λ _.
    let found = c.args.found.now in
    let said = c.args.said.now in
    let i = c.loop-i.i in
    let past : length said ≤ i = omega (arith, c.loop-i-test.false, c.if-found-said.false) in
    sym (take_all i found c.loop-i-test.false) ∙ c.loop-i.invariant ∙ take_all i said past
