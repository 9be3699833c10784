use Rattle.std.proofs.Common.{◌∙◌, refl, rules, sym, tests}
use Rattle.std.proofs.lemmas.Iterator.{YieldsList-from_slice}
use Rattle.std.proofs.lemmas.Iterator.Search.{any_from_yields_List}
use Rattle.serving.specs.Names.{is_numbered}
use Rattle.serving.proofs.names.unless_carried.Goals as goal

pub returns : goal.returns
returns c =
    let there = any_from_yields_List (is_numbered c.args.number) _ _ c.any.result c.any.ensures.ran (YieldsList-from_slice c.args.carried.now cc) (λ x b q k. search (rules, tests)) in
    rw (sym there ∙ c.if-any.false) refl

pub returns-then-any : goal.returns-then-any
returns-then-any c =
    let there = any_from_yields_List (is_numbered c.args.number) _ _ c.any.result c.any.ensures.ran (YieldsList-from_slice c.args.carried.now cc) (λ x b q k. search (rules, tests)) in
    rw (sym there ∙ c.if-any.true) refl
