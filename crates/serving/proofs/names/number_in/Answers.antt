use Rattle.std.proofs.Common.{◌∙◌, option_copied, option_map, rules, sym, tests, ap}
use Rattle.std.proofs.lemmas.Iterator.{YieldsList-from_slice}
use Rattle.std.proofs.lemmas.Iterator.Search.{find_from_yields_List}
use Rattle.serving.specs.declared.names.Carried.{Carried}
use Rattle.serving.specs.Names.{is_named}
use Rattle.serving.proofs.names.number_in.Goals as goal

pub returns-in-Some : goal.returns-in-Some
returns-in-Some c =
    let found = find_from_yields_List (is_named c.args.t) _ _ c.find.result c.find.ensures.ran (YieldsList-from_slice c.args.carried.now cc) (λ x b q k. search (rules, tests)) in
    ap (option_map (λ (c : Carried). c.number)) (sym (ap option_copied c.in-Some.is) ∙ found)

pub returns-in-None : goal.returns-in-None
returns-in-None c =
    let found = find_from_yields_List (is_named c.args.t) _ _ c.find.result c.find.ensures.ran (YieldsList-from_slice c.args.carried.now cc) (λ x b q k. search (rules, tests)) in
    ap (option_map (λ (c : Carried). c.number)) (sym (ap option_copied c.in-None.is) ∙ found)
