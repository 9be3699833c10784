use Rattle.std.proofs.Common.{ℕ, List, ◌++◌, [], ◌∷◌, set, sym, ap, ◌∙◌}
use Rattle.std.specs.Prelude.{Vec}
use Rattle.std.specs.declared.alloc.Global.{Global}
use Rattle.std.proofs.lemmas.List.{map-set, get_or-map}
use Rattle.exact_tables.specs.Predecessors.{lists_of}
use Rattle.exact_tables.proofs.predecessors.put.Goals as goal

pub returns : goal.returns
returns c =
    let items = λ (list : Vec ℕ Global). list.items in
    let at = get_or-map items c.args.lists.now c.args.position c.index-lists-position.result [] c.requires in
    map-set items c.args.lists.now c.args.position c.push.new.self
    ∙ ap (λ (xs : List ℕ). set (lists_of c.args.lists.now) c.args.position xs)
    (c.in_ok-push.ensures.items ∙ ap (λ (xs : List ℕ). xs ++ c.args.s ∷ []) (sym at))
