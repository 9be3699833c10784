use Rattle.std.proofs.Common.{refl, sym, ◌∙◌}
use Rattle.std.proofs.lemmas.Option.{slice_get_read}
use Rattle.std.proofs.lemmas.Result.{on_ok_weaker}
use Rattle.pair_needs.specs.LedPairs.{Adds}
use Rattle.pair_needs.proofs.Gathered.{gathered-step}
use Rattle.pair_needs.proofs.mends.LedPairs.follow.Goals as goal

pub returns-clause-gathered : goal.returns-clause-gathered
returns-clause-gathered c =
    let old = c.args.self.now in
    let at = slice_get_read old.found.items _ c.args.place c.index.result.now refl c.requires.place c.index.ensures in
    on_ok_weaker c.add.result
    (λ (adds : Adds c.in-Some.first c.in-Some-next.second old c.add.new.self).
    (gathered-step c.runs_along.ensures c.args.table.now c.args.place c.args.k old c.add.new.self c.index.result.now.0 c.index.result.now.1 c.in-Some.first c.in-Some-next.second c.requires.gathered at
    (sym c.next.ensures.exact ∙ c.in-Some.is) (sym c.next-2.ensures.exact ∙ c.in-Some-next.is) c.in-Some.ensures.inside c.in-Some-next.ensures.inside adds).0)
    c.add.ensures

pub returns-clause-kept : goal.returns-clause-kept
returns-clause-kept c =
    let old = c.args.self.now in
    let at = slice_get_read old.found.items _ c.args.place c.index.result.now refl c.requires.place c.index.ensures in
    on_ok_weaker c.add.result
    (λ (adds : Adds c.in-Some.first c.in-Some-next.second old c.add.new.self).
    (gathered-step c.runs_along.ensures c.args.table.now c.args.place c.args.k old c.add.new.self c.index.result.now.0 c.index.result.now.1 c.in-Some.first c.in-Some-next.second c.requires.gathered at
    (sym c.next.ensures.exact ∙ c.in-Some.is) (sym c.next-2.ensures.exact ∙ c.in-Some-next.is) c.in-Some.ensures.inside c.in-Some-next.ensures.inside adds).1)
    c.add.ensures
