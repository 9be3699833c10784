use Rattle.std.proofs.lemmas.Result.{on_ok_weaker}
use Rattle.pair_needs.specs.LedPairs.{Adds}
use Rattle.pair_needs.specs.declared.mends.LedPairs.{LedPairs}
use Rattle.pair_needs.proofs.Gathered.{begun-undo, begun-both}
use Rattle.pair_needs.proofs.mends.LedPairs.begin_at.Goals as goal

pub returns-in-Undo : goal.returns-in-Undo
returns-in-Undo c =
    on_ok_weaker c.add.result
    (λ (adds : Adds c.in-Some-held_first.held c.in-Some-requested_first.requested c.args.self.now c.add.new.self).
    begun-undo c.args.table.now c.args.s c.in-Some-held_first.held c.in-Some-requested_first.requested c.args.self.now c.in-Some.ends c.requires.gathered c.requires.led c.in-Some.ensures
    c.in-Some-held_first.is c.in-Some-requested_first.is c.add.new.self c.in-Undo.is adds)
    c.add.ensures

pub returns-in-Intentions : goal.returns-in-Intentions
returns-in-Intentions c =
    let held = c.in-Some-held_first.held in
    let requested = c.in-Some-requested_first.requested in
    on_ok_weaker c.add_both.result
    (λ (adds : (middle : LedPairs) × Adds held requested c.args.self.now middle × Adds requested held middle c.add_both.new.self).
    begun-both c.args.table.now c.args.s held requested c.args.self.now c.in-Some.ends c.requires.gathered c.requires.led c.in-Some.ensures
    c.in-Some-held_first.is c.in-Some-requested_first.is adds.0 c.add_both.new.self c.in-Intentions.is adds.1 adds.2)
    c.add_both.ensures
