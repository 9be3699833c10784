use Rattle.std.proofs.lemmas.Result.{on_ok_weaker}
use Rattle.pair_needs.specs.LedPairs.{Adds}
use Rattle.pair_needs.proofs.mends.LedPairs.add_both.Goals as goal

pub returns : goal.returns
returns c = on_ok_weaker c.add-2.result (λ (adds : Adds c.args.b c.args.a c.add.new.self c.add-2.new.self). (c.add.new.self, c.in_ok-add.ensures, adds)) c.add-2.ensures
