use Rattle.outputs.proofs.GatheredLemmas.{some_passed}
use Rattle.outputs.proofs.gathered.Gathered.flush.Goals as goal

pub returns-in-Err-clause-bytes : goal.returns-in-Err-clause-bytes
returns-in-Err-clause-bytes g c =
    some_passed _ _ c.deref.result.now c.args.self.now.bytes.items c.args.self.now.passed c.hand_on-count.result.0 c.deref.ensures.value c.hand_on-count.ensures.bytes
