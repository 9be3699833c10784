use Rattle.std.proofs.Common.{ap, ◌∙◌, map}
use Rattle.std.proofs.lemmas.Iterator.{YieldsList-from_slice, YieldsList-from_zip}
use Rattle.std.proofs.lemmas.Iterator.Consumers.{YieldsList-at, YieldsList-end}
use Rattle.library_calls.proofs.AttemptRooms.{call_read, zip-read}
use Rattle.library_calls.proofs.attempt_calls.calls_of.Goals as goal

pub returns : goal.returns
returns c =
    let firsts = YieldsList-at c.zip-at-items.ensures.first (YieldsList-from_slice c.args.xs.now c.iter.ensures.rest) in
    let seconds = YieldsList-from_slice c.args.words.now c.zip-at-items.ensures.second.0 in
    let pairs = YieldsList-at c.into_iter-at-iterator.ensures.into_iter_gives (YieldsList-from_zip firsts seconds) in
    let all = YieldsList-end pairs c.loop-at.yielded c.loop-at.at-iterator c.loop-at.yielded_by c.next.result c.next.new.self c.in-None.is c.next.ensures.steps in
    c.loop-at.invariant ∙ ap (map call_read) all.0 ∙ zip-read (λ w. w.now) c.args.xs.now c.args.words.now
