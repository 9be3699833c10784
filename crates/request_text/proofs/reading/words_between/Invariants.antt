-- The words so far are the pieces so far.
use Rattle.std.proofs.Common.{◌≡◌, map}
use Rattle.request_text.proofs.reading.words_between.Given as goal

abbrev pub invariant-loop-word : goal.invariant-loop-word
invariant-loop-word l = map (λ w. w.now) l.words.items ≡ map (λ w. w.now) l.yielded
