-- The lines so far have no words.
use Rattle.std.proofs.Common.{◌≡◌, [], map}
use Rattle.store_text.proofs.Sizes.{words_in_front}
use Rattle.store_text.proofs.size.first_line.Given as goal

abbrev pub invariant-loop-line : goal.invariant-loop-line
invariant-loop-line l = words_in_front (map (λ w. w.now) l.yielded) ≡ []
