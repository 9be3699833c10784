-- The pieces so far have no byte.
use Rattle.std.proofs.Common.{◌≡◌, [], map, filter}
use Rattle.line_text.specs.Text.{has_bytes}
use Rattle.declared_text.proofs.first_word.first_in.Given as goal

abbrev pub invariant-loop-word : goal.invariant-loop-word
invariant-loop-word l = filter has_bytes (map (λ w. w.now) l.yielded) ≡ []
