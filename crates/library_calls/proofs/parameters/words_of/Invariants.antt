-- The words so far are the pieces so far that have bytes.
use Rattle.std.proofs.Common.{◌≡◌, map, filter}
use Rattle.line_text.specs.Text.{has_bytes}
use Rattle.library_calls.proofs.parameters.words_of.Given as goal

abbrev pub invariant-loop-word : goal.invariant-loop-word
invariant-loop-word l = map (λ w. w.now) l.words.items ≡ filter has_bytes (map (λ w. w.now) l.yielded)
