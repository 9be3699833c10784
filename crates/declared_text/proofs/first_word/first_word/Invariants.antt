-- The lines so far have no word.
use Rattle.std.proofs.Common.{◌≡◌, [], map}
use Rattle.std.specs.List.{flat_map}
use Rattle.line_text.specs.Text.{content_of}
use Rattle.declared_text.proofs.first_word.first_word.Given as goal

abbrev pub invariant-loop-line : goal.invariant-loop-line
invariant-loop-line l = flat_map content_of (map (λ w. w.now) l.yielded) ≡ []
