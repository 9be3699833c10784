-- The greatest place so far.
use Rattle.std.proofs.Common.{◌≡◌, take}
use Rattle.history_text.specs.Canonical.{places_of}
use Rattle.history_text.proofs.size.places_of.Given as goal

abbrev pub invariant-loop-object : goal.invariant-loop-object
invariant-loop-object l = l.most ≡ places_of (take l.object-index l.objects)
