use Rattle.std.proofs.Common.{◌≡◌, ◌<◌, ℕ, map, Some, slice_get}
use Rattle.object_trait.specs.Meaning.{Meaning}
use Rattle.carried_orders.specs.Merging.{IsNoneNext}
use Rattle.carried_orders.proofs.merging.are_at_ends.Given as goal

abbrev pub invariant-loop-x : goal.invariant-loop-x
invariant-loop-x g l =
    (y h : ℕ) (m : Meaning) → y < l.x → slice_get (map g.R.Recovery.meaning l.objects) y ≡ Some m → slice_get l.heads y ≡ Some h → IsNoneNext l.those m.log h
