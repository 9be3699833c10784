use Rattle.std.proofs.Common.{◌≡◌, ◌<◌, ℕ, map, Some, slice_get}
use Rattle.table_checker.specs.Checked.{Checked, IsStrong}
use Rattle.store_laws.specs.Stored.{types_of}
use Rattle.store.proofs.strong_types.are_strong.Given as goal

abbrev pub invariant-loop-x : goal.invariant-loop-x
invariant-loop-x g l = (y : ℕ) (c : Checked) → y < l.x → slice_get (types_of (map g.R.Recovery.meaning l.objects)) y ≡ Some c → IsStrong c
