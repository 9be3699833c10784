use Rattle.std.proofs.Common.{◌≡◌, ℕ, length, Some}
use Rattle.std.specs.List.{slice_get}
use Rattle.pair_needs.specs.Explained.{IsRow}
use Rattle.pair_needs.specs.declared.explained.Row.{Row}
use Rattle.pair_needs.proofs.explainer.Explainer.rows.Given as goal

abbrev pub invariant-loop-p : goal.invariant-loop-p
invariant-loop-p l = record {
  long : length l.rows.items ≡ l.p;
  each : (p : ℕ) (row : Row) → slice_get l.rows.items p ≡ Some row → IsRow l.kind l.file p row;
}
