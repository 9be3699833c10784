use Rattle.std.proofs.Common.{◌≡◌, ℕ, length, Some}
use Rattle.std.specs.List.{slice_get}
use Rattle.pair_needs.specs.Explained.{IsExplained}
use Rattle.pair_needs.specs.declared.explained.Explained.{Explained}
use Rattle.pair_needs.proofs.explainer.Explainer.row.Given as goal

abbrev pub invariant-loop-q : goal.invariant-loop-q
invariant-loop-q l = record {
  long : length l.pairs.items ≡ l.q;
  each : (q : ℕ) (e : Explained) → slice_get l.pairs.items q ≡ Some e → IsExplained l.kind l.file l.p q e;
}
