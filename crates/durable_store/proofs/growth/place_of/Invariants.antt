-- None of the texts so far is this one.
use Rattle.std.proofs.Common.{◌≡◌}
use Rattle.type_table.proofs.Elements.{FirstAre}
use Rattle.durable_store.proofs.growth.place_of.Given as goal

abbrev pub invariant-loop-place : goal.invariant-loop-place
invariant-loop-place l = FirstAre (λ text. text ≡ l.text → ⊥) l.texts l.place
