-- Runs along two lists, and what stays so of their ends.
use Rattle.std.proofs.Common.{◌≡◌, ℕ, List, ◌++◌, Option, ap, ◌∙◌}
use Rattle.type_table.specs.Table.{Table}
use Rattle.type_table.specs.Run.{run, Looks, AreEqui}
use Rattle.type_table.specs.Laws.{RunsAlong}
use Rattle.serial_order.specs.Operations.{ops}
use Rattle.serial_order.specs.declared.entry.Entry.{Entry}
use Rattle.serial_order.proofs.Lists.{ops-append}

-- ---- two lists

-- a run along two lists of operations that survive
pub run-append : RunsAlong → (T : Table) (from : Option ℕ) (V W : List Entry) → run T from (ops (V ++ W)) ≡ run T (run T from (ops V)) (ops W)
run-append along T from V W = ap (run T from) (ops-append V W) ∙ along T from (ops V) (ops W)

-- equieffective states are so after the same operations
pub run-equi : RunsAlong → (T : Table) (a b : Option ℕ) (w : List ℕ) → AreEqui T a b → AreEqui T (run T a w) (run T b w)
run-equi along T a b w equi = (one_way a b equi.0, one_way b a equi.1)
  where
    one_way : (c d : Option ℕ) → Looks T c d → Looks T (run T c w) (run T d w)
    one_way c d looks = λ ks legal. rw (along T d w ks) at (looks (w ++ ks) (rw (along T c w ks) legal))
