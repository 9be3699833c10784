-- What the law of canonical texts asks of the counter of two.
use Rattle.std.proofs.Common.{◌≡◌, ℕ, ◌<◌, true, get_or, refl, arith}
use Rattle.type_table.specs.declared.op.Op.{Op}
use Rattle.type_table.specs.Name.{is_name}
use Rattle.type_table.specs.Examples.{counter_table}
use Rattle.type_text.specs.Canonical.{HasNames, IsTypeFile}
use Rattle.table_checker.specs.Examples.{counter_file}
use Rattle.table_checker.proofs.Examples.{at_two, at_three, counter-table}

-- the counter's parts are those of a file
pub counter-is_file : IsTypeFile counter_file
counter-is_file = record {
  table = counter-table;
  relation = record {
    some_states = omega arith;
    states_fit = omega arith;
    square = record { height = refl; width = at_three _ refl refl refl };
    reflexive = at_three _ refl refl refl;
  };
  undo = record { height = refl; width = at_two _ refl refl };
  intentions = record { height = refl; width = at_two _ refl refl };
}

-- the names of an operation are names
AreNames : Op → Type 0
AreNames op = (is_name op.call ≡ true) × (is_name op.reply ≡ true)

-- its names are names
pub counter-names : HasNames counter_table
unfolding is_name AreNames
counter-names =
    let named : (d : Op) (k : ℕ) → k < 2 → AreNames (get_or counter_table.ops k d) =
    λ d. at_two (λ k. AreNames (get_or counter_table.ops k d)) (refl, refl) (refl, refl) in
    record { name = refl; ops = λ k d below. named d k below }
