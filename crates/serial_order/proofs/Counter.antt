-- The counter's file, for which the checker says yes for both kinds of recovery with a conflict table.
use Rattle.std.proofs.Common.{◌≡◌, ℕ, zero, suc, ◌<◌, Bool, false, List, [], ◌∷◌, map, refl, ap, subst}
use Rattle.std.specs.Prelude.{unwrap_or}
use Rattle.std.proofs.lemmas.Option.{none-some}
use Rattle.type_table.specs.Table.{next}
use Rattle.type_table.specs.Kind.{of_table}
use Rattle.type_table.specs.declared.table_kind.TableKind.{TableKind}
use Rattle.type_table.specs.declared.table_kind.TableKind.TheVariants.{Undo, Intentions}
use Rattle.table_checker.specs.Condition.{passes_forward, passes_backward, fails_at, PassesEverywhere}
use Rattle.table_checker.specs.Checked.{IsChecked, IsCommuting, condition_of, Checked}
use Rattle.declared_types.specs.TypeFile.{conflicts_of}
use Rattle.table_checker.specs.Examples.{counter_file}
use Rattle.table_checker.specs.declared.condition.Condition.{Condition}
use Rattle.table_checker.specs.declared.condition.Condition.TheVariants.{Forward, Backward}
use Rattle.table_checker.proofs.Examples.{at_two, at_three, counter-table, counter-certified}
use Rattle.serial_order.specs.Laws.{AreChecked}

-- no pair of a requested and a held operation fails at a state: up with up, up with down, down with up, down with down
at_places : (condition : Condition) (table : List (List Bool)) → let At : ℕ → ℕ → Type 0 = λ p q. (s : ℕ) → s < 3 → fails_at condition counter_file table p q s ≡ false in
    At 0 0 → At 0 1 → At 1 0 → At 1 1 → PassesEverywhere condition counter_file table
at_places condition table up_up up_down down_up down_down p q s inside =
    let with_held : ℕ → Type 0 = λ a. fails_at condition counter_file table a q s ≡ false in
    let up : with_held zero = at_two (λ b. fails_at condition counter_file table zero b s ≡ false) (up_up s inside.state) (up_down s inside.state) q inside.held in
    let down : with_held (suc zero) = at_two (λ b. fails_at condition counter_file table (suc zero) b s ≡ false) (down_up s inside.state) (down_down s inside.state) q inside.held in
    at_two with_held up down p inside.requested

-- the pairs outside the conflict table of a kind pass its condition at each state
counter-passes : (kind : TableKind) → PassesEverywhere (condition_of kind) counter_file (conflicts_of kind counter_file)
unfolding next passes_forward passes_backward
counter-passes Undo p q s inside = at_places Backward counter_file.undo (at_three _ refl refl refl) (at_three _ refl refl refl) (at_three _ refl refl refl) (at_three _ refl refl refl) p q s inside
counter-passes Intentions p q s inside = at_places Forward counter_file.intentions (at_three _ refl refl refl) (at_three _ refl refl refl) (at_three _ refl refl refl) (at_three _ refl refl refl) p q s inside

-- the file, and a kind for which it was accepted
abbrev pub counter_at : TableKind → Checked
counter_at kind = record { kind = of_table kind; file = counter_file }

-- so the checker says yes for each kind
counter-passing : (kind : TableKind) → IsCommuting kind counter_file
counter-passing kind = record {
  table = counter-table;
  certified = counter-certified;
  passes = counter-passes kind;
}

counter-checked : (kind : TableKind) → IsChecked (counter_at kind)
counter-checked Undo = counter-passing Undo
counter-checked Intentions = counter-passing Intentions

-- and for each of a list of kinds
pub counters-checked : (kinds : List TableKind) → AreChecked (map counter_at kinds)
counters-checked [] x c there = absurd (none-some c there)
counters-checked (kind ∷ kinds) zero c there = subst IsChecked (ap (λ found. unwrap_or found c) there) (counter-checked kind)
counters-checked (kind ∷ kinds) (suc x) c there = counters-checked kinds x c there
