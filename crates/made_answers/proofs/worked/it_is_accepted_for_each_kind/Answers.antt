use Rattle.std.proofs.Common.{[], ◌∷◌}
use Rattle.type_table.specs.declared.kind.Kind.TheVariants.{Undo, Intentions, Escrow}
use Rattle.table_checker.specs.Examples.{counter_file}
use Rattle.made_answers.proofs.Examples.{one_amount}
use Rattle.made_answers.proofs.worked.it_is_accepted_for_each_kind.Goals as goal

pub returns : goal.returns
returns c =
    let answers = (c.amounts_are_accepted.ensures 2 (1 ∷ []) one_amount).counters in
    let is = c.the_counter_of_two_is_made.ensures in
    record { undo = answers Undo counter_file is; intentions = answers Intentions counter_file is; escrow = answers Escrow counter_file is }
