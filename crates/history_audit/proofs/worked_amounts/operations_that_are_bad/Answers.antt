use Rattle.std.proofs.Common.{Some, refl}
use Rattle.std.proofs.lemmas.Bool.{false≢true}
use Rattle.type_table.specs.Operation.{operation_at}
use Rattle.object_trait.specs.declared.event.EventKind.TheVariants as kind
use Rattle.history_judge.specs.Examples.{give_any, take_any, purse_value}
use Rattle.history_audit.proofs.Purse.{bad}
use Rattle.history_audit.proofs.worked_amounts.operations_that_are_bad.Goals as goal

pub returns : goal.returns
returns c = record {
  without = bad 2 refl;
  value_without = bad 6 refl;
  listed_with = bad (operation_at 0 (Some 3)) refl;
  nothing = bad (take_any 0) refl;
  too_much = bad (take_any 10) refl;
  too_much_given = bad (give_any 10) refl;
  value_past = bad (purse_value 10) refl;
  second_of_value = bad (operation_at 7 (Some 1)) refl;
  at_a_table = record {
    history = (refl, tt);
    event = record { worker = 0; kind = kind.Op (operation_at 0 (Some 1)) 0 0 };
    there = refl;
    bad = λ may. false≢true may.1;
  };
}
