use Rattle.std.proofs.Common.{refl, arith}
use Rattle.type_table.specs.Table.{next}
use Rattle.type_table.specs.declared.table_kind.TableKind.TheVariants.{Intentions}
use Rattle.table_checker.specs.Condition.{passes_forward}
use Rattle.table_checker.specs.Examples.{counter_file}
use Rattle.table_checker.proofs.Examples.{counter-table}
use Rattle.exact_tables.specs.Exact.{IsExactFile}
use Rattle.exact_tables.proofs.Examples.{counter-exact}
use Rattle.exact_tables.proofs.worked.two_ups_are_in_each_table_that_covers.Goals as goal

-- they fail at state 1, where one more is legal and two more aren't
pub returns : goal.returns
unfolding next passes_forward
returns c =
    let covered = c.counter_with_both_pairs_is_covered.ensures in
    let file : IsExactFile counter_file = record { table = counter-table; exact = counter-exact; begins_inside = covered.begins_inside; closed = covered.closed } in
    record {
      file = file;
      each = λ rows covers. (c.covers_exactly.ensures Intentions counter_file rows file).0 covers 0 0 1 (record { requested = omega arith; held = omega arith; state = omega arith }) refl;
    }
