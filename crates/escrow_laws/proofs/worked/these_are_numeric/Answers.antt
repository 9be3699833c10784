use Rattle.std.proofs.Common.{refl}
use Rattle.type_table.specs.Examples.{counter_table}
use Rattle.escrow_laws.specs.Bounds.{steps_of}
use Rattle.escrow_laws.specs.Examples.{five_table, five_ops, stock_table, stock_ops, account_of_two, account_ops, one_element, one_element_ops, rarely, rarely_ops}
use Rattle.escrow_laws.proofs.Examples.{are_within}
use Rattle.escrow_laws.proofs.worked.these_are_numeric.Goals as goal

pub returns-clause-of_five : goal.returns-clause-of_five
unfolding steps_of
returns-clause-of_five c = c.numbers_have_tables.ensures five_table 5 five_ops refl refl (are_within 5 five_ops refl)

pub returns-clause-of_stock : goal.returns-clause-of_stock
returns-clause-of_stock c = c.numbers_have_tables.ensures stock_table 1000 stock_ops refl refl (are_within 1000 stock_ops refl)

pub returns-clause-of_counter : goal.returns-clause-of_counter
unfolding steps_of
returns-clause-of_counter c = c.numbers_have_tables.ensures counter_table 2 one_element_ops refl refl (are_within 2 one_element_ops refl)

pub returns-clause-of_account : goal.returns-clause-of_account
unfolding steps_of
returns-clause-of_account c = c.numbers_have_tables.ensures account_of_two 2 account_ops refl refl (are_within 2 account_ops refl)

pub returns-clause-of_one_element : goal.returns-clause-of_one_element
unfolding steps_of
returns-clause-of_one_element c = c.numbers_have_tables.ensures one_element 2 one_element_ops refl refl (are_within 2 one_element_ops refl)

pub returns-clause-of_rarely : goal.returns-clause-of_rarely
unfolding steps_of
returns-clause-of_rarely c = c.numbers_have_tables.ensures rarely 1 rarely_ops refl refl (are_within 1 rarely_ops refl)
