use Rattle.std.proofs.Common.{ℕ}
use Rattle.library_calls.specs.Families.{HasNone, IsOfFamily}
use Rattle.table_families.specs.Stock.{StockFits, stock}
use Rattle.table_families.specs.Amounts.{AreAmounts}
use Rattle.colock_c.proofs.Typings.{of_family}
use Rattle.colock_c.proofs.types.colock_type_stock.Goals as goal

pub returns-clause-made : goal.returns-clause-made
returns-clause-made c = λ k empty is.
    of_family (IsOfFamily (AreAmounts c.args.cap c.args.amounts.now) (StockFits c.args.amounts.now) (stock c.args.cap c.args.amounts.now)) (λ (n : ℕ). HasNone (AreAmounts c.args.cap c.args.amounts.now) (StockFits c.args.amounts.now) n)
    c.stock_file-made.result k c.args.fault.now c.hold_made.result c.hold_made.new.fault c.hold_made.new.slot.handle.held c.stock_file-made.ensures.made c.stock_file-made.ensures.refused (c.hold_made.ensures.made k empty is)
