use Rattle.std.proofs.Common.{List, slice_get, ap, ◌∙◌}
use Rattle.escrow_laws.specs.declared.bounded.Bounded.{Bounded}
use Rattle.table_checker.proofs.checked_type.bounded_of.Goals as goal

pub returns : goal.returns
returns c = ap (λ (bs : List Bounded). slice_get bs c.args.k) (c.number_tells_bounds.ensures c.args.number.now c.calls-calls.ensures.number) ∙ c.bounded.ensures
