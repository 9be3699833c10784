use Rattle.std.proofs.Common.{rules, ◌≡◌, ◌≤◌, length, ◌∙◌, arith}
use Rattle.object_trait.specs.Steps.{open_transactions}
use Rattle.escrow_manager.specs.Numeric.{bounds_in, greatest}
use Rattle.escrow_manager.proofs.Counting.{count-marks}
use Rattle.escrow_manager.proofs.manager.EscrowManagerRecovery.open_count.Goals as goal

-- one mark for each open transaction, and no more than entries
counted : (c : goal.After-len) → (length c.self.inside.marks.items ≡ length (open_transactions c.self.inside.log.items)) × (length c.self.inside.marks.items ≤ length c.self.inside.log.items)
counted c =
    let inside = c.self.inside in
    count-marks c.opens_are_counted.ensures (greatest inside.checked.value) (bounds_in inside.checked.value) inside.log.items inside.marks.items c.self.invariant.listed

pub overflow_cast-result : goal.overflow_cast-result
overflow_cast-result c =
    let room = c.self.invariant.room in
    let few = (counted c).1 in
    let here : c.len.result ≤ 4294967295 = omega (arith, c.len.ensures, c.self.inside.marks.ok.0) in
    search rules

pub returns : goal.returns
returns c = rw (← c.self.view_is) (c.len.ensures ∙ c.self.inside.marks.ok.0 ∙ (counted c).0)
