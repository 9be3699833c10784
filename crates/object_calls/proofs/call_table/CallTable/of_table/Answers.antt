use Rattle.object_calls.specs.Calls.{HoldsCalls}
use Rattle.object_calls.proofs.Holding.{held_as}
use Rattle.std.proofs.Common.{◌≡◌, ◌<◌, List, length, get_or, take, ap, ◌∙◌, arith}
use Rattle.std.proofs.lemmas.List.{take_all, length-map}
use Rattle.type_table.specs.declared.op.Op.{Op}
use Rattle.object_calls.proofs.Tabled.{names_of, length-names_before, names_with_next, is_call_table}
use Rattle.object_calls.proofs.call_table.CallTable.of_table.Goals as goal

pub loop-k-preserved : goal.loop-k-preserved
loop-k-preserved c =
    let ops = c.ops-ops.result.now in
    let k = c.loop-k.k in
    let o = c.index-ops-from.result in
    let k_in : k < length ops = omega (arith, c.op_count-count.ensures.exact, ap (λ (os : List Op). length os) c.ops-ops.ensures) in
    let read : o ≡ get_or ops k o = c.index-ops-from.is ∙ ap (λ i. get_or ops i o) c.from.ensures in
    rw (← names_with_next ops k o k_in read, c.index-ops-from.is)
    (c.in_ok-add_operation.ensures (take k (names_of ops)) (length-names_before ops k o k_in read) c.loop-k.invariant)

pub returns : goal.returns
returns c =
    let T = c.args.table.now in
    let all : take c.loop-k.k (names_of T.ops) ≡ names_of T.ops = take_all c.loop-k.k (names_of T.ops) (omega (arith, c.op_count-count.ensures.exact, length-map T.ops (λ (o : Op). o.call))) in
    held_as (HoldsCalls c.args.table.now) c.holding.result c.holding.ensures (record { all = λ few. is_call_table T c.op_count-count.ensures.table.ops_fit c.loop-k.calls.items (rw all at (rw c.ops-ops.ensures at c.loop-k.invariant)); some = λ many. absurd (omega (arith, many, c.op_count-count.ensures.table.ops_fit)) })
