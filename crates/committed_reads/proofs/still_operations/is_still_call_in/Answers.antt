use Rattle.std.proofs.Common.{◌≡◌, ◌<◌, true, length, refl, sym, ap, subst, ◌∙◌, below_more, arith, get_or}
use Rattle.std.specs.Str.{bytes_eq}
use Rattle.std.proofs.lemmas.Bool.{false≢true}
use Rattle.type_table.specs.Table.{Table, call_of, is_same_call}
use Rattle.type_table.specs.declared.op.Op.{Op}
use Rattle.committed_reads.specs.Still.{is_still}
use Rattle.committed_reads.proofs.StillCalls.{same-below, name-at}
use Rattle.committed_reads.proofs.still_operations.is_still_call_in.Goals as goal
use Rattle.committed_reads.proofs.still_operations.is_still_call_in.Goals.{else-eq-via-then-eq+else-not-is_still, else-eq-via-else-eq}

pub loop-k-preserved : goal.loop-k-preserved
loop-k-preserved c =
    let T = c.args.table.now in
    let k = c.loop-k.k in
    let one = c.index-ops-from-in-loop-k.result in
    let first = c.index-ops-from.result in
    let inside : k < length T.ops = omega (arith, c.loop-k-test.true, c.op_count-k-end.ensures.exact) in
    let here : call_of T k ≡ one.call =
    name-at T k one inside (c.index-ops-from-in-loop-k.is ∙ ap (λ i. get_or c.ops-ops.result.now i one) c.from-in-loop-k.ensures ∙ ap (λ ops. get_or ops k one) c.ops-ops.ensures) in
    let there : call_of T c.args.c ≡ first.call =
    name-at T c.args.c first c.requires.operation
    (c.index-ops-from.is ∙ ap (λ i. get_or c.ops-ops.result.now i first) (c.from.ensures ∙ c.column.ensures) ∙ ap (λ ops. get_or ops c.args.c first) c.ops-ops.ensures) in
    let tells : is_same_call T k c.args.c ≡ bytes_eq one.call first.call = ap (λ name. bytes_eq name (call_of T c.args.c)) here ∙ ap (bytes_eq one.call) there in
    let i = c.from-in-loop-k.result in
    let j = c.from.result in
    let ops = c.ops-ops.result.now in
    let read : bytes_eq one.call first.call ≡ bytes_eq (get_or ops i one).call (get_or ops j first).call =
    ap (λ (o : Op). bytes_eq o.call first.call) c.index-ops-from-in-loop-k.is ∙ ap (λ (o : Op). bytes_eq (get_or ops i one).call o.call) c.index-ops-from.is in
    below_more _ _ c.loop-k.invariant
    (λ same.
    elim c.else-eq.branch [
      | else-eq-via-then-eq+else-not-is_still w ↦ ap (is_still c.args.checked.now) (sym w.listed.ensures) ∙ sym w.is_still.ensures ∙ w.if-not-is_still.false
      | else-eq-via-else-eq w ↦ absurd (false≢true (sym w.if-eq.false ∙ (c.eq.ensures ∙ (sym read ∙ sym tells ∙ subst (λ (t : Table). is_same_call t k c.args.c ≡ true) (sym c.requires.table) same))))
    ])

pub returns : goal.returns
returns c = (
  λ yes k same.
      let here = subst (λ (t : Table). is_same_call t k c.args.c ≡ true) (sym c.requires.table) same in
      let below = same-below c.args.table.now c.args.c k c.requires.first here in
      c.loop-k.invariant k (omega (arith, below, c.loop-k-test.false, c.op_count-k-end.ensures.exact)) same,
  λ all. refl,
)
