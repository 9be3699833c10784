use Rattle.std.proofs.Common.{◌≡◌, ℕ, ◌<◌, List, [], length, get_or, slice_get, nat_lt, Some, IsSome, ap, subst, ◌∙◌, inl, inr, arith}
use Rattle.std.proofs.lemmas.Bool.{cases_Bool, cases_lt, false≢true, ltb-true}
use Rattle.std.proofs.lemmas.Option.{slice_get-get_or, slice_get_within, get_or_from_slice_get}
use Rattle.type_table.specs.Table.{Table, next}
use Rattle.type_table.specs.declared.op.Op.{Op}
use Rattle.declared_types.proofs.TableOps.{op_found, name_length}
use Rattle.dynamic_atomicity.specs.Converse.{StepsHaveOps}
use Rattle.dynamic_atomicity.proofs.steps.table_steps_have_ops.Goals as goal

pub loop-op-preserved : goal.loop-op-preserved
loop-op-preserved c j op below at =
    let ops : List Op = c.ops-ops.result.now in
    let i = c.loop-op.op-index in
    let item : Op = c.op-item.result in
    elim (cases_lt j i) [
      | inl before ↦ c.loop-op.invariant j op before at
      | inr here ↦
          let same : i ≡ j = omega arith in
          let is : item ≡ op = c.op-item.is ∙ ap (λ n. get_or ops n item) same ∙ get_or_from_slice_get ops j op item at in
          subst (λ (o : Op). 0 < length o.call) is (name_length item.call c.as_bytes-call.ensures.name)
    ]

-- a legal operation is one of the table
inside : (T : Table) (s k : ℕ) → IsSome (next T s k) → k < length T.ops
unfolding next
inside T s k legal = elim (cases_Bool (nat_lt k (length T.ops))) [
  | inl below ↦ ltb-true k (length T.ops) below
  | inr past ↦ absurd (false≢true (simp past at legal))
]

named_steps : (T : Table) → ((j : ℕ) (op : Op) → slice_get T.ops j ≡ Some op → 0 < length op.call) → StepsHaveOps T
named_steps T names s k legal =
    let none : Op = record { call = []; reply = [] } in
    let at : slice_get T.ops k ≡ Some (get_or T.ops k none) = slice_get-get_or T.ops k none (inside T s k legal) in
    op_found T k (get_or T.ops k none) at (names k (get_or T.ops k none) at)

pub returns : goal.returns
returns c =
    let ops : List Op = c.ops-ops.result.now in
    named_steps c.args.table.now (λ j op at.
    let here : slice_get ops j ≡ Some op = rw c.ops-ops.ensures at in
    let inside = slice_get_within ops j op here in
    c.loop-op.invariant j op (omega (arith, inside, c.loop-op-test.false)) here)
