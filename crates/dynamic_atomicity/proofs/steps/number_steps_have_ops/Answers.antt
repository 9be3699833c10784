use Rattle.std.proofs.Common.{◌≡◌, ℕ, Option, Some, None, IsSome, is_some, true, refl, sym, ap, ◌∙◌, subst}
use Rattle.std.proofs.lemmas.Bool.{false≢true}
use Rattle.type_table.specs.Table.{has_op}
use Rattle.number_types.specs.Number.{Number, IsNumber}
use Rattle.number_types.specs.Operations.{NumberHasTable, number_table, op_done}
use Rattle.number_types.specs.declared.number_op.NumberOp.{NumberOp}
use Rattle.number_types.proofs.Tables.{done_is, has_what_is_there, next_of_none}
use Rattle.dynamic_atomicity.specs.Converse.{StepsHaveOps}
use Rattle.dynamic_atomicity.proofs.steps.number_steps_have_ops.Goals as goal

-- what is legal is an operation that is done
number_steps : NumberHasTable → (v : Number) → IsNumber v → StepsHaveOps (number_table v)
number_steps tables v known s k legal = by (op_done v k) refl
  where
    by : (done : Option NumberOp) → op_done v k ≡ done → has_op (number_table v) k ≡ true
    by None is = absurd (false≢true (subst (λ (o : Option ℕ). IsSome o) (next_of_none tables v s k known is) legal))
    by (Some op) is = sym (has_what_is_there v k known) ∙ ap is_some (done_is v k op is)

pub returns : goal.returns
returns c = number_steps c.number_has_table.ensures c.args.number.now c.calls-calls.ensures.number
