use Rattle.std.proofs.Common.{◌≡◌, ℕ, ◌<◌, ◌==◌, false, List, length, arith, sym, subst, ◌∙◌}
use Rattle.std.proofs.lemmas.Bool.{eqb-false}
use Rattle.number_types.specs.Operations.{row_name}
use Rattle.number_types.specs.Named.{IsNamed, MayBeAsked}
use Rattle.number_types.proofs.FirstOps.{no_call, of_call}
use Rattle.number_types.proofs.number_file.NumberFile.first_op.Goals as goal

-- a name that isn't empty has a byte
some : (name : List ℕ) → (length name == 0) ≡ false → 0 < length name
some name h = omega (arith, eqb-false (length name) 0 h)

pub returns-in_err-call : goal.returns-in_err-call
returns-in_err-call c =
    c.from_residual.ensures
    ∙ sym (no_call c.args.self.now c.calls-calls.ensures.number c.args.name.now (some c.args.name.now (sym c.if-is_empty.ensures)) c.call_named.result c.call_named.ensures c.in_err-call.was)

pub returns : goal.returns
returns c =
    of_call c.args.self.now c.calls-calls.ensures.number c.args.name.now (some c.args.name.now (sym c.if-is_empty.ensures)) c.in_ok-call.call c.first_for.result
    (subst (λ call. IsNamed MayBeAsked row_name c.args.name.now call) c.in_ok-call.was c.call_named.ensures) c.first_for.ensures
