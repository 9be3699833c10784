use Rattle.std.proofs.Common.{sym, subst, ◌∙◌}
use Rattle.std.proofs.lemmas.Bool.{false≢true}
use Rattle.std.proofs.lemmas.Option.{none-some}
use Rattle.number_types.specs.declared.number_call.NumberCall.{NumberCall}
use Rattle.number_types.specs.Named.{IsFirstFor}
use Rattle.number_types.proofs.FirstNumbers.{first_of_op, first_of_none}
use Rattle.number_types.proofs.number_file.NumberFile.is_first.Goals as goal

pub returns-in-Some : goal.returns-in-Some
returns-in-Some c =
    let v = c.args.self.now in
    let told = c.is_first_for.ensures in
    let first : IsFirstFor v _ told.0 = subst (λ (call : NumberCall). IsFirstFor v call told.0) c.call.ensures told.1 in
    let is = first_of_op v c.calls-calls.ensures.number c.args.c c.in-Some.op told.0 (sym c.op_at.ensures ∙ c.in-Some.is) first in
    (λ yes. is ∙ told.2.0 yes, λ yes. told.2.1 (sym is ∙ yes))

pub returns-in-None : goal.returns-in-None
returns-in-None c =
    let none = first_of_none c.args.self.now c.calls-calls.ensures.number c.args.c (sym c.op_at.ensures ∙ c.in-None.is) in
    (λ yes. absurd (false≢true yes), λ yes. absurd (none-some c.args.c (sym none ∙ yes)))
