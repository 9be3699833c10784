use Rattle.std.proofs.Common.{All, [], ◌∷◌, ap, sym, subst, ◌∙◌, arith}
use Rattle.std.proofs.lemmas.List.Elements.{All-append, All-cons}
use Rattle.type_table.specs.Table.{first_op}
use Rattle.number_types.specs.Operations.{number_table}
use Rattle.object_calls.specs.Calls.{IsNamedCall}
use Rattle.object_calls.specs.declared.call.NamedCall.{NamedCall}
use Rattle.object_calls.proofs.call_table.add_named.Goals as goal

pub returns-in_ok-push : goal.returns-in_ok-push
returns-in_ok-push c =
    let T = number_table c.args.number.now in
    let n : NamedCall = record { name = c.args.name; call = c.in-Some.call } in
    let one : IsNamedCall T n = record { named = ap (first_op T) (sym c.as_bytes.ensures.exact) ∙ sym c.in-Some.ensures.named; call = c.in-Some.ensures.call } in
    subst (All (IsNamedCall T)) (sym c.in_ok-push.ensures.items)
    (All-append (IsNamedCall T) c.args.calls.now.items (n ∷ []) c.requires (All-cons (IsNamedCall T) n [] one (λ k d lt. absurd (omega (arith, lt)))))
