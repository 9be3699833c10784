use Rattle.std.proofs.Common.{◌+◌, ◌≤◌, refl, sym, subst, ap, ◌∙◌, arith}
use Rattle.escrow_laws.specs.Bounds.{moved}
use Rattle.number_types.specs.Operations.{bounds_or_none, op_done}
use Rattle.number_types.proofs.Tables.{any_within, next_is, moved_inside}
use Rattle.number_types.proofs.number_file.NumberFile.next.Goals as goal

pub moved-requires-clause-enough : goal.moved-requires-clause-enough
moved-requires-clause-enough c =
    let v = c.args.self.now in
    subst (λ b. b.takes ≤ b.low) (sym c.done.ensures) (any_within v c.args.k c.calls-calls.ensures.number (op_done v c.args.k) refl).enough

pub moved-requires-clause-room : goal.moved-requires-clause-room
moved-requires-clause-room c =
    let v = c.args.self.now in
    let room = (any_within v c.args.k c.calls-calls.ensures.number (op_done v c.args.k) refl).room in
    let max = c.calls-calls.ensures.number.max_fits in
    subst (λ b. b.high + b.gives ≤ 4294967295 + b.takes) (sym c.done.ensures) (omega (arith, room, max))

pub returns-clause-exact : goal.returns-clause-exact
returns-clause-exact c =
    c.moved.ensures ∙ ap (λ b. moved b c.args.number) c.done.ensures ∙ sym (next_is c.number_has_table.ensures c.args.self.now c.args.number c.args.k c.calls-calls.ensures.number)

pub returns-clause-inside : goal.returns-clause-inside
returns-clause-inside c =
    let v = c.args.self.now in
    moved_inside v.max (bounds_or_none v.max (op_done v c.args.k)) c.args.number (any_within v c.args.k c.calls-calls.ensures.number (op_done v c.args.k) refl) c.moved.result
    (c.moved.ensures ∙ ap (λ b. moved b c.args.number) c.done.ensures)
