use Rattle.std.proofs.Common.{◌∙◌, ◌++◌, ◌∷◌, ◌≡◌, [], true, false, arith, sym}
use Rattle.std.specs.List.{slice_index_or}
use Rattle.key_commands.proofs.Objects.{marked_there, row_changed}
use Rattle.key_commands.proofs.held_transactions.add_object.Goals as goal

pub returns-in_ok-push-clause-objects : goal.returns-in_ok-push-clause-objects
returns-in_ok-push-clause-objects c =
    let marked : slice_index_or c.args.marks.now c.args.t false ≡ true = sym c.is_marked.ensures ∙ c.if-is_marked.true in
    row_changed c.args.marks.now c.args.rows.now.items c.args.t c.index_mut.result.now c.push.new.self (λ xs. xs ++ c.args.x ∷ []) (omega (arith, c.requires, marked_there c.args.marks.now c.args.t marked)) marked
    c.index_mut.ensures.value c.in_ok-push.ensures.items
