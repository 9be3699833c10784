-- Whether an operation is in a list twice.
use Rattle.std.proofs.Common.{◌≡◌, ℕ, ◌+◌, ◌<◌, ◌||◌, List, length, get_or, drop, sym, ap, ◌∙◌}
use Rattle.std.specs.List.{list_any}
use Rattle.std.proofs.lemmas.List.{at_drop_more}
use Rattle.type_table.specs.Op.{is_same_op, has_twin}
use Rattle.type_table.specs.declared.op.Op.{Op}

pub has_twin-drop : (ops : List Op) (i : ℕ) (o : Op) → i < length ops → o ≡ get_or ops i o → has_twin (drop i ops) ≡ (list_any (λ other. is_same_op other o) (drop (i + 1) ops) || has_twin (drop (i + 1) ops))
has_twin-drop ops i o below e = at_drop_more has_twin ops i o below ∙ ap (λ x. list_any (λ other. is_same_op other x) (drop (i + 1) ops) || has_twin (drop (i + 1) ops)) (sym e)
