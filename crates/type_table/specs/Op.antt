-- Operations: a call together with its reply.
use Rattle.std.specs.Prelude.{Bool, false, ◌&&◌, ◌||◌, List, [], ◌∷◌}
use Rattle.std.specs.List.{list_any}
use Rattle.std.specs.Str.{bytes_eq}
use Rattle.type_table.specs.declared.op.Op.{Op}

abbrev pub is_same_op : Op → Op → Bool
is_same_op a b = bytes_eq a.call b.call && bytes_eq a.reply b.reply

-- two operations have the same call and the same reply
abbrev pub has_twin : List Op → Bool
has_twin [] = false
has_twin (o ∷ ops) = list_any (λ other. is_same_op other o) ops || has_twin ops
