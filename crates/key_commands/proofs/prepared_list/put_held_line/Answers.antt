use Rattle.std.proofs.Common.{◌++◌, ◌∷◌, [], subst}
use Rattle.std.specs.List.{flat_map}
use Rattle.outputs.specs.Out.{Puts}
use Rattle.outputs.proofs.Turns.{Puts-append}
use Rattle.key_commands.specs.Prepared.{number_after_space}
use Rattle.key_commands.proofs.prepared_list.put_held_line.Goals as goal

pub returns : goal.returns
returns g c =
    let objects = subst (λ xs. Puts (g.W.Out.taken c.put_prepared.new.out) (g.W.Out.taken c.put_objects.new.out) (g.W.Out.fault c.put_objects.new.out) (flat_map number_after_space xs ++ (10 ∷ [])) c.put_objects.result) c.deref.ensures.value c.put_objects.ensures in
    Puts-append c.texts_in_turn.ensures.joined c.in_ok-put_prepared.ensures objects
