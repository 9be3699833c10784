use Rattle.std.proofs.Common.{◌++◌, ◌∷◌, [], subst}
use Rattle.std.specs.List.{flat_map}
use Rattle.outputs.specs.Out.{Puts}
use Rattle.outputs.proofs.Turns.{Puts-append}
use Rattle.serving.specs.AnswerText.{number_after_space}
use Rattle.serving.proofs.held_text.put_one.Goals as goal

pub returns : goal.returns
returns g c =
    let numbers = subst (λ xs. Puts (g.W.Out.taken c.put_prepared.new.out) (g.W.Out.taken c.put_numbers.new.out) (g.W.Out.fault c.put_numbers.new.out) (flat_map number_after_space xs ++ (10 ∷ [])) c.put_numbers.result) c.deref.ensures.value c.put_numbers.ensures in
    Puts-append c.texts_in_turn.ensures.joined c.in_ok-put_prepared.ensures numbers
