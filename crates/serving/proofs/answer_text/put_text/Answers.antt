use Rattle.std.proofs.Common.{◌≡◌, ◌∙◌, ◌++◌, ◌∷◌, [], ℕ, List, Ok, take, subst, sym}
use Rattle.std.specs.Prelude.{◌==◌}
use Rattle.std.specs.List.{slice_split}
use Rattle.outputs.specs.Out.{Puts}
use Rattle.outputs.proofs.Turns.{Puts-append}
use Rattle.serving.proofs.Listed.{lines-end, lines-next, lines-stop, text-next}
use Rattle.serving.proofs.answer_text.put_text.Goals as goal

pub returns-in_err-put_behind : goal.returns-in_err-put_behind
returns-in_err-put_behind g c =
    let (done, so_far, put) = c.loop-at.invariant in
    lines-stop c.texts_in_turn.ensures.joined c.texts_in_turn.ensures.stopped c.args.tag.now c.args.text.now c.loop-at.rest.now done c.in-Some.at (sym c.line_end.ensures.place ∙ c.in-Some.is) so_far put
    c.in_err-put_behind.ensures c.from_residual.ensures.1

pub returns : goal.returns
returns g c =
    let (done, so_far, put) = c.loop-at.invariant in
    lines-end c.texts_in_turn.ensures.joined c.args.tag.now c.args.text.now c.loop-at.rest.now done (sym c.line_end.ensures.place ∙ c.in_default.is) so_far put c.put_behind-2.ensures

pub loop-at-preserved : goal.loop-at-preserved
loop-at-preserved g c =
    let (done, so_far, put) = c.loop-at.invariant in
    let found = sym c.line_end.ensures.place ∙ c.in-Some.is in (
      done ++ take c.in-Some.at c.loop-at.rest.now ∷ [],
      subst (λ (rest : List ℕ). slice_split (λ b. b == 10) c.args.text.now ≡ (done ++ take c.in-Some.at c.loop-at.rest.now ∷ []) ++ slice_split (λ b. b == 10) rest) (sym c.text_after-rest.ensures)
          (lines-next c.args.text.now c.loop-at.rest.now done c.in-Some.at found so_far),
      subst (λ (t : List ℕ). Puts (g.W.Out.taken c.args.out.now) (g.W.Out.taken c.put_behind.new.out) (g.W.Out.fault c.put_behind.new.out) t (Ok tt)) (sym (text-next c.args.tag.now (take c.in-Some.at c.loop-at.rest.now) done))
          (Puts-append c.texts_in_turn.ensures.joined put c.in_ok-put_behind.ensures),
    )
