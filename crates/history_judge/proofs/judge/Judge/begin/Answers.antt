use Rattle.std.proofs.Common.{Some, [], ◌∷◌, ◌++◌, length, refl, ap, ◌∙◌, arith}
use Rattle.history_judge.proofs.Judged.{begin_taken}
use Rattle.history_judge.proofs.judge.Judge.begin.Goals as goal
use Rattle.history_judge.proofs.judge.Judge.begin.Goals.{in-Ok, in-Err}

pub returns-clause-judged : goal.returns-clause-judged
returns-clause-judged c =
    λ tables. elim c.match-begin.branch [
      | in-Ok w ↦
          rw (w.result-is)
          (begin_taken c.moved_rows_agree.ensures tables c.args.self.now c.begin.new.self c.args.t
          (omega (arith, c.if-t-begun.false, c.begun.ensures, ap length c.self.view_is))
          (w.in-Ok.ensures.ok ∙ ap (λ rows. rows ++ Some [] ∷ []) c.self.view_is))
      | in-Err w ↦ rw (w.result-is) refl
    ]
