use Rattle.std.proofs.Common.{rules, Some, [], ◌∷◌, ◌++◌, set, refl, ap, ◌∙◌, sym}
use Rattle.open_transactions.specs.Transactions.{row}
use Rattle.history_judge.specs.Slots.{its_of}
use Rattle.history_judge.proofs.Judged.{there, op_taken}
use Rattle.history_judge.proofs.judge.Judge.op.Goals as goal
use Rattle.history_judge.proofs.judge.Judge.op.Goals.{in-Ok, in-Err}

pub returns-clause-judged : goal.returns-clause-judged
returns-clause-judged c =
    elim c.match-add.branch [
      | in-Ok w ↦
          rw (w.result-is)
          (op_taken c.moved_rows_agree.ensures _ c.args.self.now c.add.new.self c.args.t _
          (there c.self.inside.rows c.args.self.now c.args.t c.self.view_is (sym c.if-not-is_open.ensures))
          c.args.x c.args.k (search rules)
          (w.in-Ok.ensures.ok ∙ ap (λ rows. set rows c.args.t (Some (its_of (row c.self.inside.rows c.args.t) ++ (record { x = c.args.x; k = c.args.k }) ∷ []))) c.self.view_is))
      | in-Err w ↦ rw (w.result-is) refl
    ]
