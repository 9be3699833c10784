use Rattle.std.proofs.Common.{map}
use Rattle.history_judge.proofs.Judged.{commit_passed, commit_failed}
use Rattle.history_judge.proofs.judge.Judge.judge.Goals as goal
use Rattle.declared_types.specs.Declarations.{table_of}
use Rattle.history_judge.proofs.judge.Judge.judge.Goals.{in-Ok, in-Err}

pub returns-after-commit-clause-judged : goal.returns-after-commit-clause-judged
returns-after-commit-clause-judged c =
    let tables = map (λ t. table_of t.now) c.args.types.now in
    elim c.match-commit.branch [
      | in-Ok w ↦
          commit_passed tables c.args.self.now c.commit.new.self c.args.event c.in-Commit.t c.in-Commit.is c.commit.result (c.commit.ensures.judged tables)
          _ c.match-commit.result w.in-Ok.is w.result-is
      | in-Err w ↦
          commit_failed tables c.args.self.now c.commit.new.self c.args.event c.in-Commit.t c.in-Commit.is c.commit.result (c.commit.ensures.judged tables)
          _ c.match-commit.result w.in-Err.is w.result-is
    ]
