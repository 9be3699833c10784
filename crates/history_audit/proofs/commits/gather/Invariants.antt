-- The events so far were judged, and these are the transactions that they commit.
use Rattle.std.proofs.Common.{map, take}
use Rattle.declared_types.specs.Declarations.{table_of}
use Rattle.history_audit.specs.Commits.{AreCommits}
use Rattle.history_judge.specs.Judged.{IsJudged}
use Rattle.history_audit.proofs.commits.gather.Given as goal

abbrev pub invariant-loop-at : goal.invariant-loop-at
invariant-loop-at l = record {
  judged : IsJudged (map (λ t. table_of t.now) l.types) (take l.at l.events) l.judge;
  gathered : AreCommits (map (λ t. table_of t.now) l.types) (take l.at l.events) l.commits.items;
}
