use Rattle.std.proofs.Common.{List, map, subst}
use Rattle.declared_types.specs.Declarations.{table_of}
use Rattle.history_judge.specs.Judged.{IsHanded}
use Rattle.history_judge.specs.SerialRun.{ReplaysFrom}
use Rattle.history_judge.specs.declared.executed.Executed.{Executed}
use Rattle.history_audit.proofs.Audited.{other-run, commit-run}
use Rattle.history_audit.proofs.auditor.Auditor.take.Goals as goal

pub returns-in-Ok-None : goal.returns-in-Ok-None
returns-in-Ok-None c =
    let tables = map (λ t. table_of t.now) c.args.types.now in
    let said = c.in-Ok-None.ensures.taken in
    record {
      judged = said.0;
      serial = other-run c.summary_after.ensures c.own_after.ensures tables c.args.events.now c.args.at c.args.self.now.serial c.requires.so_far.serial
          (subst (IsHanded tables c.args.events.now c.args.at) c.in-Ok-None.field-0-is said.1);
    }

pub returns-in-Ok : goal.returns-in-Ok
returns-in-Ok c =
    let tables = map (λ t. table_of t.now) c.args.types.now in
    let said = c.in-Ok-Some.ensures.taken in
    let old = c.args.self.now.serial in
    let new = c.take-taken.new.self in
    record {
      judged = rw c.take_back.ensures said.0;
      serial = commit-run c.summary_after.ensures c.own_after.ensures tables c.args.events.now c.args.at c.runs_along.ensures c.in-Ok-Some.committed old new c.requires.so_far.serial
          (subst (IsHanded tables c.args.events.now c.args.at) c.in-Ok-Some.field-0-is said.1) c.in-Ok.ensures.states
          (subst (λ (its : List Executed). ReplaysFrom old.illegal tables c.in-Ok-Some.committed.number its old new) c.as_slice.ensures c.in-Ok.ensures.runs);
    }
