use Rattle.std.proofs.Common.{Some, Ok, None, set, sym, ap, subst, List, ◌∙◌}
use Rattle.object_trait.specs.declared.event.EventKind.TheVariants.{Commit}
use Rattle.history_judge.specs.declared.executed.Executed.{Executed}
use Rattle.history_judge.specs.Judges.{Judges}
use Rattle.history_judge.proofs.Judged.{there, commit_taken}
use Rattle.history_judge.proofs.judge.Judge.commit.Goals as goal

pub returns-clause-judged : goal.returns-clause-judged
returns-clause-judged c =
    λ tables.
    let P : List Executed → Type 0 = λ its. Judges tables c.args.self.now (Commit c.args.t) (Ok (Some its)) c.end.new.self in
    subst P (sym c.end.ensures.operations)
    (commit_taken c.moved_rows_agree.ensures tables c.args.self.now c.end.new.self c.args.t _
    (there c.self.inside.rows c.args.self.now c.args.t c.self.view_is (sym c.if-not-is_open.ensures)) (c.end.ensures.rows ∙ ap (λ rows. set rows c.args.t None) c.self.view_is))
