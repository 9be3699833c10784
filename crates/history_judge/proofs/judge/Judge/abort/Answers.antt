use Rattle.std.proofs.Common.{None, set, ap, ◌∙◌, sym}
use Rattle.history_judge.proofs.Judged.{there, abort_taken}
use Rattle.history_judge.proofs.judge.Judge.abort.Goals as goal

pub returns-clause-judged : goal.returns-clause-judged
returns-clause-judged c =
    λ tables. abort_taken c.moved_rows_agree.ensures tables c.args.self.now c.close.new.self c.args.t _
    (there c.self.inside.rows c.args.self.now c.args.t c.self.view_is (sym c.if-not-is_open.ensures)) (c.close.ensures ∙ ap (λ rows. set rows c.args.t None) c.self.view_is)
