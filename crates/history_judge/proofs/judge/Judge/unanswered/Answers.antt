use Rattle.std.proofs.Common.{rules, refl, sym}
use Rattle.history_judge.proofs.Judged.{there, busy_taken, none_taken}
use Rattle.history_judge.proofs.judge.Judge.unanswered.Goals as goal

pub returns-clause-busy : goal.returns-clause-busy
returns-clause-busy c =
    λ u. busy_taken c.moved_rows_agree.ensures _ c.args.self.now c.args.self.now c.args.t _
    (there c.self.inside.rows c.args.self.now c.args.t c.self.view_is (sym c.if-not-is_open.ensures)) c.args.place c.args.x u (search rules) refl

pub returns-clause-none : goal.returns-clause-none
returns-clause-none c =
    none_taken c.moved_rows_agree.ensures _ c.args.self.now c.args.self.now c.args.t _
    (there c.self.inside.rows c.args.self.now c.args.t c.self.view_is (sym c.if-not-is_open.ensures)) c.args.x c.args.place (search rules) refl
