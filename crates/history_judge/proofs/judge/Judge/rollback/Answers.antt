use Rattle.std.proofs.Common.{◌-◌, Some, take, set, ap, ◌∙◌, arith, sym}
use Rattle.open_transactions.specs.Transactions.{row}
use Rattle.history_judge.specs.Slots.{its_of}
use Rattle.history_judge.proofs.Judged.{there, rollback_taken}
use Rattle.history_judge.proofs.judge.Judge.rollback.Goals as goal

pub returns-clause-judged : goal.returns-clause-judged
returns-clause-judged c =
    λ tables. rollback_taken c.moved_rows_agree.ensures tables c.args.self.now c.keep.new.self c.args.t _
    (there c.self.inside.rows c.args.self.now c.args.t c.self.view_is (sym c.if-not-is_open.ensures))
    c.args.n
    (omega (arith, c.if-n-eq0.false))
    (let count = c.count-count.ensures in let below = c.if-n-count.false in omega (arith, count, below))
    (c.keep.ensures ∙ ap (λ rows. set rows c.args.t (Some (take (c.count-count.result - c.args.n) (its_of (row c.self.inside.rows c.args.t))))) c.self.view_is
    ∙ ap (λ n. set c.args.self.now c.args.t (Some (take (n - c.args.n) (its_of (row c.self.inside.rows c.args.t))))) c.count-count.ensures)
