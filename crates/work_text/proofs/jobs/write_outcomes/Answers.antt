use Rattle.std.proofs.Common.{◌++◌, ◌∷◌, [], List, ℕ, Err, refl}
use Rattle.std.specs.List.{enumerate_from}
use Rattle.outputs.proofs.Turns.{Puts-append, Puts-exit_at}
use Rattle.line_text.specs.Spelling.{spaced}
use Rattle.history_audit.proofs.PlacedTexts.{is_placed, text-at, texts-more, texts-all}
use Rattle.worker_turns.specs.declared.outcome.Outcome.{Outcome}
use Rattle.worker_turns.specs.declared.outcome.Outcome.TheVariants.{Committed}
use Rattle.work_text.specs.Lines.{job_words}
use Rattle.work_text.proofs.jobs.write_outcomes.Goals as goal

-- the line of a job of worker w
abbrev line : ℕ → ℕ × Outcome → List ℕ
line w p = spaced (job_words w p) ++ 10 ∷ []

pub returns-in_err-write_job : goal.returns-in_err-write_job
returns-in_err-write_job g c =
    let outcomes = c.args.outcomes.now in
    let inside = c.loop-i-test.true in
    let stop = text-at (line c.args.w) outcomes c.loop-i.i (Committed 0) inside _ refl {result = Err c.in_err-write_job.field-0.0} c.in_err-write_job.ensures in
    Puts-exit_at c.items_in_turn.ensures (line c.args.w) (enumerate_from 0 outcomes) c.loop-i.i (0, Committed 0) (is_placed (line c.args.w) outcomes c.loop-i.i (Committed 0) inside)
    c.loop-i.invariant stop c.from_residual.ensures.1

pub loop-i-preserved : goal.loop-i-preserved
loop-i-preserved g c =
    rw (texts-more (line c.args.w) c.args.outcomes.now c.loop-i.i (Committed 0) c.loop-i-test.true _ refl)
    (Puts-append c.texts_in_turn.ensures.joined c.loop-i.invariant c.in_ok-write_job.ensures)

pub returns : goal.returns
returns g c = rw (texts-all c.args.outcomes.now c.loop-i.i c.loop-i-test.false) at c.loop-i.invariant
