use Rattle.std.proofs.Common.{sym, ◌∙◌}
use Rattle.std.proofs.lemmas.Bool.{true≢false}
use Rattle.pair_needs.proofs.Needing.{found-fails, none-fails_in_file}
use Rattle.pair_needs.proofs.need.need_of.Goals as goal

pub returns-then-in_run : goal.returns-then-in_run
returns-then-in_run c = c.requires.run.0 c.if-in_run.true

pub returns-then-is_some : goal.returns-then-is_some
returns-then-is_some c = (
  (λ fails. true≢false (sym (c.requires.run.1 fails) ∙ c.if-in_run.false)),
  found-fails c.args.pair.kind c.args.file.now c.args.pair.p c.args.pair.q c.first_failing_state.result (rw c.condition_of.ensures at c.first_failing_state.ensures) (sym c.is_some.ensures ∙ c.if-is_some.true),
)

pub returns-then-fails_strongly_in_run : goal.returns-then-fails_strongly_in_run
returns-then-fails_strongly_in_run c = (
  (λ fails. true≢false (sym (c.requires.run.1 fails) ∙ c.if-in_run.false)),
  none-fails_in_file c.args.pair.kind c.args.file.now c.args.pair.p c.args.pair.q c.first_failing_state.result (rw c.condition_of.ensures at c.first_failing_state.ensures) (sym c.is_some.ensures ∙ c.if-is_some.false),
  c.fails_strongly_in_run.ensures.0 c.if-fails_strongly_in_run.true,
)

pub returns-else-fails_strongly_in_run : goal.returns-else-fails_strongly_in_run
returns-else-fails_strongly_in_run c = (
  (λ fails. true≢false (sym (c.requires.run.1 fails) ∙ c.if-in_run.false)),
  none-fails_in_file c.args.pair.kind c.args.file.now c.args.pair.p c.args.pair.q c.first_failing_state.result (rw c.condition_of.ensures at c.first_failing_state.ensures) (sym c.is_some.ensures ∙ c.if-is_some.false),
  (λ fails. true≢false (sym (c.fails_strongly_in_run.ensures.1 fails) ∙ c.if-fails_strongly_in_run.false)),
)
