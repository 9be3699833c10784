use Rattle.std.proofs.Common.{◌≡◌, ◌<◌, length, get_or, sym, ◌∙◌, arith}
use Rattle.std.proofs.lemmas.List.{take_all}
use Rattle.type_text.specs.Rows.{lines_of_rows}
use Rattle.type_text.proofs.Steps.{steps_more}
use Rattle.type_text.proofs.Members.{at-place}
use Rattle.type_text.proofs.Rows.{row_line, row_count}
use Rattle.type_text.proofs.build.put_steps.Goals as goal

pub loop-row-init : goal.loop-row-init
loop-row-init c = λ s k t below. (
  λ e. absurd (let clash = sym (c.requires.empty _) ∙ e in cc),
  λ h. absurd (omega (arith, h.1)),
)

pub put_step-requires : goal.put_step-requires
put_step-requires c = λ s k t e.
    let rows = c.args.rows.now in
    let i = c.loop-row.row-index in
    let x = c.line_of_row.result in
    let below : i < length (lines_of_rows rows) = omega (arith, row_count rows, c.loop-row-test.true) in
    let here : x ≡ get_or (lines_of_rows rows) i x = row_line rows i _ x c.loop-row-test.true c.line_of_row.ensures in
    let inside = c.requires.inside s k t (rw e at (at-place (lines_of_rows rows) i x below here)) in
    (inside.0, inside.2, c.requires.fit, omega (arith, inside.3, c.loop-row.auto.steps))

pub loop-row-preserved : goal.loop-row-preserved
loop-row-preserved c =
    let rows = c.args.rows.now in
    let i = c.loop-row.row-index in
    let x = c.line_of_row.result in
    let below : i < length (lines_of_rows rows) = omega (arith, row_count rows, c.loop-row-test.true) in
    let here : x ≡ get_or (lines_of_rows rows) i x = row_line rows i _ x c.loop-row-test.true c.line_of_row.ensures in
    steps_more c.args.ops i (lines_of_rows rows) x c.loop-row.steps c.put_step.new.steps below here
    (λ s k t h. let inside = c.requires.inside s k t h in (inside.1, omega (arith, inside.3, c.loop-row.auto.steps)))
    c.requires.once c.put_step.ensures.step c.put_step.ensures.other c.loop-row.invariant

pub returns : goal.returns
returns c =
    let rows = c.args.rows.now in
    let whole = take_all c.loop-row.row-index (lines_of_rows rows) (omega (arith, row_count rows, c.loop-row-test.false)) in
    rw whole at c.loop-row.invariant
