use Rattle.std.proofs.Common.{◌≡◌, ◌<◌, length, get_or, ◌∙◌, arith}
use Rattle.std.proofs.lemmas.List.{take_all}
use Rattle.type_text.specs.Rows.{lines_of_rows}
use Rattle.type_text.proofs.Pairs.{pairs_more}
use Rattle.type_text.proofs.Members.{at-place}
use Rattle.type_text.proofs.Rows.{row_line, row_count}
use Rattle.type_text.proofs.build.relation_of.Goals as goal

pub add_equi-requires : goal.add_equi-requires
add_equi-requires c = λ s t e.
    let rows = c.args.rows.now in
    let i = c.loop-row.row-index in
    let x = c.line_of_row.result in
    let below : i < length (lines_of_rows rows) = omega (arith, row_count rows, c.loop-row-test.true) in
    let here : x ≡ get_or (lines_of_rows rows) i x = row_line rows i _ x c.loop-row-test.true c.line_of_row.ensures in
    let inside = c.requires.inside s t (rw e at (at-place (lines_of_rows rows) i x below here)) in
    (omega (arith, inside.0, c.loop-row.invariant.0), omega (arith, inside.1, c.loop-row.invariant.0), omega (arith, inside.0, c.requires.fit), omega (arith, inside.1, c.requires.fit))

pub loop-row-preserved : goal.loop-row-preserved
loop-row-preserved c =
    let rows = c.args.rows.now in
    let i = c.loop-row.row-index in
    let x = c.line_of_row.result in
    let below : i < length (lines_of_rows rows) = omega (arith, row_count rows, c.loop-row-test.true) in
    let here : x ≡ get_or (lines_of_rows rows) i x = row_line rows i _ x c.loop-row-test.true c.line_of_row.ensures in (
      c.add_equi.ensures.fits ∙ c.loop-row.invariant.0,
      pairs_more c.args.states (lines_of_rows rows) i x c.loop-row.relation c.add_equi.new.relation below here c.loop-row.invariant.1 c.add_equi.ensures.pairs,
    )

pub returns-clause-exact : goal.returns-clause-exact
returns-clause-exact c =
    let rows = c.args.rows.now in
    let whole = take_all c.loop-row.row-index (lines_of_rows rows) (omega (arith, row_count rows, c.loop-row-test.false)) in
    rw whole at c.loop-row.invariant.1
