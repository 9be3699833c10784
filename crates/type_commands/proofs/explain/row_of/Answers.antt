use Rattle.type_commands.proofs.RowOps.{rows_below}
use Rattle.type_commands.proofs.explain.row_of.Goals as goal

pub returns-in-Some-clause-inside : goal.returns-in-Some-clause-inside
returns-in-Some-clause-inside c = rows_below c.args.declared.now c.rows-rows.result.now c.below.result c.rows-rows.ensures.exact c.rows-rows.ensures.few c.below.ensures.inside

pub returns-in-None-clause-inside : goal.returns-in-None-clause-inside
returns-in-None-clause-inside c = rows_below c.args.declared.now c.rows-rows.result.now c.worded.result c.rows-rows.ensures.exact c.rows-rows.ensures.few c.worded.ensures.inside
