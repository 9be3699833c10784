use Rattle.std.proofs.Common.{◌≡◌, ◌++◌, length, ap, sym, ◌∙◌, arith}
use Rattle.type_table.specs.Table.{Table}
use Rattle.type_text.specs.TypeLines.{states_in, states_of, ops_of}
use Rattle.type_text.specs.Rows.{lines_of_rows}
use Rattle.type_text.specs.Kept.{kept_lines}
use Rattle.type_text.specs.declared.type_line.TypeLine.TheVariants.{TypeName, States, Initial, Step}
use Rattle.type_text.proofs.Rows.{AreTypeLines-head, head_ops, head_states, at_head, rows_among}
use Rattle.type_text.proofs.RowFiles.{AreStepsOf-whole}
use Rattle.type_text.proofs.Tables.{AreParts, parts-fault, parts-table}
use Rattle.type_text.proofs.build.table_of.Goals as goal

pub ops_of-requires : goal.ops_of-requires
ops_of-requires c = rw c.as_slice-head.ensures.value (AreTypeLines-head c.args.lines.now.head.items c.args.lines.now.rows.items c.requires)

pub states_of-states-requires : goal.states_of-states-requires
states_of-states-requires c = rw c.as_slice-head.ensures.value (AreTypeLines-head c.args.lines.now.head.items c.args.lines.now.rows.items c.requires)

pub name_of-requires : goal.name_of-requires
name_of-requires c = rw c.as_slice-head.ensures.value (AreTypeLines-head c.args.lines.now.head.items c.args.lines.now.rows.items c.requires)

pub initial_of-requires : goal.initial_of-requires
initial_of-requires c = rw c.as_slice-head.ensures.value (AreTypeLines-head c.args.lines.now.head.items c.args.lines.now.rows.items c.requires)

pub steps_of-requires-clause-inside : goal.steps_of-requires-clause-inside
steps_of-requires-clause-inside c = rw c.deref.ensures.value (λ s k t h.
    let head = c.args.lines.now.head.items in
    let rows = c.args.lines.now.rows.items in
    let inside = c.requires.steps_inside s k t (rows_among head rows (Step s k t) h) in
    let first = rw c.as_slice-head.ensures.value at c.states_of-states.ensures.exact in
    let states : states_of (head ++ lines_of_rows rows) ≡ c.states_of-states.result = ap states_in (at_head head rows 1 (States c.states_of-states.result) first) in
    let ops : c.in_ok-ops.ops.items ≡ ops_of head = rw c.as_slice-head.ensures.value at c.in_ok-ops.ensures.exact in
    let count : c.len.result ≡ length (ops_of (head ++ lines_of_rows rows)) = omega (arith, c.len.ensures, c.in_ok-ops.ops.ok.0, ap length ops, ap length (head_ops head rows)) in
    (omega (arith, inside.0, states), omega (arith, inside.1, count), omega (arith, inside.2, states)))

pub steps_of-requires-clause-once : goal.steps_of-requires-clause-once
steps_of-requires-clause-once c = rw c.deref.ensures.value (λ s k t u h l. c.requires.steps_once s k t u (rows_among c.args.lines.now.head.items c.args.lines.now.rows.items (Step s k t) h) (rows_among c.args.lines.now.head.items c.args.lines.now.rows.items (Step s k u) l))

pub steps_of-requires-clause-ops_fit : goal.steps_of-requires-clause-ops_fit
steps_of-requires-clause-ops_fit c =
    let head = c.args.lines.now.head.items in
    let rows = c.args.lines.now.rows.items in
    let ops : c.in_ok-ops.ops.items ≡ ops_of head = rw c.as_slice-head.ensures.value at c.in_ok-ops.ensures.exact in
    omega (arith, c.len.ensures, c.in_ok-ops.ops.ok.0, ap length ops, ap length (head_ops head rows), c.requires.ops_fit)

pub unreachable-requires : goal.unreachable-requires
unreachable-requires c =
    let head = c.args.lines.now.head.items in
    let rows = c.args.lines.now.rows.items in
    let T : Table = record { name = c.name_of.result; states = c.states_of-states.result; initial = c.initial_of.result; ops = c.in_ok-ops.ops.items; steps = c.in_ok-steps.steps.items } in
    let count : c.len.result ≡ length T.ops = omega (arith, c.len.ensures, c.in_ok-ops.ops.ok.0) in
    let name = rw c.as_slice-head.ensures.value at c.name_of.ensures in
    let states = rw c.as_slice-head.ensures.value at c.states_of-states.ensures.exact in
    let initial = rw c.as_slice-head.ensures.value at c.initial_of.ensures.exact in
    let inside = rw c.as_slice-head.ensures.value at c.initial_of.ensures.inside in
    let ops = rw c.as_slice-head.ensures.value at c.in_ok-ops.ensures.exact in
    let steps = rw (c.deref.ensures.value, count) at c.in_ok-steps.ensures.exact in
    let parts : AreParts (kept_lines c.args.lines.now) T = record {
      name = at_head head rows 0 (TypeName T.name) name;
      states = at_head head rows 1 (States T.states) states;
      initial = at_head head rows 2 (Initial T.initial) initial;
      some = c.states_of-states.ensures.some;
      fit = c.states_of-states.ensures.fit;
      inside = rw (head_states head rows) inside;
      ops = ops ∙ sym (head_ops head rows);
      no_twin = c.in_ok-ops.ensures.no_twin;
      whole = rw count at c.in_ok-steps.ensures.whole;
      entries = AreStepsOf-whole head rows c.args.lines.now.heads (length T.ops) T.steps steps;
    } in
    let none = parts-fault (kept_lines c.args.lines.now) T c.requires parts in
    let some = c.in-Err.ensures in
    cc

pub returns : goal.returns
returns c =
    let head = c.args.lines.now.head.items in
    let rows = c.args.lines.now.rows.items in
    let T : Table = record { name = c.name_of.result; states = c.states_of-states.result; initial = c.initial_of.result; ops = c.in_ok-ops.ops.items; steps = c.in_ok-steps.steps.items } in
    let count : c.len.result ≡ length T.ops = omega (arith, c.len.ensures, c.in_ok-ops.ops.ok.0) in
    let name = rw c.as_slice-head.ensures.value at c.name_of.ensures in
    let states = rw c.as_slice-head.ensures.value at c.states_of-states.ensures.exact in
    let initial = rw c.as_slice-head.ensures.value at c.initial_of.ensures.exact in
    let inside = rw c.as_slice-head.ensures.value at c.initial_of.ensures.inside in
    let ops = rw c.as_slice-head.ensures.value at c.in_ok-ops.ensures.exact in
    let steps = rw (c.deref.ensures.value, count) at c.in_ok-steps.ensures.exact in
    let parts : AreParts (kept_lines c.args.lines.now) T = record {
      name = at_head head rows 0 (TypeName T.name) name;
      states = at_head head rows 1 (States T.states) states;
      initial = at_head head rows 2 (Initial T.initial) initial;
      some = c.states_of-states.ensures.some;
      fit = c.states_of-states.ensures.fit;
      inside = rw (head_states head rows) inside;
      ops = ops ∙ sym (head_ops head rows);
      no_twin = c.in_ok-ops.ensures.no_twin;
      whole = rw count at c.in_ok-steps.ensures.whole;
      entries = AreStepsOf-whole head rows c.args.lines.now.heads (length T.ops) T.steps steps;
    } in
    rw c.in-Ok.ensures.1 (parts-table (kept_lines c.args.lines.now) T c.requires parts)
