use Rattle.std.proofs.Common.{◌≡◌, length, inl, inr, refl, ap, arith}
use Rattle.type_table.specs.declared.table_kind.TableKind.TheVariants.{Undo, Intentions}
use Rattle.type_text.specs.TypeLines.{states_in}
use Rattle.type_text.specs.declared.type_line.TypeLine.TheVariants.{Reach, Equi, Conflict}
use Rattle.type_text.proofs.Rows.{rows_among}
use Rattle.type_text.proofs.RowFiles.{among, IsReached-whole}
use Rattle.type_text.proofs.build.file_of.Goals as goal

pub reach_of-reach-requires-clause-inside : goal.reach_of-reach-requires-clause-inside
reach_of-reach-requires-clause-inside c = rw c.deref.ensures.value (λ s h.
    let head = c.args.lines.now.head.items in
    let rows = c.args.lines.now.rows.items in
    let inside = c.requires.reach_inside s (rows_among head rows (Reach s) h) in
    omega (arith, inside, ap states_in c.in_ok-table.ensures.states, c.states-states.ensures.exact))

pub relation_of-requires-clause-inside : goal.relation_of-requires-clause-inside
relation_of-requires-clause-inside c = rw c.deref-2.ensures.value (λ s t h.
    let head = c.args.lines.now.head.items in
    let rows = c.args.lines.now.rows.items in
    let inside = c.requires.equi_inside s t (rows_among head rows (Equi s t) h) in
    let states = ap states_in c.in_ok-table.ensures.states in
    (omega (arith, inside.0, states, c.states-states.ensures.exact), omega (arith, inside.1, states, c.states-states.ensures.exact)))

pub conflicts_of-undo-requires-clause-inside : goal.conflicts_of-undo-requires-clause-inside
conflicts_of-undo-requires-clause-inside c = rw c.deref-3.ensures.value (λ p q h.
    let head = c.args.lines.now.head.items in
    let rows = c.args.lines.now.rows.items in
    let inside = c.requires.conflicts_inside Undo p q (rows_among head rows (Conflict Undo p q) h) in
    let count = ap length c.in_ok-table.ensures.ops in
    (omega (arith, inside.0, count, c.op_count-ops.ensures.exact), omega (arith, inside.1, count, c.op_count-ops.ensures.exact)))

pub conflicts_of-intentions-requires-clause-inside : goal.conflicts_of-intentions-requires-clause-inside
conflicts_of-intentions-requires-clause-inside c = rw c.deref-4.ensures.value (λ p q h.
    let head = c.args.lines.now.head.items in
    let rows = c.args.lines.now.rows.items in
    let inside = c.requires.conflicts_inside Intentions p q (rows_among head rows (Conflict Intentions p q) h) in
    let count = ap length c.in_ok-table.ensures.ops in
    (omega (arith, inside.0, count, c.op_count-ops.ensures.exact), omega (arith, inside.1, count, c.op_count-ops.ensures.exact)))

pub returns : goal.returns
returns c =
    let head = c.args.lines.now.head.items in
    let rows = c.args.lines.now.rows.items in
    let heads = c.args.lines.now.heads in
    let states : c.states-states.result ≡ c.in_ok-table.table.states = c.states-states.ensures.exact in
    let reach = rw (c.deref.ensures.value, states) at c.reach_of-reach.ensures.exact in
    let relation = rw (c.deref-2.ensures.value, states) at c.in_ok-relation.ensures.exact in
    let undo = rw c.deref-3.ensures.value at c.conflicts_of-undo.ensures.exact in
    let intentions = rw c.deref-4.ensures.value at c.conflicts_of-intentions.ensures.exact in
    record {
      table = c.in_ok-table.ensures;
      reach = λ s.
          let same = IsReached-whole head rows heads c.in_ok-table.table.states s in
          (λ e. same.0 ((reach s).0 e), λ h. (reach s).1 (same.1 h));
      relation = λ s t s_in t_in.
          let same = among head rows heads (Equi s t) refl in (
            λ e. elim ((relation s t s_in t_in).0 e) [ inl one ↦ inl one | inr other ↦ inr (same.0 other) ],
            λ h. elim h [ inl one ↦ (relation s t s_in t_in).1 (inl one) | inr other ↦ (relation s t s_in t_in).1 (inr (same.1 other)) ],
          );
      undo = λ p q.
          let same = among head rows heads (Conflict Undo p q) refl in
          (λ e. same.0 ((undo p q).0 e), λ h. (undo p q).1 (same.1 h));
      intentions = λ p q.
          let same = among head rows heads (Conflict Intentions p q) refl in
          (λ e. same.0 ((intentions p q).0 e), λ h. (intentions p q).1 (same.1 h));
    }
