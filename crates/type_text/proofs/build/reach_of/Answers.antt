use Rattle.std.proofs.Common.{◌≡◌, ◌<◌, length, get_or, ◌∙◌, sym, true, false, inl, inr, arith}
use Rattle.std.proofs.lemmas.List.{take_all, get_or-replicate}
use Rattle.std.specs.List.{list_any}
use Rattle.type_text.specs.Reach.{is_reach}
use Rattle.type_text.specs.Rows.{lines_of_rows}
use Rattle.type_text.proofs.Pairs.{AreMembersOf, members_more, no_reach, some_reach, some_member, all_below}
use Rattle.type_text.proofs.Members.{at-place}
use Rattle.type_text.proofs.Rows.{row_line, row_count, rows_any}
use Rattle.type_text.proofs.build.reach_of.Goals as goal

pub add_reach-requires : goal.add_reach-requires
add_reach-requires c = λ s e.
    let rows = c.args.rows.now in
    let i = c.loop-row.row-index in
    let x = c.line_of_row.result in
    let below : i < length (lines_of_rows rows) = omega (arith, row_count rows, c.loop-row-test.true) in
    let here : x ≡ get_or (lines_of_rows rows) i x = row_line rows i _ x c.loop-row-test.true c.line_of_row.ensures in
    let inside = c.requires.inside s (rw e at (at-place (lines_of_rows rows) i x below here)) in
    (omega (arith, inside, c.loop-row.invariant.0), omega (arith, inside, c.requires.fit))

pub loop-row-preserved : goal.loop-row-preserved
loop-row-preserved c =
    let rows = c.args.rows.now in
    let i = c.loop-row.row-index in
    let x = c.line_of_row.result in
    let below : i < length (lines_of_rows rows) = omega (arith, row_count rows, c.loop-row-test.true) in
    let here : x ≡ get_or (lines_of_rows rows) i x = row_line rows i _ x c.loop-row-test.true c.line_of_row.ensures in (
      c.add_reach.ensures.fits ∙ c.loop-row.invariant.0,
      members_more (lines_of_rows rows) i x c.loop-row.set c.add_reach.new.set below here c.loop-row.invariant.1 c.add_reach.ensures.members,
    )

pub returns-clause-exact : goal.returns-clause-exact
returns-clause-exact c =
    let rows = c.args.rows.now in
    let whole = take_all c.loop-row.row-index (lines_of_rows rows) (omega (arith, row_count rows, c.loop-row-test.false)) in
    let members : AreMembersOf (lines_of_rows rows) c.loop-row.set = rw whole at c.loop-row.invariant.1 in
    let some : list_any is_reach (lines_of_rows rows) ≡ true = sym (c.has_reach.ensures ∙ rows_any is_reach rows) ∙ c.if-not-has_reach.false in
    let found = some_reach (lines_of_rows rows) some in
    λ s. (
      λ h. inl ((members s).0 h),
      λ h. elim h [
        | inl among ↦ (members s).1 among
        | inr none ↦ absurd (none.1 found.0 found.1)
      ],
    )

pub returns-clause-some : goal.returns-clause-some
returns-clause-some c =
    let rows = c.args.rows.now in
    let whole = take_all c.loop-row.row-index (lines_of_rows rows) (omega (arith, row_count rows, c.loop-row-test.false)) in
    let members : AreMembersOf (lines_of_rows rows) c.loop-row.set = rw whole at c.loop-row.invariant.1 in
    let some : list_any is_reach (lines_of_rows rows) ≡ true = sym (c.has_reach.ensures ∙ rows_any is_reach rows) ∙ c.if-not-has_reach.false in
    let found = some_reach (lines_of_rows rows) some in
    some_member c.loop-row.set found.0 (omega (arith, c.requires.inside found.0 found.1, c.loop-row.invariant.0)) ((members found.0).1 found.1)

pub returns-then-not-has_reach-clause-exact : goal.returns-then-not-has_reach-clause-exact
returns-then-not-has_reach-clause-exact c =
    let none : list_any is_reach (lines_of_rows c.args.rows.now) ≡ false = sym (c.has_reach.ensures ∙ rows_any is_reach c.args.rows.now) ∙ c.if-not-has_reach.true in
    λ s. (
      λ h. inr (all_below c.args.states s (rw c.all.ensures at h), no_reach (lines_of_rows c.args.rows.now) none),
      λ h. elim h [
        | inl among ↦ absurd (no_reach (lines_of_rows c.args.rows.now) none s among)
        | inr parts ↦ rw c.all.ensures (get_or-replicate c.args.states s true false parts.0)
      ],
    )
