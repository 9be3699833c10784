use Rattle.std.specs.Cmp.Lexicographic.{same_text}
use Rattle.std.proofs.Common.{refl}
use Rattle.command_words.proofs.ServeLemmas.{archive_other, archive_said, dashes_other, dashes_said, differs, database_other, database_said, drain_other, drain_said, fast_other, fast_said, no_option, no_value, none_say, outcomes_other, outcomes_said, with_first, with_two}
use Rattle.command_words.proofs.serve.+parts_of.Goals as goal

pub returns-in_default-clause-said : goal.returns-in_default-clause-said
returns-in_default-clause-said t c = none_say c.args.words.now c.in_default.ensures.cases

pub returns-then-eq-clause-said : goal.returns-then-eq-clause-said
returns-then-eq-clause-said t c =
    fast_said _ _ _ _ c.parts_of.ensures.said c.parts_of.ensures.other (with_first _ _ _ _ c.in-Some.ensures.cases.0 (same_text _ _ c.if-eq.ensures)) c.with_fast.ensures.said

pub returns-then-eq-clause-other : goal.returns-then-eq-clause-other
returns-then-eq-clause-other t c =
    fast_other _ _ _ _ c.parts_of.ensures.said c.parts_of.ensures.other (with_first _ _ _ _ c.in-Some.ensures.cases.0 (same_text _ _ c.if-eq.ensures)) c.with_fast.ensures.other

pub returns-then-is_plain-clause-said : goal.returns-then-is_plain-clause-said
returns-then-is_plain-clause-said t c =
    database_said _ _ _ _ c.parts_of-then-is_plain.ensures.said c.parts_of-then-is_plain.ensures.other c.in-Some.word.now (with_first _ _ _ _ c.in-Some.ensures.cases.0 refl)
    (c.is_plain.ensures.plain c.if-is_plain.true) c.with_database.ensures.said

pub returns-then-is_plain-clause-other : goal.returns-then-is_plain-clause-other
returns-then-is_plain-clause-other t c =
    database_other _ _ _ _ c.parts_of-then-is_plain.ensures.said c.parts_of-then-is_plain.ensures.other _ (with_first _ _ _ _ c.in-Some.ensures.cases.0 refl)
    (c.is_plain.ensures.plain c.if-is_plain.true) c.with_database.ensures.other

pub returns-in-text-clause-said : goal.returns-in-text-clause-said
returns-in-text-clause-said t c =
    archive_said _ _ _ _ c.parts_of-in-text.ensures.said c.parts_of-in-text.ensures.other c.in_ok-value.value.now (with_two _ _ _ _ _ _ c.in-Some.ensures.cases.0 c.in_ok-value.ensures.cases.0 c.in-text.is) c.with_archive.ensures.said

pub returns-in-text-clause-other : goal.returns-in-text-clause-other
returns-in-text-clause-other t c =
    archive_other _ _ _ _ c.parts_of-in-text.ensures.said c.parts_of-in-text.ensures.other _ (with_two _ _ _ _ _ _ c.in-Some.ensures.cases.0 c.in_ok-value.ensures.cases.0 c.in-text.is) c.with_archive.ensures.other

pub returns-in-text-2-clause-said : goal.returns-in-text-2-clause-said
returns-in-text-2-clause-said t c =
    drain_said _ _ _ _ c.parts_of-in-text-2.ensures.said c.parts_of-in-text-2.ensures.other _ (with_two _ _ _ _ _ _ c.in-Some.ensures.cases.0 c.in_ok-value.ensures.cases.0 c.in-text-2.is) c.with_drain.ensures.said

pub returns-in-text-2-clause-other : goal.returns-in-text-2-clause-other
returns-in-text-2-clause-other t c =
    drain_other _ _ _ _ c.parts_of-in-text-2.ensures.said c.parts_of-in-text-2.ensures.other _ (with_two _ _ _ _ _ _ c.in-Some.ensures.cases.0 c.in_ok-value.ensures.cases.0 c.in-text-2.is) c.with_drain.ensures.other

pub returns-in-text-3-clause-said : goal.returns-in-text-3-clause-said
returns-in-text-3-clause-said t c =
    outcomes_said _ _ _ _ c.parts_of-in-text-3.ensures.said c.parts_of-in-text-3.ensures.other _ (with_two _ _ _ _ _ _ c.in-Some.ensures.cases.0 c.in_ok-value.ensures.cases.0 c.in-text-3.is) c.with_outcomes.ensures.said

pub returns-in-text-3-clause-other : goal.returns-in-text-3-clause-other
returns-in-text-3-clause-other t c =
    outcomes_other _ _ _ _ c.parts_of-in-text-3.ensures.said c.parts_of-in-text-3.ensures.other _ (with_two _ _ _ _ _ _ c.in-Some.ensures.cases.0 c.in_ok-value.ensures.cases.0 c.in-text-3.is) c.with_outcomes.ensures.other

pub returns-in-text-4-clause-said : goal.returns-in-text-4-clause-said
returns-in-text-4-clause-said t c =
    dashes_said _ _ _ _ c.parts_of-in-text-4.ensures.said c.parts_of-in-text-4.ensures.other c.in_ok-value.value.now (with_two _ _ _ _ _ _ c.in-Some.ensures.cases.0 c.in_ok-value.ensures.cases.0 c.in-text-4.is) c.with_database-in-text-4.ensures.said

pub returns-in-text-4-clause-other : goal.returns-in-text-4-clause-other
returns-in-text-4-clause-other t c =
    dashes_other _ _ _ _ c.parts_of-in-text-4.ensures.said c.parts_of-in-text-4.ensures.other _ (with_two _ _ _ _ _ _ c.in-Some.ensures.cases.0 c.in_ok-value.ensures.cases.0 c.in-text-4.is) c.with_database-in-text-4.ensures.other

pub returns-in_err-value-clause-other : goal.returns-in_err-value-clause-other
returns-in_err-value-clause-other t c =
    rw c.from_residual.ensures
    (no_value _ _ _ (with_first _ _ _ _ c.in-Some.ensures.cases.0 refl) c.in_err-value.ensures.cases (differs _ c.if-eq.ensures) (c.is_plain.ensures.other c.if-is_plain.false))

pub returns-in_default-word-clause-other : goal.returns-in_default-word-clause-other
returns-in_default-word-clause-other t c =
    no_option _ _ _ _ (with_two _ _ _ _ _ _ c.in-Some.ensures.cases.0 c.in_ok-value.ensures.cases.0 refl) (differs _ c.if-eq.ensures) (c.is_plain.ensures.other c.if-is_plain.false)
    c.in_default-word.not-text c.in_default-word.not-text-2 c.in_default-word.not-text-3 c.in_default-word.not-text-4
