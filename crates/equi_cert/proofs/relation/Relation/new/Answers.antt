use Rattle.std.proofs.Common.{length, ap, arith, refl, ◌∙◌}
use Rattle.std.proofs.lemmas.Bool.{eq-eqb}
use Rattle.std.proofs.lemmas.List.{with_items_is}
use Rattle.equi_cert.proofs.Words.{bits-added}
use Rattle.equi_cert.proofs.Rows.{square-rows_by}
use Rattle.equi_cert.proofs.Cells.{diagonal-more, diagonal-all, relation-from_words, room-kept}
use Rattle.equi_cert.proofs.relation.Relation.new.Goals as goal

pub loop-s-preserved : goal.loop-s-preserved
loop-s-preserved c =
    let shown = with_items_is c.loop-s.words c.set_bit.new.words (omega arith) in
    let h = bits-added c.loop-s.words.items _ c.set_bit.new.words _ _ _ c.deref_mut.ensures.value shown c.place_of.ensures c.set_bit.ensures in (
      room-kept c.args.states c.loop-s.words.items _ c.loop-s.invariant.0 (ap length shown ∙ omega arith),
      diagonal-more c.args.states c.loop-s.s c.loop-s.words.items _ c.loop-s-test.true c.loop-s.invariant.1 h,
    )

pub invariant_of-result : goal.invariant_of-result
invariant_of-result c = (
  c.loop-s.invariant.0,
  relation-from_words c.args.states c.loop-s.words.items c.requires.some_states c.requires.states_fit (λ s s_in.
      diagonal-all c.args.states c.loop-s.s s s c.loop-s.words.items c.loop-s.invariant.1 (omega arith) s_in s_in ∙ eq-eqb s s refl),
)

pub returns-clause-square : goal.returns-clause-square
returns-clause-square c = square-rows_by c.args.states _

pub returns-clause-pairs : goal.returns-clause-pairs
returns-clause-pairs c = λ s t s_in t_in. diagonal-all c.args.states c.loop-s.s s t c.loop-s.words.items c.loop-s.invariant.1 (omega arith) s_in t_in
