use Rattle.std.proofs.Common.{length, ap, ◌∙◌, arith}
use Rattle.std.proofs.lemmas.List.{with_items_is}
use Rattle.equi_cert.proofs.Words.{bits-added}
use Rattle.equi_cert.proofs.Rows.{square-rows_by}
use Rattle.equi_cert.proofs.Cells.{place_fits, states_shown, relates-added, room-kept, relation-added}
use Rattle.equi_cert.proofs.relation.Relation.add.Goals as goal

pub set_bit-requires : goal.set_bit-requires
set_bit-requires c =
    let states_is = states_shown c.self.inside.states c.self.inside.words.items c.args.self.now c.self.view_is in
    rw (c.place_of.ensures, c.deref_mut.ensures.value) (place_fits c.self.inside.states _ _ c.self.inside.words.items c.self.invariant.0 (omega (arith, states_is)) (omega (arith, states_is)))

pub invariant_of-self : goal.invariant_of-self
invariant_of-self c =
    let shown = with_items_is c.self.inside.words c.set_bit.new.words (omega arith) in
    let h = bits-added c.self.inside.words.items _ c.set_bit.new.words _ _ _ c.deref_mut.ensures.value shown c.place_of.ensures c.set_bit.ensures in
    let states_is = states_shown c.self.inside.states c.self.inside.words.items c.args.self.now c.self.view_is in (
      room-kept c.self.inside.states c.self.inside.words.items _ c.self.invariant.0 (ap length shown ∙ omega arith),
      relation-added c.self.inside.states _ _ c.self.inside.words.items _ c.self.invariant.1 (omega (arith, states_is)) (omega (arith, states_is)) h,
    )

pub returns-clause-square : goal.returns-clause-square
returns-clause-square c =
    let states_is = states_shown c.self.inside.states c.self.inside.words.items c.args.self.now c.self.view_is in
    rw states_is (square-rows_by c.self.inside.states _)

pub returns-clause-pairs : goal.returns-clause-pairs
returns-clause-pairs c =
    let shown = with_items_is c.self.inside.words c.set_bit.new.words (omega arith) in
    let h = bits-added c.self.inside.words.items _ c.set_bit.new.words _ _ _ c.deref_mut.ensures.value shown c.place_of.ensures c.set_bit.ensures in
    relates-added c.self.inside.states c.args.s c.args.t c.self.inside.words.items _ c.args.self.now c.self.view_is c.requires.first c.requires.second h
