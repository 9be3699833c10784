use Rattle.std.proofs.Common.{ap, sym, ◌∙◌, arith}
use Rattle.equi_cert.specs.Relation.{relates}
use Rattle.equi_cert.proofs.Cells.{place_fits, states_shown, relates-rows_of}
use Rattle.equi_cert.proofs.relation.Relation.has.Goals as goal

pub has_bit-requires : goal.has_bit-requires
has_bit-requires c =
    let states_is = states_shown c.self.inside.states c.self.inside.words.items c.args.self.now c.self.view_is in
    rw (c.place_of.ensures, c.deref.ensures.value) (place_fits c.self.inside.states _ _ c.self.inside.words.items c.self.invariant.0 (omega (arith, states_is)) (omega (arith, states_is)))

pub returns : goal.returns
returns c =
    let states_is = states_shown c.self.inside.states c.self.inside.words.items c.args.self.now c.self.view_is in
    c.has_bit.ensures
    ∙ rw (c.place_of.ensures, c.deref.ensures.value) (sym (relates-rows_of c.self.inside.states c.args.s c.args.t c.self.inside.words.items (omega (arith, states_is)) (omega (arith, states_is))))
    ∙ ap (λ rows. relates rows c.args.s c.args.t) c.self.view_is
