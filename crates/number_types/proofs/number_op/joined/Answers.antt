use Rattle.std.proofs.Common.{length, refl, ◌∙◌}
use Rattle.number_types.proofs.NumberedNames.{two_pieces}
use Rattle.number_types.proofs.number_op.joined.Goals as goal

pub named-requires : goal.named-requires
named-requires c =
    rw (c.copy_from_slice.ensures.after, c.copy_from_slice-2.ensures.after, two_pieces c.args.word.now c.args.what.now _ (length c.args.word.now) (length c.args.what.now) refl refl) c.requires.name

pub returns : goal.returns
returns c = c.named.ensures ∙ rw (c.copy_from_slice.ensures.after, c.copy_from_slice-2.ensures.after) (two_pieces c.args.word.now c.args.what.now _ (length c.args.word.now) (length c.args.what.now) refl refl)
