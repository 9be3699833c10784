use Rattle.std.proofs.Common.{length, refl}
use Rattle.table_maker.proofs.NameBytes.{name_bytes-append, two_pieces}
use Rattle.table_maker.proofs.names.named_of.Goals as goal

pub named-requires-clause-bytes : goal.named-requires-clause-bytes
named-requires-clause-bytes c =
    rw (c.copy_from_slice.ensures.after, c.copy_from_slice-2.ensures.after, two_pieces c.args.word.now c.args.what.now _ (length c.args.word.now) (length c.args.what.now) refl refl)
    (name_bytes-append c.args.word.now c.args.what.now c.requires.word c.requires.what)
