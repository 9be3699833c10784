use Rattle.table_maker.proofs.NameBytes.{name-bytes}
use Rattle.table_maker.proofs.names.prefixed.Goals as goal

pub named_of-requires-clause-what : goal.named_of-requires-clause-what
named_of-requires-clause-what c = rw c.as_bytes.ensures.exact (name-bytes c.args.name c.as_bytes.ensures.name).0

pub named_of-requires-clause-some : goal.named_of-requires-clause-some
named_of-requires-clause-some c = rw c.as_bytes.ensures.exact (name-bytes c.args.name c.as_bytes.ensures.name).1
