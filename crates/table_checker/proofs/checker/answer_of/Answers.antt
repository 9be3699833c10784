use Rattle.std.proofs.Common.{rules}
use Rattle.table_checker.proofs.checker.answer_of.Goals as goal

pub commuting-requires : goal.commuting-requires
commuting-requires c = record { table = search rules; certified = c.requires.certified; passes = rw c.in-None.is at c.requires.searched }
