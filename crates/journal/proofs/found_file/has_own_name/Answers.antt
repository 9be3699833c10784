use Rattle.std.proofs.Common.{◌+◌}
use Rattle.journal.proofs.Emptied.{numbered-so}
use Rattle.journal.proofs.found_file.has_own_name.Goals as goal

pub returns-then-is_number : goal.returns-then-is_number
returns-then-is_number c = λ is other named. let here = numbered-so c.args.object.now (c.args.tree + 1) (c.is_number.ensures is) in absurd (cc)
