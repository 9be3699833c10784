use Rattle.equi_cert.proofs.Rows.{same-pairs}
use Rattle.equi_cert.proofs.laws.same_pairs.Goals as goal

pub returns : goal.returns
returns c = same-pairs
