use Rattle.equi_cert.proofs.Words.{has_bit-set}
use Rattle.equi_cert.proofs.bits.set_bit.Goals as goal

pub returns : goal.returns
returns c = λ i. has_bit-set c.args.words.now c.args.position i c.requires
