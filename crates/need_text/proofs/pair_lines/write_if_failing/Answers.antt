use Rattle.need_text.proofs.pair_lines.write_if_failing.Goals as goal

pub returns-in-Some : goal.returns-in-Some
returns-in-Some g c = rw c.in-Some.is c.write_witness.ensures
