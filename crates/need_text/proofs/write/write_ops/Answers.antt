use Rattle.need_text.proofs.write.write_ops.Goals as goal

pub returns : goal.returns
returns g c = rw c.ops.ensures at c.write_listed.ensures
